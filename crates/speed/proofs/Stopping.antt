-- Laws of the stopping distance.
use Rattle.std.proofs.Common.{◌≡◌, ℕ, zero, suc, ◌+◌, ◌-◌, ◌*◌, ◌/◌, ◌%◌, ◌^◌, ◌<◌, ◌≤◌, sym, refl, ap, add-one, arith}
use Rattle.std.proofs.lemmas.Nat.{div-add-mod', mod_below, mul-le}
use Rattle.speed.specs.Speeds.{slowed, stopping}

-- at a speed of at most a there is nothing left to go
slow_in : (n a v : ℕ) → v ≤ a → slowed n a v ≡ 0
unfolding slowed
slow_in zero a v h = refl
slow_in (suc n) a v h = let r : slowed n a (v - a) ≡ 0 = slow_in n a (v - a) (omega arith) in omega arith

-- more terms than the speed change nothing
enough : (n k a v : ℕ) → 1 ≤ a → v ≤ n → v ≤ k → slowed n a v ≡ slowed k a v
unfolding slowed
enough zero k a v p h i = sym (slow_in k a v (omega arith))
enough (suc n) zero a v p h i = slow_in (suc n) a v (omega arith)
enough (suc n) (suc k) a v p h i = ap (λ (m : ℕ). (v - a) + m) (enough n k a (v - a) p (omega arith) (omega arith))

pub slow : (a v : ℕ) → v ≤ a → stopping a v ≡ 0
unfolding stopping
slow a v h = slow_in v a v h

pub slows : (a v : ℕ) → 1 ≤ a → stopping a v ≡ (v - a) + stopping a (v - a)
unfolding stopping slowed
slows a zero p = let r : slowed (0 - a) a (0 - a) ≡ 0 = slow_in (0 - a) a (0 - a) (omega arith) in omega arith
slows a (suc v) p = ap (λ (m : ℕ). (suc v - a) + m) (enough v (suc v - a) a (suc v - a) p (omega arith) (omega arith))

grows_in : (n a u v : ℕ) → u ≤ v → slowed n a u ≤ slowed n a v
unfolding slowed
grows_in zero a u v h = omega arith
grows_in (suc n) a u v h = let r : slowed n a (u - a) ≤ slowed n a (v - a) = grows_in n a (u - a) (v - a) (omega arith) in omega arith

-- a higher speed has no shorter way to stop
pub grows : (a u v : ℕ) → 1 ≤ a → u ≤ v → stopping a u ≤ stopping a v
unfolding stopping
grows a u v p h = let e : slowed u a u ≡ slowed v a u = enough u v a u p (omega arith) h in omega (arith, e, grows_in v a u v h)

slows_by : (a w : ℕ) → 1 ≤ a → stopping a (w + a) ≡ w + stopping a w
slows_by a w p = let e : w + a - a ≡ w = omega arith in rw e at (slows a (w + a) p)

-- the closed form, where k terms are enough
pub closed : (k a v : ℕ) → 1 ≤ a → k * a ≤ v → v ≤ suc k * a → 2 * stopping a v + a * (k * suc k) ≡ 2 * (k * v)
closed zero a v p h i = omega (arith, slow a v (omega arith))
closed (suc k) a v p h i = next (v - a) (omega arith) (closed k a (v - a) p (omega arith) (omega arith))
  where
    next : (w : ℕ) → v ≡ w + a → 2 * stopping a w + a * (k * suc k) ≡ 2 * (k * w) → 2 * stopping a v + a * (suc k * suc (suc k)) ≡ 2 * (suc k * v)
    next w e r = rw e (omega (arith, slows_by a w p))

-- as a division has it: with k the quotient of v by a
pub by_quotient : (a v : ℕ) → 1 ≤ a → 2 * stopping a v + a * (v / a * (v / a + 1)) ≡ 2 * (v / a * v)
by_quotient a v p =
    let d : v / a * a + v % a ≡ v = div-add-mod' v a in
    let r : v % a < a = mod_below v a p in
    let h : v / a * a ≤ v = omega arith in
    let i : v ≤ suc (v / a) * a = omega arith in
    rw add-one (closed (v / a) a v p h i)

-- what a closed form's products come to, within v * v + v
products : (a v : ℕ) → 1 ≤ a → (v / a * v ≤ v * v) × (a * (v / a * (v / a + 1)) ≤ v * (v + 1))
products a v p =
    let d : v / a * a + v % a ≡ v = div-add-mod' v a in
    let q : v / a ≤ v = omega arith in
    let t : a * (v / a) ≤ v = omega arith in
    (mul-le (v / a) v v v q (omega arith), rw assoc (mul-le (a * (v / a)) (v / a + 1) v (v + 1) t (omega arith)))
  where
    assoc : a * (v / a * (v / a + 1)) ≡ a * (v / a) * (v / a + 1)
    assoc = omega arith

-- at a speed of 32 bits, the speed and its stopping distance fit 64 bits
pub small : (a v : ℕ) → 1 ≤ a → v < 2 ^ 32 → v + stopping a v < 2 ^ 64
small a v p h =
    omega (arith, by_quotient a v p, (products a v p).0, mul-le v v 4294967295 4294967295 (omega arith) (omega arith))

-- and so does what the closed form halves and takes away, which is no more than what it takes it from
pub taken_fits : (a v : ℕ) → 1 ≤ a → v < 2 ^ 32 → a * (v / a * (v / a + 1)) < 2 ^ 64
taken_fits a v p h =
    omega (arith, (products a v p).1, mul-le v (v + 1) 4294967295 4294967296 (omega arith) (omega arith))

pub taken_le : (a v : ℕ) → 1 ≤ a → a * (v / a * (v / a + 1)) / 2 ≤ v / a * v
taken_le a v p = omega (arith, by_quotient a v p)

-- what the closed form and the loop over ticks rest on
pub ruleset closed_form = (slow, by_quotient, taken_fits, taken_le)

pub ruleset tick_by_tick = (slow, slows, small)
