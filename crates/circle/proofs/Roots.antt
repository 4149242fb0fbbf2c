-- Square roots of whole numbers, cut and rounded.
use Rattle.std.proofs.Common.{◌≡◌, ℕ, zero, suc, ◌+◌, ◌-◌, ◌*◌, ◌/◌, ◌%◌, ◌^◌, ◌<◌, ◌≤◌, ◌⊎◌, sym, ap, ◌∙◌, subst, inl, inr, div-add-mod', arith, pow_mono}
use lib.Count.{count_leading_zeros}
use Rattle.std.proofs.lemmas.Nat.{leading_length, mod_below, mul-le, one_shl, pow-add, pow_pos}
use Rattle.std.proofs.lemmas.Bool.{cases_lt}
use Rattle.std.proofs.lemmas.Bool.Decides.{nat_tests}
use Rattle.circle.specs.Circles.{root, nearest_root}

-- r is the root of n, cut
pub record Root (n r : ℕ) : Type 0 where
  pub low : r * r ≤ n
  pub high : n < suc r * suc r

pub root_is : (n : ℕ) → Root n (root n)
unfolding root
root_is zero = record { low = omega arith; high = omega arith }
root_is (suc n) =
    let h : root n * root n ≤ n = (root_is n).low in
    let k : n < suc (root n) * suc (root n) = (root_is n).high in
    record { low = grind (arith, nat_tests); high = grind (arith, nat_tests) }

-- four times a product is at most the square of the sum
means : (a b : ℕ) → 4 * (a * b) ≤ (a + b) * (a + b)
means a b =
    elim (cases_lt a b) [
      | inl k ↦ (let d = b - a in let e : b ≡ a + d = omega arith in rw e (omega arith))
      | inr k ↦ (let d = a - b in let e : a ≡ b + d = omega arith in rw e (omega arith))
    ]

-- the mean of a guess and what it divides n into is no guess too small
mean_above : (n x : ℕ) → 0 < x → n < suc ((x + n / x) / 2) * suc ((x + n / x) / 2)
mean_above n x p =
    let d = n / x in
    let y = (x + d) / 2 in
    let h : (x + suc d) * (x + suc d) ≤ (2 * suc y) * (2 * suc y) = mul-le _ _ _ _ (omega arith) (omega arith) in
    omega (arith, means x (suc d), div-add-mod' n x, mod_below n x p)

-- and where it is no less, neither is the guess too large
mean_below : (n x : ℕ) → x ≤ (x + n / x) / 2 → x * x ≤ n
mean_below n x h = omega (arith, mul-le x x x (n / x) (omega arith) (omega arith), div-add-mod' n x)

-- a guess g is not too small, and no more than 32 bits' worth
pub record Guess (n g : ℕ) : Type 0 where
  pub some : 0 < g
  pub bound : g ≤ 4294967296
  pub above : n < suc g * suc g

power_guess : (n k : ℕ) → k ≤ 64 → n < 2 ^ k → Guess n (2 ^ ((k + 1) / 2))
power_guess n k b h =
    let j = (k + 1) / 2 in
    let l : k ≤ j + j = omega arith in
    let m : j ≤ 32 = omega arith in
    record { some = pow_pos j; bound = pow_mono m; above = omega (arith, pow_mono l, pow-add 2 j j) }

-- half as many bits as n has, and a half more where they are odd
pub first_guess : (n : ℕ) → n < 2 ^ 64 → Guess n ((1 * 2 ^ ((65 - count_leading_zeros 64 n) / 2)) % 2 ^ 64)
first_guess n h =
    let l = leading_length 64 n h in
    let k = l.0 in
    let e : (65 - count_leading_zeros 64 n) / 2 ≡ (k + 1) / 2 = omega (arith, l.1) in
    let g : (1 * 2 ^ ((65 - count_leading_zeros 64 n) / 2)) % 2 ^ 64 ≡ 2 ^ ((k + 1) / 2) =
    ap (λ (j : ℕ). (1 * 2 ^ j) % 2 ^ 64) e ∙ one_shl ((k + 1) / 2) 64 (omega (arith, l.1)) in
    subst (Guess n) (sym g) (power_guess n k (omega (arith, l.1)) l.2)

root_le : (n r s : ℕ) → Root n r → Root n s → r ≤ s
root_le n r s f g =
    elim (cases_lt s r) [
      | inl k ↦ absurd (omega (arith, mul-le (suc s) (suc s) r r k k))
      | inr k ↦ k
    ]

root_only : (n r : ℕ) → Root n r → r ≡ root n
root_only n r f = omega (arith, root_le n r (root n) f (root_is n), root_le n (root n) r (root_is n) f)

-- a smaller mean is a guess, and with no smaller one the guess is the root
pub guess_next : (n x y : ℕ) → 0 < n → Guess n x → y ≡ (x + n / x) / 2 → y < x → Guess n y
guess_next n x y p g e h = record {
  some = elim (cases_lt 0 y) [ inl k ↦ k | inr k ↦ (let z : y ≡ 0 = omega arith in absurd (omega (arith, rw z at above))) ];
  bound = omega (arith, g.bound);
  above = above;
}
  where
    above : n < suc y * suc y
    above = rw e (mean_above n x g.some)

pub guess_last : (n x y : ℕ) → Guess n x → y ≡ (x + n / x) / 2 → x ≤ y → x ≡ root n
guess_last n x y g e h = root_only n x (record { low = mean_below n x (omega arith); high = g.above })

-- what the code's loop rests on
pub ruleset guesses = (first_guess, guess_next, guess_last)

-- c is the whole number nearest to the root of n
pub record Rooted (n c : ℕ) : Type 0 where
  pub low : c * c ≤ n + (c - 1)
  pub high : n ≤ c * c + c

rooted_le : (n c d : ℕ) → Rooted n c → Rooted n d → c ≤ d
rooted_le n c d f g =
    elim (cases_lt d c) [
      | inl k ↦ absurd (omega (arith, mul-le (suc d) c c c k (omega arith), mul-le d (suc d) d c (omega arith) k))
      | inr k ↦ k
    ]

pub rooted_only : (n c d : ℕ) → Rooted n c → Rooted n d → c ≡ d
rooted_only n c d f g = omega (arith, rooted_le n c d f g, rooted_le n d c g f)

half_rooted : (n r c : ℕ) → Root (4 * n) r → (r + 1 ≡ 2 * c) ⊎ (r ≡ 2 * c) → Rooted n c
half_rooted n r zero h (inl e) = absurd (omega arith)
half_rooted n r (suc c) h (inl e) =
    let f : r ≡ suc (2 * c) = omega arith in let g : Root (4 * n) (suc (2 * c)) = rw f at h in omega (arith, g.low, g.high)
half_rooted n r c h (inr e) = let g : Root (4 * n) (2 * c) = rw e at h in omega (arith, g.low, g.high)

halves : (r : ℕ) → (r + 1 ≡ 2 * ((r + 1) / 2)) ⊎ (r ≡ 2 * ((r + 1) / 2))
halves r = elim (cases_lt r (2 * ((r + 1) / 2))) [ inl k ↦ inl (omega arith) | inr k ↦ inr (omega arith) ]

pub nearest_rooted : (n : ℕ) → Rooted n (nearest_root n)
unfolding nearest_root
nearest_rooted n = half_rooted n (root (4 * n)) ((root (4 * n) + 1) / 2) (root_is (4 * n)) (halves (root (4 * n)))
