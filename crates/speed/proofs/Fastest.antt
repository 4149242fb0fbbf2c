-- Laws of the fastest speed that can still stop, and of the next speed.
use Rattle.std.proofs.Common.{◌≡◌, ℕ, zero, suc, ◌+◌, ◌-◌, ◌<◌, ◌≤◌, min, max, inl, inr, arith}
use Rattle.std.proofs.lemmas.Bool.Decides.{nat_tests}
use Rattle.std.proofs.lemmas.Bool.{cases_lt}
use Rattle.speed.specs.Speeds.{stopping, fastest, next_speed}
use Rattle.speed.specs.Laws.{Next}
use Rattle.speed.proofs.Stopping.{slow, slows, grows}

pub at_most : (a l u : ℕ) → fastest a l u ≤ u
unfolding fastest
at_most a l zero = omega arith
at_most a l (suc u) = let h : fastest a l u ≤ u = at_most a l u in grind (arith, nat_tests)

pub fits : (a l u : ℕ) → fastest a l u + stopping a (fastest a l u) ≤ l
unfolding fastest
fits a l zero = omega (arith, slow a 0 (omega arith))
fits a l (suc u) = let h : fastest a l u + stopping a (fastest a l u) ≤ l = fits a l u in grind (arith, nat_tests)

pub best : (a l u v : ℕ) → v ≤ u → v + stopping a v ≤ l → v ≤ fastest a l u
unfolding fastest
best a l zero v h i = omega arith
best a l (suc u) v h i =
    elim (cases_lt v (suc u)) [
      | inl k ↦ let r : v ≤ fastest a l u = best a l u v (omega arith) i in let s : fastest a l u ≤ u = at_most a l u in grind (arith, nat_tests)
      | inr k ↦ let e : v ≡ suc u = omega arith in let j : suc u + stopping a (suc u) ≤ l = rw e at i in grind (arith, nat_tests)
    ]

-- what a lower speed that can't stop leaves: nothing from there on can
pub cut : (a l u m : ℕ) → 1 ≤ a → m ≤ u → l < m + stopping a m → (fastest a l u < m) × (fastest a l u ≡ fastest a l m)
cut a l u m p h i =
    let below : fastest a l u < m = elim (cases_lt (fastest a l u) m) [
      | inl k ↦ k
      | inr k ↦ absurd (omega (arith, grows a m (fastest a l u) p k, fits a l u))
    ] in
    (below, omega (arith, best a l m (fastest a l u) (omega arith) (fits a l u), best a l u (fastest a l m) (omega (arith, at_most a l m)) (fits a l m)))

-- the next speed, where the search between the slowest and the highest speed ends: at once, or by bisection
module _ (a c l v : ℕ) (p : 1 ≤ a) where
  pub at_slowest : min c (v + a) ≤ v - a → next_speed a c l v ≡ v - a
  unfolding next_speed
  at_slowest h = omega (arith, at_most a l (v + a))

  pub at_highest : v - a < min c (v + a) → min c (v + a) + stopping a (min c (v + a)) ≤ l → next_speed a c l v ≡ min c (v + a)
  unfolding next_speed
  at_highest h i = omega (arith, at_most a l (v + a), best a l (v + a) (min c (v + a)) (omega arith) i)

  pub between : v - a < min c (v + a) → l < min c (v + a) + stopping a (min c (v + a)) → next_speed a c l v ≡ max (v - a) (fastest a l (min c (v + a)))
  unfolding next_speed
  between h i = let k = cut a l (v + a) (min c (v + a)) p (omega arith) i in omega (arith, k.0, k.1)

  pub no_more : next_speed a c l v ≤ v + a
  unfolding next_speed
  no_more = omega (arith, at_most a l (v + a))

  pub next : stopping a v ≤ l → Next a c l v (next_speed a c l v)
  unfolding next_speed
  next h = record {
    up = omega (arith, at_most a l (v + a));
    down = omega arith;
    capped = elim (cases_lt c (v - a)) [ inl k ↦ inr (omega arith) | inr k ↦ inl (omega arith) ];
    fits = fitting;
    moves = λ i j. omega (arith, best a l (v + a) 1 (omega arith) (omega (arith, slow a 1 p)));
  }
    where
      fitting : max (v - a) (min (fastest a l (v + a)) c) + stopping a (max (v - a) (min (fastest a l (v + a)) c)) ≤ l
      fitting = elim (cases_lt (min (fastest a l (v + a)) c) (v - a)) [
        | inl k ↦ let e : max (v - a) (min (fastest a l (v + a)) c) ≡ v - a = omega arith in rw e (omega (arith, slows a v p))
        | inr k ↦ let e : max (v - a) (min (fastest a l (v + a)) c) ≡ min (fastest a l (v + a)) c = omega arith in rw e (omega (arith, grows a (min (fastest a l (v + a)) c) (fastest a l (v + a)) p (omega arith), fits a l (v + a)))
      ]

-- what the looks for the next speed rest on, and the bisection among them
pub ruleset looks = (at_slowest, at_highest, between)

pub ruleset bisection = (best, cut)
