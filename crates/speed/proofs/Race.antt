-- Fewest ticks, on numbers: our speeds against those of any other run that keeps the limits and ends in time.
use Rattle.std.proofs.Common.{◌≡◌, ℕ, suc, ◌+◌, ◌-◌, ◌<◌, ◌≤◌, min, max, ◌⊎◌, refl, inl, inr, arith}
use Rattle.std.proofs.lemmas.Bool.{cases_lt}
use Rattle.speed.specs.Speeds.{stopping, fastest, next_speed, pace}
use Rattle.speed.specs.Laws.{Next, Lawful, Run, begin, further}
use Rattle.speed.proofs.Stopping.{slow, slows, grows}
use Rattle.speed.proofs.Fastest.{at_most, fits, best, next}

-- ours is at x with speed v, the other's at y with w: ours is not behind, and not slower but where one more could not stop
record Ahead (a c l x v y w : ℕ) : Type 0 where
  can : x + stopping a v ≤ l
  on : y ≤ x
  fast : (w ≤ v) ⊎ ((w ≤ c) × (l < x + 1 + stopping a (suc v)))

-- a run that could stop after a tick could stop before it
could_stop : (a c w u y l : ℕ) → 1 ≤ a → Lawful a c w u → y + u + stopping a u ≤ l → y + stopping a w ≤ l
could_stop a c w u y l p k h = omega (arith, slows a w p, grows a (w - a) u p (omega arith))

-- f is the fastest speed that can still stop, and n the next speed
no_faster : (a c l x v y w u f n : ℕ) → 1 ≤ a → Lawful a c w u → Ahead a c l x v y w → f ≤ v + a → f + stopping a f ≤ l - x
    → n ≡ max (v - a) (min f c) → n < u → (u ≤ c) × (f ≤ n) × (suc n ≤ v + a)
no_faster a c l x v y w u f n p k i le fit e s =
    let high : u ≤ c = omega arith in
    (high, omega arith, elim (cases_lt f (v + a)) [ inl j ↦ omega arith | inr j ↦ full (omega arith) ])
  where
    full : f ≡ v + a → suc n ≤ v + a
    full q = let g : v + a + stopping a (v + a) ≤ l - x = rw q at fit in omega (arith, grows a (suc v) (v + a) p (omega arith))

module _ (a c l x v y w u : ℕ) (p : 1 ≤ a) (k : Lawful a c w u) (h : y + u + stopping a u ≤ l) (i : Ahead a c l x v y w) where
  step : ℕ
  step = next_speed a c (l - x) v

  slower : step < u → (u ≤ c) × (l < x + step + 1 + stopping a (suc step)) × (y + u ≤ x + step)
  unfolding step next_speed
  slower s =
      let z = no_faster a c l x v y w u (fastest a (l - x) (v + a)) step p k i (at_most a (l - x) (v + a)) (fits a (l - x) (v + a)) refl s in
      let past : l < x + step + 1 + stopping a (suc step) = elim (cases_lt (l - x) (suc step + stopping a (suc step))) [
        | inl j ↦ omega arith
        | inr j ↦ absurd (omega (arith, best a (l - x) (v + a) (suc step) z.2 j, z.1))
      ] in
      (z.0, past, omega (arith, grows a (suc step) u p s))

  ahead : Ahead a c l (x + step) step (y + u) u
  unfolding step
  ahead =
      let t : Next a c (l - x) v step = next a c (l - x) v p (omega arith) in
      let keeps : x + step + stopping a step ≤ l = omega (arith, t.fits) in
      elim (cases_lt step u) [
        | inl s ↦ record { can = keeps; on = (slower s).2; fast = inr ((slower s).0, (slower s).1) }
        | inr s ↦ record { can = keeps; on = omega arith; fast = inl s }
      ]

-- and so it stays ahead of the whole run
race : (a c l x v n y w : ℕ) → 1 ≤ a → x + stopping a v ≤ l → Run a c x v n y w → y + stopping a w ≤ l
    → Ahead a c l (pace a c l x v n).at (pace a c l x v n).speed y w
unfolding pace step
race a c l x v n y w p o begin h = record { can = o; on = omega arith; fast = inl (omega arith) }
race a c l x v n y w p o (further m z t u r k) h =
    ahead a c l (pace a c l x v m).at (pace a c l x v m).speed z t u p k h
    (race a c l x v m z t p o r (could_stop a c t u z l p k h))

pub fewest : (a c l x v n w : ℕ) → 1 ≤ a → x + stopping a v ≤ l → Run a c x v n l w → w ≤ a → (pace a c l x v n).at ≡ l
fewest a c l x v n w p o r k =
    let z = race a c l x v n l w p o r (omega (arith, slow a w k)) in omega (arith, z.can, z.on)
