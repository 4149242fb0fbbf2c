-- Every walk is the closed form.
use Rattle.std.proofs.Common.{◌≡◌, ℕ, zero, suc, ◌+◌, ◌-◌, ◌*◌, ◌%◌, ◌<◌, ◌≤◌, true, false, ℤ, ◌-ℤ◌, nat_abs, sym, refl, ap, ◌∙◌, inl, inr, arith}
use native.Mathlib.Nat.{div-zero, zero-div, zero-mod}
use Rattle.std.proofs.lemmas.Int.{ints}
use Rattle.std.proofs.lemmas.Bool.{cases_lt}
use Rattle.std.proofs.lemmas.Bool.Decides.{nat_tests}
use Rattle.geometry.specs.declared.place.Place.{Place}
use Rattle.circle.specs.Circles.{root, nearest_root, quarter, best, at, corner, turns, after, reach, on, index}
use Rattle.circle.specs.Laws.{On, Walk, first, CircleLaws}
use Rattle.circle.proofs.Roots.{nearest_rooted}
use Rattle.circle.proofs.Rows.{apart, quarter_rooted, best_none}
use Rattle.circle.proofs.Corners.{corner_low, corner_high}
use Rattle.circle.proofs.Symmetry.{next_only}
use Rattle.circle.proofs.Round.{stays, left, right, after_turned, after_round, after_mirrored, reach_square, on_half}
use Rattle.circle.proofs.Indices.{index_below, after_index, index_after}

pub starts : (R : ℕ) → after R 0 ≡ at (nearest_root R) 0
unfolding after turns best
starts R =
    rw (zero-div (quarter R), zero-mod (quarter R))
    (corner_low R 0 (omega arith) ∙ ap (λ (n : ℕ). at (nearest_root n) 0) (omega arith))

pub on_true : (R : ℕ) (p : Place) → on R p ≡ true → On R p
unfolding on
on_true R p h = record { inside = grind (arith, nat_tests); outside = grind (arith, nat_tests) }

pub true_on : (R : ℕ) (p : Place) → On R p → on R p ≡ true
unfolding on
true_on R p h =
    let i = h.inside in let o = h.outside in grind (arith, nat_tests)

-- with no steps in a quarter the circle is its middle
corner_none : (R j : ℕ) → quarter R ≡ 0 → corner R j ≡ at 0 0
corner_none R j e =
    elim (cases_lt (quarter R) (2 * j)) [
      | inl l ↦ corner_high R j l ∙ ap (λ (k : ℕ). at k (best R k)) k ∙ ap (at 0) b
      | inr l ↦ corner_low R j l ∙ (let h : j ≡ 0 = omega arith in ap (λ (k : ℕ). at (best R k) k) h) ∙ ap (λ (c : ℕ). at c 0) b
    ]
  where
    k : quarter R - j ≡ 0
    k = omega arith

    b : best R 0 ≡ 0
    b = best_none R (omega (arith, rw e at (quarter_rooted R)))

pub after_none : (R k : ℕ) → quarter R ≡ 0 → at 0 0 ≡ after R k
unfolding after turns
after_none R k e = rw (e, div-zero k) (sym (corner_none R (k % 0) e))

pub reaches : (R : ℕ) (p : Place) → On R p → reach p ≤ nearest_root R
reaches R p h =
    elim (cases_lt (nearest_root R) (reach p)) [
      | inl k ↦ absurd (omega (arith, apart (nearest_root R) (reach p) k, reach_square p, h.outside, (nearest_rooted R).high))
      | inr k ↦ k
    ]

module _ (R : ℕ) (p : 0 < R) where
  -- steps of at most one on an axis come to at most so many
  steps_on : (axis : Place → ℤ) → ((k : ℕ) → nat_abs (axis (after R (suc k)) -ℤ axis (after R k)) ≤ 1) →
      (n u : ℕ) → nat_abs (axis (after R (n + u)) -ℤ axis (after R n)) ≤ u
  steps_on axis one n zero = let e : n + 0 ≡ n = omega arith in rw e (omega (arith, ints))
  steps_on axis one n (suc u) =
      let e : n + suc u ≡ suc (n + u) = omega arith in
      let h : nat_abs (axis (after R (n + u)) -ℤ axis (after R n)) ≤ u = steps_on axis one n u in
      let s : nat_abs (axis (after R (suc (n + u))) -ℤ axis (after R (n + u))) ≤ 1 = one (n + u) in
      rw e (omega (arith, ints))

  pub steps_x : (n u : ℕ) → nat_abs ((after R (n + u)).x -ℤ (after R n).x) ≤ u
  steps_x = steps_on (λ q. q.x) (λ k. (left R p k).step.across)

  pub steps_y : (n u : ℕ) → nat_abs ((after R (n + u)).y -ℤ (after R n).y) ≤ u
  steps_y = steps_on (λ q. q.y) (λ k. (left R p k).step.along)

  walks_left : (w : ℕ → Place) → Walk false R w → (n : ℕ) → w 0 ≡ after R n → (k : ℕ) → w k ≡ after R (n + k)
  walks_left w h n e zero = e ∙ ap (after R) (omega arith)
  walks_left w h n e (suc k) =
      let f : n + suc k ≡ suc (n + k) = omega arith in
      next_only false R (w k) (w (suc k)) (after R (n + suc k)) (h.next k)
      (rw (walks_left w h n e k, f) (left R p (n + k)))

  pub only_left : (w : ℕ → Place) → Walk false R w → On R (w 0) → (k : ℕ) → w k ≡ after R (index R (w 0) + k)
  only_left w h o = walks_left w h (index R (w 0)) (sym (after_index R p (w 0) o))

  pub only_right : (n : ℕ) (w : ℕ → Place) → Walk true R w → w 0 ≡ after R n → (k : ℕ) → k ≤ n → w k ≡ after R (n - k)
  only_right n w h e zero l = e ∙ ap (after R) (omega arith)
  only_right n w h e (suc k) l =
      let f : n - k ≡ suc (n - suc k) = omega arith in
      next_only true R (w k) (w (suc k)) (after R (n - suc k)) (h.next k)
      (rw (only_right n w h e k (omega arith), f) (right R p (n - suc k)))

pub circle_laws : CircleLaws
unfolding root nearest_root quarter best corner turns after first
circle_laws = record {
  starts = starts;
  stays = λ R k p. stays R p k;
  half = λ R k p. on_half R (after R k) p (stays R p k);
  test = λ R p. (on_true R p, true_on R p);
  reaches = reaches;
  left = λ R k p. left R p k;
  right = λ R k p. right R p k;
  steps_x = λ R n u p. steps_x R p n u;
  steps_y = λ R n u p. steps_y R p n u;
  only_next = next_only;
  only_left = λ R w p. only_left R p w;
  only_right = λ R n w p. only_right R p n w;
  turns = λ R k p. after_turned R p k;
  round = λ R n k p. after_round R p n k;
  mirrors = λ R n j k p. after_mirrored R p n j k;
  index_below = λ R q p. index_below R p q;
  after_index = λ R q p. after_index R p q;
  index_after = λ R k p. index_after R p k;
  five = refl;
}
