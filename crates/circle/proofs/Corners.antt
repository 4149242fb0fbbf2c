-- The first quarter, place by place.
use Rattle.std.proofs.Common.{◌≡◌, ℕ, suc, ◌-◌, ◌*◌, ◌<◌, ◌≤◌, true, false, leb, pos, sym, ap, ◌∙◌, inl, inr, arith}
use Rattle.std.proofs.lemmas.Bool.{cases_lt, cases_order, cond-true, cond-false}
use Rattle.std.proofs.lemmas.Bool.Decides.{nat_tests}
use Rattle.geometry.specs.Places.{turned}
use Rattle.geometry.specs.Frames.{exchanged}
use Rattle.geometry.proofs.Acts.{same_place}
use Rattle.circle.specs.Circles.{quarter, best, at, corner, square}
use Rattle.circle.specs.Laws.{On, Next}
use Rattle.circle.proofs.Rows.{Row, row, row_only, middle, across}
use Rattle.circle.proofs.Steps.{up_next, over_next, cross_next}

module _ (R : ℕ) where
  pub corner_low : (j : ℕ) → 2 * j ≤ quarter R → corner R j ≡ at (best R j) j
  unfolding corner
  corner_low j h = cond-true (leb (2 * j) (quarter R)) _ _ (grind (arith, nat_tests))

  pub corner_high : (j : ℕ) → quarter R < 2 * j → corner R j ≡ at (quarter R - j) (best R (quarter R - j))
  unfolding corner
  corner_high j h = cond-false (leb (2 * j) (quarter R)) _ _ (grind (arith, nat_tests))

  -- past the diagonal, by the steps that are left
  corner_left : (i : ℕ) → 2 * i < quarter R → corner R (quarter R - i) ≡ at i (best R i)
  corner_left i h =
      let e : quarter R - (quarter R - i) ≡ i = omega arith in
      corner_high (quarter R - i) (omega arith) ∙ ap (λ (k : ℕ). at k (best R k)) e

module _ (R : ℕ) (p : 0 < R) where
  -- on the diagonal
  best_middle : (h : ℕ) → quarter R ≡ 2 * h → best R h ≡ h
  best_middle h e = row_only R h h p (middle R h p e)

  -- the quarter is the same from either end
  pub corner_flip : (j : ℕ) → j ≤ quarter R → corner R (quarter R - j) ≡ exchanged true (corner R j)
  corner_flip j h =
      elim (cases_order (quarter R) (2 * j)) [
        | inl e ↦ (let f : quarter R - j ≡ j = omega arith in
            ap (corner R) f ∙ corner_low R j (omega arith) ∙ same_place (ap pos (best_middle j e)) (ap pos (sym (best_middle j e)))
            ∙ ap (exchanged true) (sym (corner_low R j (omega arith))))
        | inr k ↦ elim k [
          | inl l ↦ corner_low R (quarter R - j) (omega arith) ∙ ap (exchanged true) (sym (corner_high R j l))
          | inr l ↦ corner_left R j l ∙ ap (exchanged true) (sym (corner_low R j (omega arith)))
        ]
      ]

  pub corner_end : corner R (quarter R) ≡ turned (corner R 0)
  corner_end =
      let e : quarter R - 0 ≡ quarter R = omega arith in
      ap (corner R) (sym e) ∙ corner_flip 0 (omega arith) ∙ ap (exchanged true) (corner_low R 0 (omega arith))
      ∙ ap turned (sym (corner_low R 0 (omega arith)))

  -- one to the left, past the diagonal
  left_next : (k : ℕ) → 2 * suc k ≤ quarter R → Next false R (at (suc k) (best R (suc k))) (at k (best R k))
  left_next k h = over_next R (best R (suc k)) (best R k) k p (row R (suc k) p h) (row R k p (omega arith))

  from_left : (k : ℕ) → 2 * suc k ≤ quarter R → Next false R (corner R (quarter R - suc k)) (corner R (quarter R - k))
  from_left k h =
      rw (corner_flip (suc k) (omega arith), corner_flip k (omega arith), corner_low R (suc k) h, corner_low R k (omega arith)) (left_next k h)

  pub corner_next : (j : ℕ) → j < quarter R → Next false R (corner R j) (corner R (suc j))
  corner_next j h =
      elim (cases_lt (suc (quarter R)) (2 * suc j)) [
        | inl l ↦ (
            let e : quarter R - suc (quarter R - suc j) ≡ j = omega arith in
            let f : quarter R - (quarter R - suc j) ≡ suc j = omega arith in
            rw (e, f) at (from_left (quarter R - suc j) (omega arith))
            )
        | inr l ↦ elim (cases_lt (quarter R) (2 * suc j)) [
          | inl m ↦ (
              let t = across R j (omega arith) in
              let b : best R j ≡ suc j = row_only R (suc j) j p (omega arith) in
              let e : quarter R - j ≡ suc j = omega arith in
              let f : corner R (suc j) ≡ at j (suc j) =
              ap (corner R) (sym e) ∙ corner_flip j (omega arith) ∙ ap (exchanged true) (corner_low R j (omega arith)) ∙ ap (at j) b in
              rw (f, corner_low R j (omega arith), b) (cross_next R j t)
              )
          | inr m ↦ rw (corner_low R j (omega arith), corner_low R (suc j) (omega arith))
              (up_next R (best R j) (best R (suc j)) j p (row R j p (omega arith)) (row R (suc j) p (omega arith)))
        ]
      ]

  on_row : (b k : ℕ) → Row R b k → On R (at b k)
  unfolding square
  on_row b k r = record { inside = omega arith; outside = omega arith }

  on_column : (b k : ℕ) → Row R b k → On R (at k b)
  unfolding square
  on_column b k r = record { inside = omega arith; outside = omega arith }

  pub corner_on : (j : ℕ) → j < quarter R → On R (corner R j)
  corner_on j h =
      elim (cases_lt (quarter R) (2 * j)) [
        | inl l ↦ rw (corner_high R j l) (on_column (best R (quarter R - j)) (quarter R - j) (row R (quarter R - j) p (omega arith)))
        | inr l ↦ rw (corner_low R j l) (on_row (best R j) j (row R j p l))
      ]
