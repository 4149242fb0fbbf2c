-- Places and their indices along the walk.
use Rattle.std.proofs.Common.{◌≡◌, ℕ, zero, suc, ◌+◌, ◌-◌, ◌*◌, ◌/◌, ◌%◌, ◌<◌, ◌≤◌, true, ◌&&◌, leb, ◌⊎◌, ℤ, pos, negsuc, nat_abs, ◌≤ℤ◌, ◌<ℤ◌, sym, refl, ap, ◌∙◌, subst, inl, inr, mod-lt, div-add-mod', arith}
use lib.Signed.{lt_z, le_z}
use Rattle.std.proofs.lemmas.Nat.{div_below, mul-le}
use Rattle.std.proofs.lemmas.Int.{ints}
use Rattle.std.proofs.lemmas.Bool.{cases_lt, cond-true, cond-false}
use Rattle.std.proofs.lemmas.Bool.Decides.{nat_tests}
use Rattle.geometry.specs.declared.place.Place.{Place}
use Rattle.geometry.specs.Frames.{exchanged}
use Rattle.geometry.proofs.Acts.{same_place}
use Rattle.circle.specs.Circles.{quarter, best, at, corner, turns, after, square, into, index}
use Rattle.circle.specs.Laws.{On}
use Rattle.circle.proofs.Rows.{Row, quarter_some, row, row_only, row_low, row_some, middle_only}
use Rattle.circle.proofs.Corners.{corner_low, corner_high, corner_flip}
use Rattle.circle.proofs.Symmetry.{on_turns}
use Rattle.circle.proofs.Round.{turns_more, turns_round, after_in}

module _ (q : ℕ) where
  into_low : (a b : ℕ) → b ≤ a → into q a b ≡ b
  unfolding into
  into_low a b h = cond-true (leb b a) _ _ (grind (arith, nat_tests))

  into_high : (a b : ℕ) → a < b → into q a b ≡ q - a
  unfolding into
  into_high a b h = cond-false (leb b a) _ _ (grind (arith, nat_tests))

module _ (R : ℕ) (x y : ℤ) where
  index_first : pos 0 <ℤ x → pos 0 ≤ℤ y → index R (record { x = x; y = y }) ≡ into (quarter R) (nat_abs x) (nat_abs y)
  unfolding index
  index_first h k = cond-true (lt_z (pos 0) x && le_z (pos 0) y) _ _ (grind (arith, ints))

  index_second : x ≤ℤ pos 0 → pos 0 <ℤ y → index R (record { x = x; y = y }) ≡ quarter R + into (quarter R) (nat_abs y) (nat_abs x)
  unfolding index
  index_second h k =
      cond-false (lt_z (pos 0) x && le_z (pos 0) y) _ _ (grind (arith, ints)) ∙ cond-true (lt_z (pos 0) y) _ _ (grind (arith, ints))

  index_third : x <ℤ pos 0 → y ≤ℤ pos 0 → index R (record { x = x; y = y }) ≡ 2 * quarter R + into (quarter R) (nat_abs x) (nat_abs y)
  unfolding index
  index_third h k =
      cond-false (lt_z (pos 0) x && le_z (pos 0) y) _ _ (grind (arith, ints)) ∙ cond-false (lt_z (pos 0) y) _ _ (grind (arith, ints))
      ∙ cond-true (lt_z x (pos 0)) _ _ (grind (arith, ints))

  index_fourth : pos 0 ≤ℤ x → y ≤ℤ pos 0 → (y <ℤ pos 0) ⊎ (x ≤ℤ pos 0) → index R (record { x = x; y = y }) ≡ 3 * quarter R + into (quarter R) (nat_abs y) (nat_abs x)
  unfolding index
  index_fourth h k l =
      cond-false (lt_z (pos 0) x && le_z (pos 0) y) _ _ (grind (arith, ints)) ∙ cond-false (lt_z (pos 0) y) _ _ (grind (arith, ints))
      ∙ cond-false (lt_z x (pos 0)) _ _ (grind (arith, ints))

-- the index of a place a, b of the first quarter, turned
module _ (R a b : ℕ) where
  sizes : (z w : ℤ) → nat_abs z ≡ suc a → nat_abs w ≡ b → into (quarter R) (nat_abs z) (nat_abs w) ≡ into (quarter R) (suc a) b
  sizes z w e f = rw (e, f)

  index_turns : (n : ℕ) → n < 4 → index R (turns n (at (suc a) b)) ≡ n * quarter R + into (quarter R) (suc a) b
  unfolding turns
  index_turns zero h = omega (arith, index_first R (pos (suc a)) (pos b) (omega (arith, ints)) (omega (arith, ints)))
  index_turns (suc zero) h =
      let t = turns 1 (at (suc a) b) in
      omega (arith, index_second R t.x t.y (omega (arith, ints)) (omega (arith, ints)), sizes t.y t.x (omega (arith, ints)) (omega (arith, ints)))
  index_turns (suc (suc zero)) h =
      let t = turns 2 (at (suc a) b) in
      omega (arith, index_third R t.x t.y (omega (arith, ints)) (omega (arith, ints)), sizes t.x t.y (omega (arith, ints)) (omega (arith, ints)))
  index_turns (suc (suc (suc zero))) h =
      let t = turns 3 (at (suc a) b) in
      omega (arith, index_fourth R t.x t.y (omega (arith, ints)) (omega (arith, ints)) (inl (omega (arith, ints))), sizes t.y t.x (omega (arith, ints)) (omega (arith, ints)))
  index_turns (suc (suc (suc (suc n)))) h = absurd (omega arith)

-- a place as a place of the first quarter, turned
record Quartered (p : Place) : Type 0 where
  turn : ℕ
  a : ℕ
  b : ℕ
  below : turn < 4
  is : p ≡ turns turn (at (suc a) b)

quartered : (R : ℕ) → 0 < R → (x y : ℤ) → On R (record { x = x; y = y }) → Quartered (record { x = x; y = y })
unfolding turns square
quartered R p (pos (suc a)) (pos b) h = record { turn = 0; a = a; b = b; below = omega arith; is = refl }
quartered R p (pos zero) (pos (suc b)) h = record { turn = 1; a = b; b = 0; below = omega arith; is = refl }
quartered R p (pos zero) (pos zero) h = absurd (omega (arith, h.inside))
quartered R p (negsuc a) (pos (suc b)) h = record { turn = 1; a = b; b = suc a; below = omega arith; is = same_place (omega (arith, ints)) refl }
quartered R p (negsuc a) (pos zero) h =
    record { turn = 2; a = a; b = 0; below = omega arith; is = same_place (omega (arith, ints)) (omega (arith, ints)) }
quartered R p (negsuc a) (negsuc b) h =
    record { turn = 2; a = a; b = suc b; below = omega arith; is = same_place (omega (arith, ints)) (omega (arith, ints)) }
quartered R p (pos a) (negsuc b) h =
    record { turn = 3; a = b; b = a; below = omega arith; is = same_place (omega (arith, ints)) (omega (arith, ints)) }

on_back : (R n : ℕ) (p : Place) → n < 4 → On R (turns n p) → On R p
unfolding turns
on_back R n p h o =
    let e : (4 - n) + n ≡ 4 * 1 + 0 = omega arith in
    let f : turns (4 - n) (turns n p) ≡ p = sym (turns_more (4 - n) n p) ∙ ap (λ (m : ℕ). turns m p) e ∙ turns_round 1 0 p in
    subst (On R) f (on_turns R (4 - n) (turns n p) o)

module _ (R : ℕ) (p : 0 < R) where
  row_of : (a b : ℕ) → On R (at a b) → b ≤ a → Row R a b
  unfolding square
  row_of a b o h = record { inside = omega (arith, o.inside); outside = omega (arith, o.outside); below = h }

  column_of : (a b : ℕ) → On R (at a b) → a < b → Row R b a
  unfolding square
  column_of a b o h = record { inside = omega (arith, o.inside); outside = omega (arith, o.outside); below = omega arith }

  into_below : (a b : ℕ) → On R (at (suc a) b) → into (quarter R) (suc a) b < quarter R
  into_below a b o =
      let s = quarter_some R p in
      elim (cases_lt (suc a) b) [
        | inl l ↦ omega (arith, into_high (quarter R) (suc a) b l)
        | inr l ↦ omega (arith, into_low (quarter R) (suc a) b l, row_low R (suc a) b (row_of (suc a) b o l))
      ]

  corner_into : (a b : ℕ) → On R (at a b) → corner R (into (quarter R) a b) ≡ at a b
  corner_into a b o =
      elim (cases_lt a b) [
        | inl l ↦ (
            let r = column_of a b o l in
            let k = row_low R b a r in
            ap (corner R) (into_high (quarter R) a b l) ∙ corner_flip R p a (omega arith)
            ∙ ap (exchanged true) (corner_low R a k ∙ ap (λ (c : ℕ). at c a) (row_only R b a p r))
            )
        | inr l ↦ (
            let r = row_of a b o l in
            ap (corner R) (into_low (quarter R) a b l) ∙ corner_low R b (row_low R a b r) ∙ ap (λ (c : ℕ). at c b) (row_only R a b p r)
            )
      ]

  pub index_below : (q : Place) → On R q → index R q < 4 * quarter R
  index_below q o =
      let f = quartered R p q.x q.y o in
      let i = into_below f.a f.b (on_back R f.turn (at (suc f.a) f.b) f.below (subst (On R) f.is o)) in
      omega (
        arith,
        ap (index R) f.is,
        index_turns R f.a f.b f.turn f.below,
        mul-le f.turn (quarter R) 3 (quarter R) (omega (arith, f.below)) (omega arith),
        i,
      )

  pub after_index : (q : Place) → On R q → after R (index R q) ≡ q
  after_index q o =
      let f = quartered R p q.x q.y o in
      let g = on_back R f.turn (at (suc f.a) f.b) f.below (subst (On R) f.is o) in
      ap (after R) (ap (index R) f.is ∙ index_turns R f.a f.b f.turn f.below)
      ∙ after_in R p f.turn (into (quarter R) (suc f.a) f.b) (omega (arith, into_below f.a f.b g))
      ∙ ap (turns f.turn) (corner_into (suc f.a) f.b g) ∙ sym f.is

  index_row : (n j b : ℕ) → n < 4 → Row R b j → index R (turns n (at b j)) ≡ n * quarter R + j
  index_row n j zero h r = absurd (omega (arith, row_some R 0 j p r))
  index_row n j (suc b) h r = omega (arith, index_turns R b j n h, into_low (quarter R) (suc b) j r.below)

  index_column : (n i b : ℕ) → n < 4 → 0 < i → 2 * i < quarter R → Row R b i →
      index R (turns n (at i b)) ≡ n * quarter R + (quarter R - i)
  index_column n zero b h s l r = absurd (omega arith)
  index_column n (suc i) b h s l r =
      elim (cases_lt (suc i) b) [
        | inl k ↦ omega (arith, index_turns R i b n h, into_high (quarter R) (suc i) b k)
        | inr k ↦ (
            let e : b ≡ suc i = omega (arith, r.below) in
            let g : Row R (suc i) (suc i) = rw e at r in
            absurd (omega (arith, middle_only R (suc i) g))
            )
      ]

  index_corner : (n j : ℕ) → n < 4 → j < quarter R → index R (turns n (corner R j)) ≡ n * quarter R + j
  index_corner n j h l =
      elim (cases_lt (quarter R) (2 * j)) [
        | inl k ↦ (
            let i = quarter R - j in
            ap (λ (c : Place). index R (turns n c)) (corner_high R j k)
            ∙ index_column n i (best R i) h (omega arith) (omega arith) (row R i p (omega arith)) ∙ omega arith
            )
        | inr k ↦ ap (λ (c : Place). index R (turns n c)) (corner_low R j k) ∙ index_row n j (best R j) h (row R j p k)
      ]

  pub index_after : (k : ℕ) → k < 4 * quarter R → index R (after R k) ≡ k
  unfolding after
  index_after k h =
      let s = quarter_some R p in
      index_corner (k / quarter R) (k % quarter R) (div_below k (quarter R) 4 s h) (mod-lt k s) ∙ div-add-mod' k (quarter R)
