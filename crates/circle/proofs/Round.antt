-- The whole round: quarter after quarter.
use Rattle.std.proofs.Common.{◌≡◌, ℕ, zero, suc, ◌+◌, ◌-◌, ◌*◌, ◌/◌, ◌%◌, ◌<◌, ◌≤◌, true, false, nat_abs, sym, refl, ap, ◌∙◌, subst, inl, inr, mod-lt, div-add-mod', arith}
use Rattle.std.proofs.lemmas.Nat.{div-mul-add, mod-mul-add, mul-le}
use Rattle.std.proofs.lemmas.Int.{ints}
use Rattle.std.proofs.lemmas.Bool.{cases_lt}
use Rattle.geometry.specs.declared.place.Place.{Place}
use Rattle.geometry.specs.Places.{turned, mirrored}
use Rattle.geometry.proofs.Acts.{same_place}
use Rattle.circle.specs.Circles.{quarter, corner, turns, after, square, reach}
use Rattle.circle.specs.Laws.{On, Half, Next}
use Rattle.circle.proofs.Near.{half_by}
use Rattle.circle.proofs.Rows.{quarter_some}
use Rattle.circle.proofs.Corners.{corner_flip, corner_end, corner_next, corner_on}
use Rattle.circle.proofs.Symmetry.{on_turns, next_turns, next_mirrored}

turned_four : (p : Place) → turned (turned (turned (turned p))) ≡ p
turned_four p = same_place (omega (arith, ints)) (omega (arith, ints))

pub turns_more : (m n : ℕ) (p : Place) → turns (m + n) p ≡ turns m (turns n p)
unfolding turns
turns_more zero n p = let e : 0 + n ≡ n = omega arith in rw e
turns_more (suc m) n p = let e : suc m + n ≡ suc (m + n) = omega arith in rw e (ap turned (turns_more m n p))

-- four quarters are none
pub turns_round : (m n : ℕ) (p : Place) → turns (4 * m + n) p ≡ turns n p
unfolding turns
turns_round zero n p = let e : 4 * 0 + n ≡ n = omega arith in rw e
turns_round (suc m) n p =
    let e : 4 * suc m + n ≡ suc (suc (suc (suc (4 * m + n)))) = omega arith in
    rw e (turned_four (turns (4 * m + n) p) ∙ turns_round m n p)

pub turns_rest : (n m : ℕ) (p : Place) → n % 4 ≡ m → turns n p ≡ turns m p
turns_rest n m p h =
    let e : n ≡ 4 * (n / 4) + m = omega arith in ap (λ (k : ℕ). turns k p) e ∙ turns_round (n / 4) m p

mirrored_turned : (p : Place) → mirrored (turned p) ≡ turned (turned (turned (mirrored p)))
mirrored_turned p = same_place (omega (arith, ints)) (omega (arith, ints))

-- mirrored, a turn to the left is one to the right
mirrored_turns : (n : ℕ) (p : Place) → mirrored (turns n p) ≡ turns (3 * n) (mirrored p)
unfolding turns
mirrored_turns zero p = refl
mirrored_turns (suc n) p =
    let e : 3 * suc n ≡ suc (suc (suc (3 * n))) = omega arith in
    rw e (mirrored_turned (turns n p) ∙ ap (λ (q : Place). turned (turned (turned q))) (mirrored_turns n p))

module _ (R : ℕ) (p : 0 < R) where
  -- a place by its quarter, and by the steps in it
  pub after_in : (a j : ℕ) → j ≤ quarter R → after R (a * quarter R + j) ≡ turns a (corner R j)
  unfolding after turns
  after_in a j h =
      elim (cases_lt j (quarter R)) [
        | inl l ↦ rw (div-mul-add a (quarter R) j l, mod-mul-add a (quarter R) j l)
        | inr l ↦ (
            let s = quarter_some R p in
            let e : a * quarter R + j ≡ suc a * quarter R + 0 = omega arith in
            let f : j ≡ quarter R = omega arith in
            rw (e, div-mul-add (suc a) (quarter R) 0 s, mod-mul-add (suc a) (quarter R) 0 s, f, corner_end R p)
            (let g : suc a ≡ a + 1 = omega arith in ap (λ (n : ℕ). turns n (corner R 0)) g ∙ turns_more a 1 (corner R 0))
            )
      ]

  parts : (k : ℕ) → k ≡ k / quarter R * quarter R + k % quarter R
  parts k = sym (div-add-mod' k (quarter R))

  part_below : (k : ℕ) → k % quarter R < quarter R
  part_below k = mod-lt k (quarter_some R p)

  pub stays : (k : ℕ) → On R (after R k)
  unfolding after
  stays k = on_turns R (k / quarter R) _ (corner_on R p (k % quarter R) (part_below k))

  pub left : (k : ℕ) → Next false R (after R k) (after R (suc k))
  left k =
      let a = k / quarter R in
      let j = k % quarter R in
      let f : suc k ≡ a * quarter R + suc j = omega (arith, parts k) in
      subst (λ (n : ℕ). Next false R (after R n) (after R (suc k))) (sym (parts k))
      (rw (f, after_in a j (omega (arith, part_below k)), after_in a (suc j) (part_below k))
      (next_turns false R a (corner R j) (corner R (suc j)) (corner_next R p j (part_below k))))

  pub after_turned : (k : ℕ) → after R (quarter R + k) ≡ turned (after R k)
  unfolding turns
  after_turned k =
      let a = k / quarter R in
      let j = k % quarter R in
      let f : quarter R + k ≡ suc a * quarter R + j = omega (arith, parts k) in
      ap (after R) f ∙ after_in (suc a) j (omega (arith, part_below k))
      ∙ ap turned (sym (after_in a j (omega (arith, part_below k))) ∙ ap (after R) (sym (parts k)))

  pub after_round : (n k : ℕ) → after R (4 * n * quarter R + k) ≡ after R k
  unfolding turns
  after_round n k =
      let a = k / quarter R in
      let j = k % quarter R in
      let f : 4 * n * quarter R + k ≡ (4 * n + a) * quarter R + j = omega (arith, parts k) in
      ap (after R) f ∙ after_in (4 * n + a) j (omega (arith, part_below k)) ∙ turns_round n a (corner R j)
      ∙ sym (after_in a j (omega (arith, part_below k))) ∙ ap (after R) (sym (parts k))

  corner_mirrored : (j : ℕ) → j ≤ quarter R → mirrored (corner R j) ≡ turned (corner R (quarter R - j))
  corner_mirrored j h = ap turned (sym (corner_flip R p j h))

  -- counted the other way it is mirrored
  pub after_mirrored : (n j k : ℕ) → j + k ≡ (4 * n + 2) * quarter R → after R j ≡ mirrored (after R k)
  unfolding turns
  after_mirrored n j k h =
      let a = k / quarter R in
      let i = k % quarter R in
      let f : 4 * a * quarter R + j ≡ 4 * n * quarter R + ((3 * a + 1) * quarter R + (quarter R - i)) = omega (arith, parts k, part_below k) in
      sym (after_round a j) ∙ ap (after R) f ∙ after_round n ((3 * a + 1) * quarter R + (quarter R - i))
      ∙ after_in (3 * a + 1) (quarter R - i) (omega arith)
      ∙ turns_more (3 * a) 1 (corner R (quarter R - i))
      ∙ ap (turns (3 * a)) (sym (corner_mirrored i (omega (arith, part_below k))))
      ∙ sym (mirrored_turns a (corner R i))
      ∙ ap mirrored (sym (after_in a i (omega (arith, part_below k))) ∙ ap (after R) (sym (parts k)))

  pub right : (k : ℕ) → Next true R (after R (suc k)) (after R k)
  right k =
      let n = suc k in
      let s : 1 * suc k ≤ quarter R * (4 * n + 2) = mul-le 1 (suc k) (quarter R) (4 * n + 2) (quarter_some R p) (omega arith) in
      let j = (4 * n + 2) * quarter R - suc k in
      rw (after_mirrored n (suc k) j (omega arith), after_mirrored n k (suc j) (omega arith))
      (next_mirrored false R (after R j) (after R (suc j)) (left j))

pub reach_square : (q : Place) → reach q * reach q ≤ square q
unfolding square
reach_square q =
    elim (cases_lt (nat_abs q.x) (nat_abs q.y)) [
      | inl l ↦ (let e : reach q ≡ nat_abs q.y = omega arith in rw e (omega arith))
      | inr l ↦ (let e : reach q ≡ nat_abs q.x = omega arith in rw e (omega arith))
    ]

pub on_half : (R : ℕ) (q : Place) → 0 < R → On R q → Half R (square q)
on_half R q p h = half_by R (square q) (reach q) p (reach_square q) h.inside h.outside
