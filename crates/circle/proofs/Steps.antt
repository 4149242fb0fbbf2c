-- Each place of the first quarter is followed by its next one.
use Rattle.std.proofs.Common.{◌≡◌, ℕ, zero, suc, ◌+◌, ◌*◌, ◌<◌, ◌≤◌, false, ◌⊎◌, ℤ, pos, negsuc, ◌+ℤ◌, nat_abs, ◌<ℤ◌, ap, ◌∙◌, subst, inl, inr, add_comm, arith}
use Rattle.std.proofs.lemmas.Int.{ints}
use Rattle.std.proofs.lemmas.Bool.{cases_lt, cases_eq}
use Rattle.geometry.specs.declared.place.Place.{Place}
use Rattle.geometry.specs.Places.{moved, less}
use Rattle.geometry.proofs.Acts.{same_place}
use Rattle.circle.specs.Circles.{at, square}
use Rattle.circle.specs.Laws.{ahead, Onward, Nearer, Next}
use Rattle.circle.proofs.Near.{off, Close, near, close_by}
use Rattle.circle.proofs.Rows.{Row, Across, row_step, row_best, row_close, row_some, row_square}

abbrev way : ℤ → ℤ → Place
way x y = record { x = x; y = y }

-- a step has one of three parts on each axis
one_of : (P : ℤ → Type 0) → P (negsuc 0) → P (pos 0) → P (pos 1) → (z : ℤ) → nat_abs z ≤ 1 → P z
one_of P a b c (pos zero) h = b
one_of P a b c (pos (suc zero)) h = c
one_of P a b c (pos (suc (suc n))) h = absurd (omega arith)
one_of P a b c (negsuc zero) h = a
one_of P a b c (negsuc (suc n)) h = absurd (omega arith)

-- what is to be shown of a step d from p, where q is the next place: it leads there, or less near to the circle
abbrev Loses : ℕ → Place → Place → Place → Type 0
Loses R p q d = pos 0 <ℤ ahead p d → (moved d p ≡ q) ⊎ Nearer R (square q) (square (moved d p))

-- the next place, by the step that leads to it and by what is to be shown of each step
next_by : (R : ℕ) (p q d : Place) → moved d p ≡ q → nat_abs d.x ≤ 1 → nat_abs d.y ≤ 1 → pos 0 <ℤ ahead p d →
    ((x : ℤ) → nat_abs x ≤ 1 → Loses R p q (way x (negsuc 0)) × Loses R p q (way x (pos 0)) × Loses R p q (way x (pos 1))) →
    Next false R p q
next_by R p q d e a b h f = record {
  step = subst (λ (s : Place). Onward false p s) g (record { across = a; along = b; onward = h });
  nearest = λ s o. one_of (λ y. Loses R p q (way s.x y)) (f s.x o.across).0 (f s.x o.across).1 (f s.x o.across).2 s.y o.along o.onward;
}
  where
    g : d ≡ less q p
    g = same_place (omega (arith, ints, ap (λ (s : Place). s.x) e)) (omega (arith, ints, ap (λ (s : Place). s.y) e))

beats : (R n a b : ℕ) (z w : ℤ) → 0 < R → 0 < n → Close R n → z ≡ pos a → w ≡ pos b → off R n < off R (a * a + b * b) →
    Nearer R n (square (way z w))
unfolding square
beats R n a b z w p q l e f h = rw (e, f) (near R n (a * a + b * b) p q l h)

-- of a row, and of a column, only the best is not less near
in_row : (R c j a : ℕ) (z w : ℤ) → 0 < R → Row R c j → z ≡ pos a → w ≡ pos j →
    (way z w ≡ at c j) ⊎ Nearer R (square (at c j)) (square (way z w))
unfolding square
in_row R c j a z w p r e f =
    elim (cases_eq a c) [
      | inl k ↦ inl (same_place (e ∙ ap pos k) f)
      | inr k ↦ inr (beats R (c * c + j * j) a j z w p (row_square R c j p r) (row_close R c j p r) e f (row_best R c j a p r k))
    ]

in_column : (R c j a : ℕ) (z w : ℤ) → 0 < R → Row R c j → z ≡ pos a → w ≡ pos j →
    (way w z ≡ at j c) ⊎ Nearer R (square (at j c)) (square (way w z))
unfolding square
in_column R c j a z w p r e f =
    elim (cases_eq a c) [
      | inl k ↦ inl (same_place f (e ∙ ap pos k))
      | inr k ↦ inr (rw (add_comm (j * j) (c * c), add_comm (nat_abs w * nat_abs w) (nat_abs z * nat_abs z))
          (beats R (c * c + j * j) a j z w p (row_square R c j p r) (row_close R c j p r) e f (row_best R c j a p r k)))
    ]

up_off : (R a c k : ℕ) → Row R (suc a) k → Row R c (suc k) → c ≤ suc a →
    off R (c * c + suc k * suc k) < off R (a * a + k * k)
up_off R a c k r s h =
    elim (cases_lt a c) [
      | inl l ↦ (let e : c ≡ suc a = omega arith in let t : Row R (suc a) (suc k) = rw e at s in rw e (omega arith))
      | inr l ↦ omega arith
    ]

over_off : (R b c k : ℕ) → Row R b (suc k) → Row R c k → c ≤ suc b →
    off R (c * c + k * k) < off R (suc k * suc k + suc b * suc b)
over_off R b c k r s h =
    elim (cases_lt b c) [
      | inl l ↦ (let e : c ≡ suc b = omega arith in let t : Row R (suc b) k = rw e at s in rw e (omega arith))
      | inr l ↦ omega arith
    ]

abbrev LosesAll : ℕ → Place → Place → ℤ → Type 0
LosesAll R p q x = Loses R p q (way x (negsuc 0)) × Loses R p q (way x (pos 0)) × Loses R p q (way x (pos 1))

-- below the diagonal: one up
pub up_next : (R b c k : ℕ) → 0 < R → Row R b k → Row R c (suc k) → Next false R (at b k) (at c (suc k))
unfolding square
up_next R zero c k p r s = absurd (omega (arith, row_some R 0 k p r))
up_next R (suc a) c k p r s =
    let t = row_step R (suc a) c k r s in
    elim (cases_lt a c) [
      | inl l ↦ next_by R (at (suc a) k) (at c (suc k)) (way (pos 0) (pos 1))
          (same_place (omega (arith, ints)) (omega (arith, ints))) (omega arith) (omega arith) (omega (arith, ints)) all
      | inr l ↦ next_by R (at (suc a) k) (at c (suc k)) (way (negsuc 0) (pos 1))
          (same_place (omega (arith, ints)) (omega (arith, ints))) (omega arith) (omega arith) (omega (arith, ints)) all
    ]
  where
    all : (x : ℤ) → nat_abs x ≤ 1 → LosesAll R (at (suc a) k) (at c (suc k)) x
    all =
        one_of (λ x. LosesAll R (at (suc a) k) (at c (suc k)) x) (
          λ o. absurd (omega (arith, ints)),
          λ o. inr (beats R (c * c + suc k * suc k) a k (pos (suc a) +ℤ negsuc 0) (pos k +ℤ pos 0) p (row_square R c (suc k) p s) (row_close R c (suc k) p s) (omega (arith, ints)) (omega (arith, ints))
              (up_off R a c k r s (row_step R (suc a) c k r s).0)),
          λ o. in_row R c (suc k) a _ _ p s (omega (arith, ints)) (omega (arith, ints)),
        ) (
          λ o. absurd (omega (arith, ints)),
          λ o. absurd (omega (arith, ints)),
          λ o. in_row R c (suc k) (suc a) _ _ p s (omega (arith, ints)) (omega (arith, ints)),
        ) (
          λ o. absurd (omega (arith, ints)),
          λ o. absurd (omega (arith, ints)),
          λ o. in_row R c (suc k) (suc (suc a)) _ _ p s (omega (arith, ints)) (omega (arith, ints)),
        )

-- above it: one to the left
pub over_next : (R b c k : ℕ) → 0 < R → Row R b (suc k) → Row R c k → Next false R (at (suc k) b) (at k c)
unfolding square
over_next R zero c k p r s = absurd (omega (arith, row_some R 0 (suc k) p r))
over_next R (suc a) c k p r s =
    let t = row_step R c (suc a) k s r in
    elim (cases_lt (suc a) c) [
      | inl l ↦ next_by R (at (suc k) (suc a)) (at k c) (way (negsuc 0) (pos 1))
          (same_place (omega (arith, ints)) (omega (arith, ints))) (omega arith) (omega arith) (omega (arith, ints)) all
      | inr l ↦ next_by R (at (suc k) (suc a)) (at k c) (way (negsuc 0) (pos 0))
          (same_place (omega (arith, ints)) (omega (arith, ints))) (omega arith) (omega arith) (omega (arith, ints)) all
    ]
  where
    all : (x : ℤ) → nat_abs x ≤ 1 → LosesAll R (at (suc k) (suc a)) (at k c) x
    all =
        one_of (λ x. LosesAll R (at (suc k) (suc a)) (at k c) x) (
          λ o. in_column R c k a _ _ p s (omega (arith, ints)) (omega (arith, ints)),
          λ o. in_column R c k (suc a) _ _ p s (omega (arith, ints)) (omega (arith, ints)),
          λ o. in_column R c k (suc (suc a)) _ _ p s (omega (arith, ints)) (omega (arith, ints)),
        ) (
          λ o. absurd (omega (arith, ints)),
          λ o. absurd (omega (arith, ints)),
          λ o. inr (rw (add_comm (k * k) (c * c))
              (beats R (c * c + k * k) (suc k) (suc (suc a)) (pos (suc k) +ℤ pos 0) (pos (suc a) +ℤ pos 1) p (row_square R c k p s) (row_close R c k p s) (omega (arith, ints)) (omega (arith, ints))
              (over_off R (suc a) c k r s (row_step R c (suc a) k s r).1))),
        ) (
          λ o. absurd (omega (arith, ints)),
          λ o. absurd (omega (arith, ints)),
          λ o. absurd (omega (arith, ints)),
        )

-- across it
pub cross_next : (R h : ℕ) → Across R h → Next false R (at (suc h) h) (at h (suc h))
unfolding square
cross_next R h r =
    next_by R (at (suc h) h) (at h (suc h)) (way (negsuc 0) (pos 1)) (same_place (omega (arith, ints)) (omega (arith, ints)))
    (omega arith) (omega arith) (omega (arith, ints)) all
  where
    n : ℕ
    n = h * h + suc h * suc h

    wins : (a b : ℕ) (z w : ℤ) → z ≡ pos a → w ≡ pos b → off R n < off R (a * a + b * b) → Nearer R n (square (way z w))
    wins a b z w = beats R n a b z w (omega arith) (omega arith) (close_by R n (suc h) (omega arith) (omega arith) (omega arith))

    all : (x : ℤ) → nat_abs x ≤ 1 → LosesAll R (at (suc h) h) (at h (suc h)) x
    all =
        one_of (λ x. LosesAll R (at (suc h) h) (at h (suc h)) x) (
          λ o. absurd (omega (arith, ints)),
          λ o. inr (wins h h (pos (suc h) +ℤ negsuc 0) (pos h +ℤ pos 0) (omega (arith, ints)) (omega (arith, ints)) (omega arith)),
          λ o. inl (same_place (omega (arith, ints)) (omega (arith, ints))),
        ) (
          λ o. absurd (omega (arith, ints)),
          λ o. absurd (omega (arith, ints)),
          λ o. inr (wins (suc h) (suc h) (pos (suc h) +ℤ pos 0) (pos h +ℤ pos 1) (omega (arith, ints)) (omega (arith, ints)) (omega arith)),
        ) (
          λ o. absurd (omega (arith, ints)),
          λ o. absurd (omega (arith, ints)),
          λ o. inr (wins (suc (suc h)) (suc h) (pos (suc h) +ℤ pos 1) (pos h +ℤ pos 1) (omega (arith, ints)) (omega (arith, ints)) (omega arith)),
        )
