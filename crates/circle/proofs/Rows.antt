-- The first quarter in whole numbers: the best places of rows up to the diagonal.
use Rattle.std.proofs.Common.{◌≡◌, ℕ, zero, suc, ◌+◌, ◌-◌, ◌*◌, ◌<◌, ◌≤◌, inl, inr, arith}
use Rattle.std.proofs.lemmas.Nat.{mul-le}
use Rattle.std.proofs.lemmas.Bool.{cases_lt}
use Rattle.circle.specs.Circles.{quarter, best}
use Rattle.circle.proofs.Roots.{Rooted, nearest_rooted, rooted_only}
use Rattle.circle.proofs.Near.{off, Close, close_by}

-- b is the best of the row k, and no less than k
pub record Row (R b k : ℕ) : Type 0 where
  pub inside : R ≤ b * b + k * k + b
  pub outside : b * b + k * k < R + b
  pub below : k ≤ b

-- squares are apart
pub apart : (a c : ℕ) → a < c → a * a + a + c ≤ c * c
apart a zero h = absurd (omega arith)
apart a (suc c) h = omega (arith, mul-le a (suc a) c (suc c) (omega arith) h)

pub quarter_rooted : (R : ℕ) → Rooted (2 * R) (quarter R)
unfolding quarter
quarter_rooted R = nearest_rooted (2 * R)

best_rooted : (R k : ℕ) → Rooted (R - k * k) (best R k)
unfolding best
best_rooted R k = nearest_rooted (R - k * k)

pub quarter_some : (R : ℕ) → 0 < R → 0 < quarter R
quarter_some R p =
    let h = quarter_rooted R in
    elim (cases_lt 0 (quarter R)) [
      | inl k ↦ k
      | inr k ↦ (let e : quarter R ≡ 0 = omega arith in let g : Rooted (2 * R) 0 = rw e at h in absurd (omega arith))
    ]

pub best_none : (R : ℕ) → R ≡ 0 → best R 0 ≡ 0
best_none R e =
    rooted_only (R - 0 * 0) (best R 0) 0 (best_rooted R 0) (record { low = omega arith; high = omega arith })

-- up to the diagonal there is room for a row
room : (R k q : ℕ) → 0 < q → Rooted (2 * R) q → 2 * k ≤ q → 2 * (k * k) < R + k
room R k q p h l =
    let j = q - 2 * k in
    let e : q ≡ 2 * k + j = omega arith in
    let g : Rooted (2 * R) (2 * k + j) = rw e at h in
    let s : j ≤ j * j = elim (cases_lt 0 j) [ inl a ↦ omega (arith, mul-le 1 j j j a (omega arith)) | inr a ↦ omega arith ] in
    omega (arith, g.low)

row_by : (R k c : ℕ) → 0 < R → 2 * (k * k) < R + k → Rooted (R - k * k) c → Row R c k
row_by R zero c p h r =
    elim (cases_lt 0 c) [
      | inl a ↦ record { inside = omega (arith, r.high); outside = omega (arith, r.low); below = omega arith }
      | inr a ↦ (let e : c ≡ 0 = omega arith in let g : Rooted (R - 0 * 0) 0 = rw e at r in absurd (omega (arith, g.high)))
    ]
row_by R (suc k) c p h r =
    let b : suc k ≤ c =
    elim (cases_lt k c) [ inl a ↦ a | inr a ↦ absurd (omega (arith, mul-le c (suc c) k (suc k) a (omega arith), r.high)) ] in
    record { inside = omega (arith, r.high); outside = omega (arith, r.low); below = b }

pub row : (R k : ℕ) → 0 < R → 2 * k ≤ quarter R → Row R (best R k) k
row R k p l = row_by R k (best R k) p (room R k (quarter R) (quarter_some R p) (quarter_rooted R) l) (best_rooted R k)

pub row_some : (R b k : ℕ) → 0 < R → Row R b k → 0 < b
row_some R zero k p r = let e : k ≡ 0 = omega arith in let g : Row R 0 0 = rw e at r in absurd (omega arith)
row_some R (suc b) k p r = omega arith

pub row_only : (R b k : ℕ) → 0 < R → Row R b k → best R k ≡ b
row_only R b k p r =
    let s = row_some R b k p r in
    let g : 1 * b ≤ b * b = mul-le 1 b b b s (omega arith) in
    rooted_only (R - k * k) (best R k) b (best_rooted R k) (record { low = omega arith; high = omega arith })

-- no row is past the diagonal
pub row_low : (R b k : ℕ) → Row R b k → 2 * k ≤ quarter R
row_low R b zero r = omega arith
row_low R zero (suc k) r = absurd (omega arith)
row_low R (suc b) (suc k) r =
    elim (cases_lt (quarter R) (2 * suc k)) [
      | inl a ↦ absurd (omega (
        arith,
        mul-le (quarter R) (suc (quarter R)) (2 * k + 1) (2 * k + 2) (omega arith) (omega arith),
        mul-le k (suc k) b (suc b) (omega arith) (omega arith),
        (quarter_rooted R).high,
      ))
      | inr a ↦ a
    ]

-- the next row's best is the same or one less
pub row_step : (R b c k : ℕ) → Row R b k → Row R c (suc k) → (c ≤ b) × (b ≤ suc c)
row_step R b c k r s = (
  elim (cases_lt b c) [ inl a ↦ absurd (omega (arith, apart b c a)) | inr a ↦ a ],
  elim (cases_lt (suc c) b) [ inl a ↦ absurd (omega (arith, apart (suc c) b a)) | inr a ↦ a ],
)

-- on the diagonal, and across it
pub middle : (R h : ℕ) → 0 < R → quarter R ≡ 2 * h → Row R h h
middle R zero p e = absurd (omega (arith, quarter_some R p))
middle R (suc h) p e = let g : Rooted (2 * R) (2 * suc h) = rw e at (quarter_rooted R) in omega (arith, g.low, g.high)

pub middle_only : (R h : ℕ) → Row R h h → quarter R ≡ 2 * h
middle_only R h r = rooted_only (2 * R) (quarter R) (2 * h) (quarter_rooted R) (record { low = omega arith; high = omega arith })

pub record Across (R h : ℕ) : Type 0 where
  pub least : 2 * (h * h) + h < R
  pub most : R ≤ 2 * (h * h) + 3 * h + 1

pub across : (R h : ℕ) → quarter R ≡ 2 * h + 1 → Across R h
across R h e = let g : Rooted (2 * R) (2 * h + 1) = rw e at (quarter_rooted R) in omega (arith, g.low, g.high)

-- the best of a row is nearer than any other place of it
pub row_best : (R b k a : ℕ) → 0 < R → Row R b k → (a ≡ b → ⊥) → off R (b * b + k * k) < off R (a * a + k * k)
row_best R zero k a p r ne = absurd (omega (arith, row_some R 0 k p r))
row_best R (suc b) k a p r ne =
    elim (cases_lt b a) [
      | inl l ↦ omega (arith, mul-le (suc (suc b)) (suc (suc b)) a a (omega arith) (omega arith))
      | inr l ↦ omega (arith, mul-le a a b b l l)
    ]

pub row_close : (R b k : ℕ) → 0 < R → Row R b k → Close R (b * b + k * k)
row_close R b k p r = close_by R (b * b + k * k) b p (omega arith) (omega arith)

pub row_square : (R b k : ℕ) → 0 < R → Row R b k → 0 < b * b + k * k
row_square R zero k p r = absurd (omega (arith, row_some R 0 k p r))
row_square R (suc b) k p r = omega arith
