-- Nearer by the difference of the squares is nearer by distance.
use Rattle.std.proofs.Common.{◌≡◌, ℕ, zero, suc, ◌+◌, ◌-◌, ◌*◌, ◌<◌, ◌≤◌, inl, inr, mul_comm, add_comm, arith}
use Rattle.std.proofs.lemmas.Nat.{mul-le, mul-lt}
use Rattle.std.proofs.lemmas.Bool.{cases_lt}
use Rattle.circle.specs.Laws.{Nearer, Half}

-- how far the square n is from R
abbrev pub off : ℕ → ℕ → ℕ
off R n = (n - R) + (R - n)

-- the second nearer to the middle
inner : (R n m : ℕ) → m < n → n + m ≤ 2 * R → 4 * (n * m) < (4 * R - (n + m)) * (4 * R - (n + m))
inner R n m h k =
    let d = n - m in
    let e : n ≡ m + d = omega arith in
    let g : (n + m) * (n + m) ≤ (4 * R - (n + m)) * (4 * R - (n + m)) = mul-le _ _ _ _ (omega arith) (omega arith) in
    let s : 0 < d * d = mul-lt 0 0 d d (omega arith) (omega arith) in
    let t : 4 * (n * m) < (n + m) * (n + m) = rw e (omega arith) in
    omega arith

-- the second farther from the middle
outer : (R n m : ℕ) → 0 < R → R ≤ n → n < m → (4 * R - (n + m)) * (4 * R - (n + m)) < 4 * (n * m)
outer R n m p h k =
    let t = 4 * R - (n + m) in
    let g : t * t ≤ (2 * n) * (2 * n) = mul-le t t (2 * n) (2 * n) (omega arith) (omega arith) in
    let s : n * suc n ≤ n * m = mul-le n (suc n) n m (omega arith) k in
    omega arith

past : (R n m : ℕ) → 0 < n → n < R → 2 * R < n + m → (R - n) * (R - n) + (R - n) < 2 * R →
    (4 * R - (n + m)) * (4 * R - (n + m)) < 4 * (n * m)
past R zero m p h k l = absurd (omega arith)
past R (suc n) m p h k l =
    let u = R - suc n in
    let t = 4 * R - (suc n + m) in
    let g : t * t ≤ (2 * n + 2 * u + 1) * (2 * n + 2 * u + 1) = mul-le t t _ _ (omega arith) (omega arith) in
    let s : suc n * (n + 2 * u + 2) ≤ suc n * m = mul-le (suc n) (n + 2 * u + 2) (suc n) m (omega arith) (omega arith) in
    omega arith

-- not far inside the circle
abbrev pub Close : ℕ → ℕ → Type 0
Close R n = (R - n) * (R - n) + (R - n) < 2 * R

pub near : (R n m : ℕ) → 0 < R → 0 < n → Close R n → off R n < off R m → Nearer R n m
near R n m p q l h =
    elim (cases_lt R m) [
      | inl k ↦ inl (omega arith, elim (cases_lt n R) [ inl a ↦ past R n m q a (omega arith) l | inr a ↦ outer R n m p a (omega arith) ])
      | inr k ↦ inr (omega arith, inner R n m (omega arith) (omega arith))
    ]

-- neither of two is nearer than the other
pub not_both : (R n m : ℕ) → Nearer R n m → Nearer R m n → ⊥
not_both R n m h k =
    let g : Nearer R n m → ⊥ = elim (rw (add_comm m n, mul_comm m n) at k) [ inl a ↦ λ f. elim f [ inl b ↦ omega arith | inr b ↦ omega arith ] | inr a ↦ λ f. elim f [ inl b ↦ omega arith | inr b ↦ omega arith ] ] in
    g h

-- within the reach c of the circle
pub half_by : (R n c : ℕ) → 0 < R → c * c ≤ n → R ≤ n + c → n < R + c → Half R n
half_by R n c p q f g = record {
  outside =
      let d = n - R in
      let s : suc d * suc d ≤ c * c = mul-le (suc d) (suc d) c c (omega arith) (omega arith) in
      let t : (4 * n - (4 * R + 1)) * (4 * n - (4 * R + 1)) ≤ (4 * d) * (4 * d) = mul-le _ _ _ _ (omega arith) (omega arith) in
      omega arith;
  inside =
      let u = R - n in
      let s : u * u ≤ c * c = mul-le u u c c (omega arith) (omega arith) in
      elim (cases_lt n R) [
        | inl k ↦ (let t : (4 * R - (4 * n + 1)) * (4 * R - (4 * n + 1)) < (4 * u) * (4 * u) = mul-lt _ _ _ _ (omega arith) (omega arith) in omega arith)
        | inr k ↦ (let t : (4 * R - (4 * n + 1)) * (4 * R - (4 * n + 1)) ≤ 0 * 0 = mul-le _ _ 0 0 (omega arith) (omega arith) in omega arith)
      ];
}

pub close_by : (R n c : ℕ) → 0 < R → c * c ≤ n → R ≤ n + c → Close R n
close_by R n c p q f =
    let s : (R - n) * (R - n) ≤ c * c = mul-le (R - n) (R - n) c c (omega arith) (omega arith) in
    elim (cases_lt n R) [
      | inl k ↦ omega arith
      | inr k ↦ (let t : (R - n) * (R - n) ≤ 0 * 0 = mul-le _ _ 0 0 (omega arith) (omega arith) in omega arith)
    ]
