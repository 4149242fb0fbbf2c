-- One axis, without its sign: the part of a way that is made after n of m steps.
use Rattle.std.proofs.Common.{◌≡◌, ℕ, zero, suc, ◌+◌, ◌*◌, ◌/◌, ◌<◌, ◌≤◌, refl, ap, ◌∙◌, arith}
use native.Mathlib.Nat.{div-add-mod}
use Rattle.std.proofs.lemmas.Nat.{div-mul-add, div_below, le-div, mod_below, mul-le}
use Rattle.line.specs.Lines.{part}

-- a part s of the way d: not more than half a step beyond n over m of it, and less than half a step behind
pub record Rounds (n m d s : ℕ) : Type 0 where
  pub over : 2 * (m * s) ≤ 2 * (d * n) + m
  pub under : 2 * (d * n) + m < 2 * (m * s) + 2 * m

pub part_rounds : (n m d : ℕ) → 0 < m → Rounds n m d (part n m d)
unfolding part
part_rounds n zero d p = absurd (omega arith)
part_rounds n (suc m) d p =
    omega (arith, div-add-mod (2 * (d * n) + suc m) (2 * suc m), mod_below (2 * (d * n) + suc m) (2 * suc m) (omega arith))

-- the whole way after all steps
pub part_all : (m d : ℕ) → part m m d ≡ d
unfolding part
part_all zero d = refl
part_all (suc m) d = ap (λ (x : ℕ). x / (2 * suc m)) (omega arith) ∙ div-mul-add d (2 * suc m) (suc m) (omega arith)

-- nothing before the first step
pub part_none : (m d : ℕ) → d ≤ m → part 0 m d ≡ 0
unfolding part
part_none zero d h = omega arith
part_none (suc m) d h = omega (arith, div_below (2 * (d * 0) + suc m) (2 * suc m) 1 (omega arith) (omega arith))

-- no way is never made
pub part_still : (n m : ℕ) → part n m 0 ≡ 0
unfolding part
part_still n zero = refl
part_still n (suc m) = omega (arith, div_below (2 * (0 * n) + suc m) (2 * suc m) 1 (omega arith) (omega arith))

-- an axis as long as the line makes every step
pub part_every : (n m : ℕ) → 0 < m → part n m m ≡ n
unfolding part
part_every n zero p = absurd (omega arith)
part_every n (suc m) p = ap (λ (x : ℕ). x / (2 * suc m)) (omega arith) ∙ div-mul-add n (2 * suc m) (suc m) (omega arith)

-- steps more make no less
pub part_up : (n u m d : ℕ) → part n m d ≤ part (n + u) m d
unfolding part
part_up n u zero d = omega arith
part_up n u (suc m) d =
    le-div (part n (suc m) d) (2 * (d * (n + u)) + suc m) (2 * suc m) (omega arith)
    (omega (arith, part_rounds n (suc m) d (omega arith)))

-- and no more than so many
pub part_by : (n u m d : ℕ) → d ≤ m → part (n + u) m d ≤ part n m d + u
unfolding part
part_by n u zero d h = omega arith
part_by n u (suc m) d h =
    let g : d * u ≤ suc m * u = mul-le d u (suc m) u h (omega arith) in
    omega (
      arith,
      div_below (2 * (d * (n + u)) + suc m) (2 * suc m) (part n (suc m) d + u + 1) (omega arith)
          (omega (arith, part_rounds n (suc m) d (omega arith))),
    )

-- as code computes it
pub part_quotient : (n m d : ℕ) → 0 < m → (2 * d * n + m) / (2 * m) ≡ part n m d
unfolding part
part_quotient n zero d p = absurd (omega arith)
part_quotient n (suc m) d p = ap (λ (x : ℕ). x / (2 * suc m)) (omega arith)

-- what the code's three cases rest on
pub ruleset quotients = (part_still, part_every, part_quotient)
