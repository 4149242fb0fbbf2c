-- Targets of three numbers each: what they are, and which one stands where.
use Rattle.std.proofs.Common.{◌≡◌, suc, ◌/◌, List, [], ◌∷◌, length, map, ℤ, refl, ap, arith}
use Rattle.std.specs.Simd.{first_chunks}
use Rattle.program.specs.Targets.{target_of, target_in}
use Rattle.program.specs.declared.target.Target.{Target}
use Rattle.entry.specs.Entries.{targets_in}

-- the targets in threes
pub in_threes : (xs : List ℤ) → map target_in (first_chunks 3 (length xs / 3) xs) ≡ targets_in xs
unfolding targets_in
in_threes [] = refl
in_threes (x ∷ []) = refl
in_threes (x ∷ (y ∷ [])) = refl
in_threes (x ∷ (y ∷ (f ∷ xs))) =
    let n : length (x ∷ (y ∷ (f ∷ xs))) / 3 ≡ suc (length xs / 3) = omega arith in
    rw n (ap (λ (ts : List Target). target_of x y f ∷ ts) (in_threes xs))
