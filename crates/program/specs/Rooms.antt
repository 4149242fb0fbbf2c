-- What is written into a lent room. Assumes nothing.
--   over room k xs   the room with xs written over it, from k on
--   in_numbers t     a target in numbers, three for each: x, y and fast
use Rattle.std.specs.Prelude.{ℕ, ◌+◌, List, [], ◌∷◌, ◌++◌, length, take, drop, ℤ, pos}
use Rattle.program.specs.declared.target.Target.{Target}

abbrev pub over : {A : Type 0} → List A → ℕ → List A → List A
over room k xs = take k room ++ (xs ++ drop (k + length xs) room)

abbrev pub in_numbers : Target → List ℤ
in_numbers t = t.to.x ∷ (t.to.y ∷ (pos t.fast ∷ []))
