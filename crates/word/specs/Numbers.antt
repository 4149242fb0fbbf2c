-- What the contracts of reading a word's number cite. Assumes nothing.
--   magnitude ds    the number that digits write, cut to 64 bits; none where they are no digits
--   up n, down n    n and -n, cut to the ends of a signed number of 64 bits
--   number_of w     the number that a word writes: `-` at most once, then one or more digits
use Rattle.std.specs.Prelude.{ℕ, ◌-◌, ◌^◌, min, cond, List, [], ◌∷◌, ℤ, pos, ◌-ℤ◌, Some, None, Option, ◌==◌}
use Rattle.std.specs.Option.{option_map}
use Rattle.std.specs.Str.Parse.{digits_value}
use Rattle.std.specs.Str.{all_ascii_digits}

abbrev pub magnitude : List ℕ → Option ℕ
magnitude [] = None
magnitude (d ∷ ds) = cond (all_ascii_digits (d ∷ ds)) (Some (min (digits_value 10 (d ∷ ds)) (2 ^ 64 - 1))) None

abbrev pub up : ℕ → ℤ
up n = pos (min n (2 ^ 63 - 1))

abbrev pub down : ℕ → ℤ
down n = pos 0 -ℤ pos (min n (2 ^ 63))

abbrev pub number_of : List ℕ → Option ℤ
number_of [] = None
number_of (c ∷ cs) = cond (c == 45) (option_map down (magnitude cs)) (option_map up (magnitude (c ∷ cs)))
