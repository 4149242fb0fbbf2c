-- What a word's number is: its sign, and digits one by one. Assumes nothing.
use Rattle.std.proofs.Common.{◌≡◌, ℕ, ◌-◌, ◌^◌, ◌<◌, ◌≤◌, min, true, false, List, [], ◌∷◌, length, get_or, Some, None, inl, inr, arith}
use Rattle.std.specs.Str.Parse.{digits_value, AllDigits}
use Rattle.std.specs.Int.{IsInRange}
use Rattle.std.specs.Char.{is_ascii_digit, digit_value as value_of_digit}
use Rattle.std.specs.Str.{all_ascii_digits}
use Rattle.std.proofs.lemmas.Str.Parse.{IsNumeralModel, numerals_by_value, tells_all_ascii_digits, digit_at}
use Rattle.std.proofs.lemmas.Bool.{cases_Bool}
use Rattle.std.proofs.lemmas.Bool.Decides.{nat_tests}
use Rattle.word.specs.Numbers.{magnitude}

-- digits, by a test
own : IsNumeralModel (λ ds. all_ascii_digits ds ≡ true) (digits_value 10)
own = numerals_by_value _ tells_all_ascii_digits

pub digit_value : (b : ℕ) → is_ascii_digit b ≡ true → (48 ≤ b) × (value_of_digit b ≡ b - 48) × (value_of_digit b < 10)
digit_value b h = grind (arith, nat_tests)

no_digit : (b : ℕ) → is_ascii_digit b ≡ false → IsInRange 48 57 b → ⊥
no_digit b h r = grind (arith, nat_tests)

pub magnitude_all : (ds : List ℕ) → 0 < length ds → AllDigits 10 ds → magnitude ds ≡ Some (min (digits_value 10 ds) (2 ^ 64 - 1))
magnitude_all [] h d = absurd (omega arith)
magnitude_all (c ∷ cs) h d = rw (own.from (c ∷ cs) d)

pub magnitude_none : (ds : List ℕ) (i : ℕ) → i < length ds → is_ascii_digit (get_or ds i 0) ≡ false → magnitude ds ≡ None
magnitude_none [] i h e = absurd (omega arith)
magnitude_none (c ∷ cs) i h e =
    elim (cases_Bool (all_ascii_digits (c ∷ cs))) [ inl d ↦ absurd (no_digit (get_or (c ∷ cs) i 0) e (digit_at (c ∷ cs) i (own.to (c ∷ cs) d) h)) | inr n ↦ rw n ]
