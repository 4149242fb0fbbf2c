-- What contracts say of a token: whether it is a number, or a certain word. Assumes nothing.
--   value_of t    its number, if it is one
--   is_key k t    whether it is the word k
--   misplaced     a word that can't stand where it stands
use Rattle.std.specs.Prelude.{ℕ, Bool, true, false, ℤ, Some, None, Option, ◌==◌}
use Rattle.text.specs.declared.error.Misplaced.{Misplaced}
use Rattle.text.specs.declared.token.Key.{Key}
use Rattle.text.specs.declared.token.Key.TheVariants.{To, By, Fast, Times, At, Turn, Mirror, Sub, Semicolon, Open, Close}
use Rattle.text.specs.declared.token.Token.{Token}
use Rattle.text.specs.declared.token.Token.TheVariants.{Number, Word, Other}

abbrev pub value_of : Token → Option ℤ
value_of (Number n) = Some n
value_of (Word k) = None
value_of Other = None

abbrev pub code : Key → ℕ
code To = 0
code By = 1
code Fast = 2
code Times = 3
code At = 4
code Turn = 5
code Mirror = 6
code Sub = 7
code Semicolon = 8
code Open = 9
code Close = 10

abbrev pub is_key : Key → Token → Bool
is_key k (Number n) = false
is_key k (Word j) = code j == code k
is_key k Other = false

-- something where a test holds
abbrev pub only : Bool → Option (Unit {0})
only true = Some tt
only false = None

abbrev pub misplaced : Misplaced
misplaced = record {}
