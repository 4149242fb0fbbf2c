-- What the contracts of plain words cite: the sentence on a text that can't be read. Assumes nothing.
--   expected_text e       what could stand there
--   shown_byte b          a byte as it is shown: by its number, as \x0c, where it doesn't print
--   shown_word w          a word as it is shown: its first 40 bytes; none is the end of the text
--   word_at text i j      the bytes from place i to j, as far as they are there
--   sentence text fault   line, word and what could stand there; lines as an editor counts them, from 1
use Rattle.std.specs.Prelude.{ℕ, ◌+◌, ◌-◌, ◌/◌, ◌%◌, ◌^◌, min, Bool, cond, ◌&&◌, List, [], ◌∷◌, ◌++◌, length, take, codes, decimal, nat_lt}
use Rattle.std.specs.List.{between, flat_map}
use Rattle.text.specs.declared.error.Expected.{Expected}
use Rattle.text.specs.declared.error.Expected.TheVariants.{Line, LineOrClose, Number, Fast, Semicolon, Times, Name, Open}
use Rattle.text.specs.declared.error.Unreadable.{Unreadable}

abbrev pub expected_text : Expected → List ℕ
expected_text Line = codes "the first word of a line"
expected_text LineOrClose = codes "the first word of a line, or `}`"
expected_text Number = codes "a number"
expected_text Fast = codes "`fast`"
expected_text Semicolon = codes "`;`"
expected_text Times = codes "`times`"
expected_text Name = codes "the number of a sub-program above, or the next one's before all other lines"
expected_text Open = codes "`{`"

abbrev pub hex_digit : ℕ → ℕ
hex_digit d = cond (nat_lt d 10) (48 + d) (87 + d)

abbrev pub printing : ℕ → Bool
printing b = nat_lt 32 b && nat_lt b 127

abbrev pub shown_byte : ℕ → List ℕ
shown_byte b = cond (printing b) (b ∷ []) (codes "\\x" ++ (hex_digit (b / 16) ∷ hex_digit (b % 16) ∷ []))

abbrev pub closing_text : ℕ → List ℕ
closing_text n = cond (nat_lt 40 n) (codes "..`") (codes "`")

abbrev pub shown_word : List ℕ → List ℕ
shown_word [] = codes "the end of the text"
shown_word (b ∷ bs) = codes "`" ++ (flat_map shown_byte (take 40 (b ∷ bs)) ++ closing_text (length (b ∷ bs)))

abbrev pub word_at : List ℕ → ℕ → ℕ → List ℕ
word_at text i j = between (min i (min j (length text))) (min j (length text)) text

abbrev pub sentence : List ℕ → Unreadable → List ℕ
sentence text u =
    codes "line " ++ (decimal (min (u.line + 1) (2 ^ 64 - 1)) ++ (codes ": found " ++ (shown_word (word_at text u.start u.«end») ++ (codes ", expected " ++ expected_text u.expected))))
