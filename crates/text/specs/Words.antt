-- What the contracts of scanning cite: a text's words, and what each says. Assumes nothing.
--   kind b               whether a byte is a gap, a mark or a letter of a word
--   is_kind k b          whether it is one of a kind
--   word_len bs          how long the word is that bytes begin with: 0 where they begin with none
--   token_of w           what a word says
--   Found                a word that is found: what it says, its line, and where it starts and ends
--   scan at line front   the words of bytes that begin at a place and a line, with a word begun before them
--   tokens text          what a text's words say, wherever they stand
--   scan_from text i     the words of a text from place i on
use Rattle.std.specs.Prelude.{ℕ, ◌+◌, ◌-◌, Bool, true, false, cond, ◌||◌, List, [], ◌∷◌, ◌++◌, map, length, take, drop, ℤ, Some, None, codes, Option, ◌==◌}
use Rattle.std.specs.List.{prefix_len}
use Rattle.std.specs.Str.{bytes_eq}
use Rattle.word.specs.Lines.{feeds}
use Rattle.word.specs.Numbers.{number_of}
use Rattle.text.specs.declared.scanner.Kind.{Kind}
use Rattle.text.specs.declared.scanner.Kind.TheVariants.{Gap, Mark, Letter}
use Rattle.text.specs.declared.token.Key.TheVariants.{To, By, Fast, Times, At, Turn, Mirror, Sub, Semicolon, Open, Close}
use Rattle.text.specs.declared.token.Token.{Token}
use Rattle.text.specs.declared.token.Token.TheVariants.{Number, Word, Other}

abbrev pub kind : ℕ → Kind
kind b = cond (b == 32 || b == 9 || b == 13 || b == 10) Gap (cond (b == 59 || b == 123 || b == 125) Mark Letter)

abbrev pub by_kind : {A : Type 0} → Kind → A → A → A → A
by_kind Gap a b c = a
by_kind Mark a b c = b
by_kind Letter a b c = c

abbrev pub is_kind : Kind → ℕ → Bool
is_kind k b = by_kind (kind b) (by_kind k true false false) (by_kind k false true false) (by_kind k false false true)

abbrev pub word_len : List ℕ → ℕ
word_len [] = 0
word_len (b ∷ bs) = by_kind (kind b) 0 1 (1 + prefix_len (is_kind Letter) bs)

-- the words that are no numbers
abbrev pub key_of : List ℕ → Token
key_of w =
    cond (bytes_eq w (codes ";")) (Word Semicolon) (cond (bytes_eq w (codes "{")) (Word Open) (cond (bytes_eq w (codes "}")) (Word Close)
    (cond (bytes_eq w (codes "fast")) (Word Fast) (cond (bytes_eq w (codes "to")) (Word To) (cond (bytes_eq w (codes "by")) (Word By)
    (cond (bytes_eq w (codes "times")) (Word Times) (cond (bytes_eq w (codes "at")) (Word At) (cond (bytes_eq w (codes "turn")) (Word Turn)
    (cond (bytes_eq w (codes "mirror")) (Word Mirror) (cond (bytes_eq w (codes "sub")) (Word Sub) Other))))))))))

abbrev pub numbered : Option ℤ → Token → Token
numbered None t = t
numbered (Some n) t = Number n

abbrev pub token_of : List ℕ → Token
token_of w = numbered (number_of w) (key_of w)

-- a word that is found
pub record Found : Type 0 where
  pub token : Token
  pub line : ℕ
  pub start : ℕ
  pub stop : ℕ

abbrev pub found : List ℕ → ℕ → ℕ → Found
found w line stop = record { token = token_of w; line = line; start = stop - length w; stop = stop }

-- the word begun so far, if any, comes before what follows
abbrev pub flush : List ℕ → ℕ → ℕ → List Found → List Found
flush [] line at ws = ws
flush (c ∷ cs) line at ws = found (c ∷ cs) line at ∷ ws

unfoldable pub scan : ℕ → ℕ → List ℕ → List ℕ → List Found
scan at line front [] = flush front line at []
scan at line front (b ∷ bs) =
    by_kind (kind b)
    (flush front line at (scan (at + 1) (line + cond (b == 10) 1 0) [] bs))
    (flush front line at (found (b ∷ []) line (at + 1) ∷ scan (at + 1) line [] bs))
    (scan (at + 1) line (front ++ b ∷ []) bs)

-- what a text's words say
abbrev pub tokens : List ℕ → List Token
tokens text = map (λ (w : Found). w.token) (scan 0 0 [] text)

abbrev pub scan_from : List ℕ → ℕ → List Found
scan_from text i = scan i (feeds (take i text)) [] (drop i text)
