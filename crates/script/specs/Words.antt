-- What the contracts of scanning a script cite: its lines, and their words. Assumes nothing.
--   gap b             whether a byte stands between words: a space, a tab or a carriage return
--   letter b          whether it belongs to a word
--   begun w ws        the words ws, with w before them if it has a letter
--   words_after w bs  the words of the bytes bs, with w begun before them
--   words bs          the words of a line: the longest runs of bytes that are no gaps
--   lines_after l bs  the lines of the bytes bs, with l begun before them
--   lines bs          the lines of a script; a line feed ends each, and may be left out behind the last
use Rattle.std.specs.Prelude.{ℕ, Bool, not, cond, ◌||◌, List, [], ◌∷◌, ◌++◌, ◌==◌}

abbrev pub gap : ℕ → Bool
gap b = b == 32 || b == 9 || b == 13

abbrev pub letter : ℕ → Bool
letter b = not (gap b)

abbrev pub begun : List ℕ → List (List ℕ) → List (List ℕ)
begun [] ws = ws
begun (c ∷ cs) ws = (c ∷ cs) ∷ ws

unfoldable pub words_after : List ℕ → List ℕ → List (List ℕ)
words_after w [] = begun w []
words_after w (b ∷ bs) = cond (gap b) (begun w (words_after [] bs)) (words_after (w ++ b ∷ []) bs)

abbrev pub words : List ℕ → List (List ℕ)
words bs = words_after [] bs

unfoldable pub lines_after : List ℕ → List ℕ → List (List ℕ)
lines_after l [] = begun l []
lines_after l (b ∷ bs) = cond (b == 10) (l ∷ lines_after [] bs) (lines_after (l ++ b ∷ []) bs)

abbrev pub lines : List ℕ → List (List ℕ)
lines bs = lines_after [] bs
