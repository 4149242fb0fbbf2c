-- What the contracts of taking words from a text cite. Assumes nothing.
--   found_at text w   a word of a text, as it is found there
--   left s            the words that are left
--   GivesWord s r t   the next of them is given, and the others are left; or none is left
use Rattle.std.specs.Prelude.{◌≡◌, ℕ, ◌+◌, ◌≤◌, List, [], ◌∷◌, length, take, Some, None, Option}
use Rattle.text.specs.declared.words.Word.{Word}
use Rattle.text.specs.declared.words.Words.{Words}
use Rattle.text.specs.Words.{Found, found, scan_from}
use Rattle.word.specs.Lines.{feeds}

abbrev pub found_at : List ℕ → Word → Found
found_at text w = found w.bytes.now (feeds (take w.start text)) (w.start + length w.bytes.now)

abbrev pub left : Words → List Found
left s = scan_from s.text.now s.at

pub record GivesNext (s : Words) (w : Word) (t : Words) : Type 0 where
  pub found : left s ≡ found_at s.text.now w ∷ left t
  pub within : w.start + length w.bytes.now ≤ length s.text.now
  pub same : t.text.now ≡ s.text.now

abbrev pub GivesWord : Words → Option Word → Words → Type 0
GivesWord s (Some w) t = GivesNext s w t
GivesWord s None t = (left s ≡ []) × (left t ≡ [])
