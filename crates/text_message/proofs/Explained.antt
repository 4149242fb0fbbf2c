-- A word as it is shown. Assumes nothing.
use Rattle.std.proofs.Common.{◌≡◌, ℕ, ◌≤◌, min, false, eqb, List, [], ◌∷◌, ◌++◌, length, take, codes, ap, ◌∙◌, arith, false-eqb, append_assoc}
use Rattle.std.specs.List.{flat_map}
use Rattle.std.proofs.lemmas.List.{take_all, take_min}
use Rattle.text_message.specs.Explaining.{shown_byte, closing_text, shown_word}

-- the first 40 bytes, however they were cut off
first : (w : List ℕ) (n k i : ℕ) → n ≡ min (length w) k → length (take n w) ≤ i → take i (take n w) ≡ take k w
first w n k i e h = let same : n ≡ min k (length w) = omega arith in take_all i (take n w) h ∙ ap (λ m. take m w) same ∙ take_min k w

pub word_shown : (w : List ℕ) (n i : ℕ) → false ≡ eqb (length w) 0 → n ≡ min (length w) 40 → length (take n w) ≤ i → (codes "`" ++ flat_map shown_byte (take i (take n w))) ++ closing_text (length w) ≡ shown_word w
word_shown [] n i some e h = absurd (omega (arith, false-eqb 0 0 some))
word_shown (b ∷ bs) n i some e h = append_assoc (codes "`") (flat_map shown_byte (take i (take n (b ∷ bs)))) (closing_text (length (b ∷ bs))) ∙ ap (λ (w : List ℕ). codes "`" ++ (flat_map shown_byte w ++ closing_text (length (b ∷ bs)))) (first (b ∷ bs) n 40 i e h)
