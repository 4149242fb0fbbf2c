-- A word of so many bytes, byte by byte. Assumes nothing.
use Rattle.std.proofs.Common.{◌≡◌, ℕ, zero, suc, ◌+◌, List, [], ◌∷◌, length, get_or, drop, ap, ◌∙◌, arith}
use Rattle.std.proofs.lemmas.List.{drop_more, drop_all}

abbrev pub bytes_from : List ℕ → ℕ → ℕ → List ℕ
bytes_from w i zero = []
bytes_from w i (suc n) = get_or w i 0 ∷ bytes_from w (i + 1) n

pub byte_by_byte : (w : List ℕ) (i n : ℕ) → length w ≡ i + n → drop i w ≡ bytes_from w i n
byte_by_byte w i zero e = drop_all i w (omega arith)
byte_by_byte w i (suc n) e = drop_more w i 0 (omega arith) ∙ ap (λ (bs : List ℕ). get_or w i 0 ∷ bs) (byte_by_byte w (i + 1) n (omega arith))
