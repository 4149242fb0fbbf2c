-- A line without the gaps that it begins with and its first word, and the first line of a script.
use Rattle.std.proofs.Common.{◌≡◌, ℕ, suc, ◌+◌, ◌<◌, ◌≤◌, true, false, eqb, ltb, ◌==◌, Some, None, rules, List, [], ◌∷◌, ◌++◌, length, take, drop, sym, refl, ◌∙◌, inl, inr, append_assoc, append-nil, length-append, drop-drop, arith}
use Rattle.std.specs.List.{prefix_len, position_or_len, position_from}
use Rattle.std.proofs.lemmas.Bool.{cases_Bool, eqb-true, eqb-false, ltb-true, ltb-false}
use Rattle.std.proofs.lemmas.Iterator.Adapters.{position_from-zero}
use Rattle.script.specs.Words.{gap, letter, begun, words_after, words, lines_after, lines}

skipped : (bs : List ℕ) → words (drop (prefix_len gap bs) bs) ≡ words bs
unfolding words_after
skipped [] = refl
skipped (b ∷ bs) =
    let n : 1 + prefix_len gap bs ≡ suc (prefix_len gap bs) = omega arith in
    elim (cases_Bool (gap b)) [
      | inl e ↦ rw (e, n) (skipped bs)
      | inr e ↦ rw e (rw e refl)
    ]

taken : (w bs : List ℕ) → words_after w bs ≡ begun (w ++ take (prefix_len letter bs) bs) (words (drop (prefix_len letter bs) bs))
unfolding words_after
taken w [] = rw append-nil refl
taken w (b ∷ bs) =
    let n : 1 + prefix_len letter bs ≡ suc (prefix_len letter bs) = omega arith in
    elim (cases_Bool (gap b)) [
      | inl e ↦ rw (e, append-nil) (rw e refl)
      | inr e ↦ rw (e, n) (taken (w ++ b ∷ []) bs ∙ rw append_assoc refl)
    ]

-- what stands behind the gaps begins with a word, if anything does
starts : (bs : List ℕ) → let from = drop (prefix_len gap bs) bs in take (prefix_len letter from) from ≡ [] → from ≡ []
starts [] e = refl
starts (b ∷ bs) e =
    let n : 1 + prefix_len gap bs ≡ suc (prefix_len gap bs) = omega arith in
    let m : 1 + prefix_len letter bs ≡ suc (prefix_len letter bs) = omega arith in
    elim (cases_Bool (gap b)) [
      | inl g ↦ rw (g, n) (starts bs (rw (g, n) at e))
      | inr g ↦ let f = rw (g, g, m) at e in cc
    ]

-- a line, what stands behind its gaps, the word w that this begins with, and the rest
module _ (bs from rest : List ℕ) (e : from ≡ drop (prefix_len gap bs) bs) (g : rest ≡ drop (prefix_len letter from) from) where
  first_word : (w : List ℕ) → w ≡ take (prefix_len letter from) from → words bs ≡ begun w (words rest)
  first_word w f = sym (skipped bs) ∙ rw (f, g, ← e) (taken [] from)

  pub some_word : (w : List ℕ) → w ≡ take (prefix_len letter from) from → eqb (length w) 0 ≡ false → words bs ≡ w ∷ words rest
  some_word [] f n = absurd (eqb-false 0 0 n refl)
  some_word (c ∷ cs) f n = first_word (c ∷ cs) f

  pub no_word : (w : List ℕ) → w ≡ take (prefix_len letter from) from → eqb (length w) 0 ≡ true → words bs ≡ [] × words rest ≡ []
  unfolding words_after
  no_word [] f n =
      let z : from ≡ [] = e ∙ starts bs (rw (← e) (sym f)) in
      let r : rest ≡ [] = rw (g, z) refl in
      (first_word [] f ∙ rw r refl, rw r refl)
  no_word (c ∷ cs) f n = absurd (omega (arith, eqb-true (length (c ∷ cs)) 0 n))

pub blank : (bs : List ℕ) → true ≡ (length bs == 0) → words bs ≡ []
unfolding words_after
blank [] n = refl
blank (b ∷ bs) n = absurd (omega (arith, eqb-true (length (b ∷ bs)) 0 (sym n)))

-- where the first line feed is, a line ends
abbrev pub first_feed : List ℕ → ℕ
first_feed bs = position_or_len (λ b. eqb b 10) bs

pub line_cut : (l bs : List ℕ) → first_feed bs < length bs → lines_after l bs ≡ (l ++ take (first_feed bs) bs) ∷ lines (drop (first_feed bs + 1) bs)
unfolding lines_after
line_cut l [] h = absurd (omega arith)
line_cut l (b ∷ bs) h =
    let n : 1 + first_feed bs ≡ suc (first_feed bs) = omega arith in
    let m : suc (first_feed bs) + 1 ≡ suc (first_feed bs + 1) = omega arith in
    elim (cases_Bool (eqb b 10)) [
      | inl e ↦ rw (e, append-nil) refl
      | inr e ↦ rw (e, n, m) (line_cut (l ++ b ∷ []) bs (let g = rw (e, n) at h in omega arith) ∙ rw append_assoc refl)
    ]

pub line_last : (l bs : List ℕ) → length bs ≤ first_feed bs → lines_after l bs ≡ begun (l ++ bs) []
unfolding lines_after
line_last l [] h = rw append-nil refl
line_last l (b ∷ bs) h =
    let n : 1 + first_feed bs ≡ suc (first_feed bs) = omega arith in
    elim (cases_Bool (eqb b 10)) [
      | inl e ↦ absurd (let g = rw e at h in omega arith)
      | inr e ↦ rw e (line_last (l ++ b ∷ []) bs (let g = rw (e, n) at h in omega arith) ∙ rw append_assoc refl)
    ]

pub feed_some : (bs : List ℕ) (i : ℕ) → Some i ≡ position_from (λ b. b == 10) 0 bs → (i < length bs) × (lines bs ≡ take i bs ∷ lines (drop (i + 1) bs))
feed_some bs i e =
    let p = position_from-zero (λ b. b == 10) bs in
    elim (cases_Bool (ltb (first_feed bs) (length bs))) [
      | inl t ↦ let s : Some i ≡ Some (first_feed bs) = e ∙ sym (rw t at p) in let k : i ≡ first_feed bs = search (s, rules) in rw k (ltb-true _ _ t, line_cut [] bs (ltb-true _ _ t))
      | inr f ↦ let s : Some i ≡ None = e ∙ sym (rw f at p) in absurd (search (s, rules))
    ]

pub feed_cut : (bs line behind : List ℕ) (i : ℕ) → line ≡ take i bs → behind ≡ drop i bs → Some i ≡ position_from (λ b. b == 10) 0 bs → lines bs ≡ line ∷ lines (drop 1 behind)
feed_cut bs line behind i e f g = let s = feed_some bs i g in rw (e, f, drop-drop) s.1

-- where there is none, all is one line
feed_none : (bs : List ℕ) → None ≡ position_from (λ b. b == 10) 0 bs → lines bs ≡ begun bs []
feed_none bs e =
    let p = position_from-zero (λ b. b == 10) bs in
    elim (cases_Bool (ltb (first_feed bs) (length bs))) [
      | inl t ↦ let s : None ≡ Some (first_feed bs) = e ∙ sym (rw t at p) in absurd (search (s, rules))
      | inr f ↦ line_last [] bs (ltb-false _ _ f)
    ]

pub one_line : (bs : List ℕ) → None ≡ position_from (λ b. b == 10) 0 bs → false ≡ (length bs == 0) → lines bs ≡ bs ∷ lines []
unfolding lines_after
one_line [] e n = absurd (search (n, rules))
one_line (b ∷ bs) e n = feed_none (b ∷ bs) e

pub no_line : (bs : List ℕ) → true ≡ (length bs == 0) → lines bs ≡ []
unfolding lines_after
no_line [] n = refl
no_line (b ∷ bs) n = absurd (omega (arith, eqb-true (length (b ∷ bs)) 0 (sym n)))

pub lines_fit : (l bs : List ℕ) → length (lines_after l bs) ≤ length l + length bs
unfolding lines_after
lines_fit [] [] = omega arith
lines_fit (c ∷ cs) [] = omega arith
lines_fit l (b ∷ bs) =
    elim (cases_Bool (eqb b 10)) [
      | inl e ↦ rw e (omega (arith, lines_fit [] bs))
      | inr e ↦ rw e (omega (arith, lines_fit (l ++ b ∷ []) bs, length-append l (b ∷ [])))
    ]
