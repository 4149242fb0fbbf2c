-- How words are taken from the front of a text: gaps first, and then a word. Assumes nothing.
use Rattle.std.proofs.Common.{◌≡◌, ℕ, ◌+◌, ◌<◌, false, cond, eqb, List, [], ◌∷◌, ◌++◌, length, take, drop, sym, refl, ap, ◌∙◌, subst, inl, inr, arith, append_assoc, append-nil}
use Rattle.std.proofs.Math.Numerals.{one-add}
use Rattle.std.proofs.Math.Seq.{take-add}
use Rattle.std.proofs.lemmas.List.{drop-drop}
use Rattle.std.proofs.lemmas.Bool.{cases_eq, ne_eqb}
use Rattle.std.proofs.lemmas.List.Sums.{sum_by-append, sum_by-cons}
use Rattle.std.specs.List.{prefix_len}
use Rattle.text.specs.declared.scanner.Kind.{Kind}
use Rattle.text.specs.declared.scanner.Kind.TheVariants.{Gap, Mark, Letter}
use Rattle.text.specs.Words.{kind, is_kind, found, word_len, scan, scan_from}
use Rattle.word.specs.Lines.{feeds}

abbrev pub run : Kind → List ℕ → ℕ
run k bs = prefix_len (is_kind k) bs

by_kinds : {P : Type 0} (k : Kind) → (k ≡ Gap → P) → (k ≡ Mark → P) → (k ≡ Letter → P) → P
by_kinds Gap f g h = f refl
by_kinds Mark f g h = g refl
by_kinds Letter f g h = h refl

-- the same words, where places and lines are equal only by arithmetic
scan_at : {a a' l l' : ℕ} (front bs : List ℕ) → a ≡ a' → l ≡ l' → scan a l front bs ≡ scan a' l' front bs
scan_at front bs e f = rw (e, f)

found_at : (w w' : List ℕ) {a a' : ℕ} (line : ℕ) (bs : List ℕ) → w ≡ w' → a ≡ a' → found w line a ∷ scan a line [] bs ≡ found w' line a' ∷ scan a' line [] bs
found_at w w' line bs e f = rw (e, f)

-- a gap, and a letter, at the front
gap_on : (b : ℕ) (bs : List ℕ) (at line : ℕ) → kind b ≡ Gap → scan at line [] (b ∷ bs) ≡ scan (at + 1) (line + cond (eqb b 10) 1 0) [] bs
unfolding scan
gap_on b bs at line e = rw e

letter_on : (front : List ℕ) (b : ℕ) (bs : List ℕ) (at line : ℕ) → kind b ≡ Letter → scan at line front (b ∷ bs) ≡ scan (at + 1) line (front ++ b ∷ []) bs
unfolding scan
letter_on front b bs at line e = rw e

-- gaps are passed over
pub scan_gaps : (bs : List ℕ) (at line : ℕ) → scan at line [] bs ≡ scan (at + run Gap bs) (line + feeds (take (run Gap bs) bs)) [] (drop (run Gap bs) bs)
scan_gaps [] at line = scan_at [] [] (omega arith) (omega arith)
scan_gaps (b ∷ bs) at line =
    by_kinds (kind b)
    (λ e. rw (e, one-add) (gap_on b bs at line e ∙ scan_gaps bs (at + 1) _ ∙ scan_at [] _ (omega arith) (omega (arith, sum_by-cons (λ x. cond (eqb x 10) 1 0) b (take (run Gap bs) bs)))))
    (λ e. rw e (scan_at [] _ (omega arith) (omega arith)))
    (λ e. rw e (scan_at [] _ (omega arith) (omega arith)))

-- a word that is begun ends where no letter follows
ended : (c : ℕ) (cs bs : List ℕ) (at line : ℕ) → run Letter bs ≡ 0 → scan at line (c ∷ cs) bs ≡ found (c ∷ cs) line at ∷ scan at line [] bs
unfolding scan
ended c cs [] at line e = refl
ended c cs (b ∷ bs) at line e = by_kinds (kind b) (λ g. rw g) (λ m. rw m) (λ l. absurd (let z = rw l at e in omega arith))

scan_letters : (c : ℕ) (cs bs : List ℕ) (at line : ℕ) → scan at line (c ∷ cs) bs ≡ found ((c ∷ cs) ++ take (run Letter bs) bs) line (at + run Letter bs) ∷ scan (at + run Letter bs) line [] (drop (run Letter bs) bs)
scan_letters c cs [] at line = ended c cs [] at line refl ∙ found_at (c ∷ cs) ((c ∷ cs) ++ []) line [] (sym (append-nil (c ∷ cs))) (omega arith)
scan_letters c cs (b ∷ bs) at line =
    by_kinds (kind b)
    (λ e. ended c cs (b ∷ bs) at line (rw e) ∙ rw e (found_at (c ∷ cs) ((c ∷ cs) ++ []) line (b ∷ bs) (sym (append-nil (c ∷ cs))) (omega arith)))
    (λ e. ended c cs (b ∷ bs) at line (rw e) ∙ rw e (found_at (c ∷ cs) ((c ∷ cs) ++ []) line (b ∷ bs) (sym (append-nil (c ∷ cs))) (omega arith)))
    (λ e. rw (e, one-add) (letter_on (c ∷ cs) b bs at line e ∙ scan_letters c (cs ++ b ∷ []) bs (at + 1) line ∙ found_at _ ((c ∷ cs) ++ b ∷ take (run Letter bs) bs) line _ (append_assoc (c ∷ cs) (b ∷ []) (take (run Letter bs) bs)) (omega arith)))

-- where gaps end, no gap stands
gaps_end : (bs : List ℕ) → run Gap (drop (run Gap bs) bs) ≡ 0
gaps_end [] = refl
gaps_end (b ∷ bs) = by_kinds (kind b) (λ e. rw (e, one-add) (gaps_end bs)) (λ e. rw e (rw e)) (λ e. rw e (rw e))

-- a byte that is no gap is no line feed
no_feed : (b : ℕ) → (kind b ≡ Gap → ⊥) → eqb b 10 ≡ false
no_feed b h = elim (cases_eq b 10) [ inl e ↦ absurd (h (ap kind e)) | inr e ↦ ne_eqb b 10 e ]

letters_feeds : (bs : List ℕ) → feeds (take (run Letter bs) bs) ≡ 0
letters_feeds [] = refl
letters_feeds (b ∷ bs) =
    by_kinds (kind b) (λ e. rw e refl) (λ e. rw e refl)
    (λ e. rw (e, one-add) (sum_by-cons (λ x. cond (eqb x 10) 1 0) b (take (run Letter bs) bs) ∙ rw (no_feed b (λ g. cc)) (omega (arith, letters_feeds bs))))

mark_on : (b : ℕ) (bs : List ℕ) (at line : ℕ) → kind b ≡ Mark → scan at line [] (b ∷ bs) ≡ found (b ∷ []) line (at + 1) ∷ scan (at + 1) line [] bs
unfolding scan
mark_on b bs at line e = rw e

-- a word of so many bytes at the front of bs, in which no line ends
pub record Word (bs : List ℕ) (n : ℕ) : Type 0 where
  pub taken : (at line : ℕ) → scan at line [] bs ≡ found (take n bs) line (at + n) ∷ scan (at + n) line [] (drop n bs)
  pub feedless : feeds (take n bs) ≡ 0

mark_word : (b : ℕ) (bs : List ℕ) → kind b ≡ Mark → Word (b ∷ bs) 1
mark_word b bs e = record { taken = λ at line. mark_on b bs at line e; feedless = rw (no_feed b (λ g. cc)) }

letter_word : (b : ℕ) (bs : List ℕ) → kind b ≡ Letter → Word (b ∷ bs) (run Letter (b ∷ bs))
letter_word b bs e = record {
  taken = λ at line. letter_on [] b bs at line e ∙ scan_letters b [] bs (at + 1) line ∙ rw (e, one-add) (found_at (b ∷ take (run Letter bs) bs) (b ∷ take (run Letter bs) bs) {a = at + 1 + run Letter bs} line (drop (run Letter bs) bs) refl (omega arith));
  feedless = letters_feeds (b ∷ bs);
}

word_of : (bs : List ℕ) → 0 < word_len bs → Word bs (word_len bs)
word_of [] some = absurd (omega arith)
word_of (b ∷ bs) some =
    by_kinds (kind b)
    (λ e. absurd (let z = rw e at some in omega arith))
    (λ e. rw e (mark_word b bs e))
    (λ e. let w = letter_word b bs e in rw e (rw e at w))

-- where gaps end and no word begins, the text ends
no_more : (bs : List ℕ) → run Gap bs ≡ 0 → word_len bs ≡ 0 → bs ≡ []
no_more [] g w = refl
no_more (b ∷ bs) g w =
    by_kinds (kind b)
    (λ e. absurd (let z = rw e at g in omega arith))
    (λ e. absurd (let z = rw e at w in omega arith))
    (λ e. absurd (let z = rw e at w in omega arith))

-- bytes that are behind others: their place, and the lines before them
feeds_on : (text more : List ℕ) (at n : ℕ) → more ≡ drop at text → feeds (take (at + n) text) ≡ feeds (take at text) + feeds (take n more)
feeds_on text more at n e = ap feeds (take-add at n text) ∙ sum_by-append (λ x. cond (eqb x 10) 1 0) (take at text) (take n (drop at text)) ∙ ap (λ bs. feeds (take at text) + feeds (take n bs)) (sym e)

behind : (text more : List ℕ) (at n : ℕ) → more ≡ drop at text → drop n more ≡ drop (at + n) text
behind text more at n e = ap (drop n) e ∙ drop-drop n at text

-- the next word of a text, behind a gap
module _ (text rest more : List ℕ) (at gap : ℕ) (from : rest ≡ drop at text) (gaps : gap ≡ run Gap rest) (back : more ≡ drop gap rest) where
  there : more ≡ drop (at + gap) text
  there = back ∙ behind text rest at gap from

  passed : scan_from text at ≡ scan (at + gap) (feeds (take (at + gap) text)) [] more
  passed =
      let f = scan_gaps rest at (feeds (take at text)) in
      let l = sym (feeds_on text rest at gap from) in
      ap (scan at (feeds (take at text)) []) (sym from) ∙ rw (sym gaps, sym back, l) at f

  pub next_word : (bytes : List ℕ) (len : ℕ) → len ≡ word_len more → bytes ≡ take len more → length bytes ≡ len → 0 < len → scan_from text at ≡ found bytes (feeds (take (at + gap) text)) (at + gap + length bytes) ∷ scan_from text (at + gap + length bytes)
  next_word bytes len e front l some =
      let w : Word more len = subst (Word more) (sym e) (word_of more (omega arith)) in
      let f : feeds (take (at + gap + len) text) ≡ feeds (take (at + gap) text) = omega (arith, feeds_on text more (at + gap) len there, w.feedless) in
      let next : scan_from text at ≡ found (take len more) (feeds (take (at + gap) text)) (at + gap + len) ∷ scan_from text (at + gap + len) = passed ∙ rw (f, sym (behind text more (at + gap) len there)) (w.taken (at + gap) (feeds (take (at + gap) text))) in
      next ∙ ap (λ bs. found bs (feeds (take (at + gap) text)) (at + gap + len) ∷ scan_from text (at + gap + len)) (sym front) ∙ ap (λ n. found bytes (feeds (take (at + gap) text)) (at + gap + n) ∷ scan_from text (at + gap + n)) (sym l)

  pub no_word : word_len more ≡ 0 → scan_from text at ≡ []
  unfolding scan
  no_word none = passed ∙ rw (no_more more (rw (sym gaps, sym back) at (gaps_end rest)) none)
