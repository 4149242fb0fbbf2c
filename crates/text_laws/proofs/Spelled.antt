-- What is written of a line is read as that line's words. Assumes nothing.
use Rattle.std.proofs.Common.{◌≡◌, ℕ, zero, suc, ◌-◌, ◌^◌, ◌<◌, min, List, [], ◌∷◌, ◌++◌, length, ℤ, pos, negsuc, Some, codes, decimal, sym, refl, ap, ◌∙◌, arith}
use Rattle.std.specs.Str.Parse.{AllDigits}
use Rattle.std.specs.Int.{IsInRange}
use Rattle.std.specs.Fmt.{signed_decimal}
use Rattle.std.proofs.lemmas.Fmt.{decimal_is_IsNumeral, decimal_nonempty}
use Rattle.std.proofs.lemmas.List.{append_assoc, append-nil}
use Rattle.std.proofs.lemmas.Str.Parse.{digit_from_value}
use Rattle.std.proofs.lemmas.Int.{ints}
use Rattle.std.proofs.lemmas.Bool.{ne_eqb}
use Rattle.std.proofs.lemmas.Bool.Decides.{nat_tests}
use Rattle.listing.specs.declared.Line.{Line}
use Rattle.listing.specs.declared.Line.TheVariants.{Go, Use, Begin, BeginSub, End}
use Rattle.text.specs.declared.phase.Block.TheVariants.{Repeat, Offset, Turned, Mirrored}
use Rattle.text.specs.declared.phase.Move.TheVariants.{Absolute, Incremental}
use Rattle.text.specs.declared.scanner.Kind.{Kind}
use Rattle.text.specs.declared.scanner.Kind.TheVariants.{Gap, Mark, Letter}
use Rattle.text.specs.declared.token.Key.TheVariants.{To, By, Fast, Times, At, Turn, Mirror, Sub, Semicolon, Open, Close}
use Rattle.text.specs.declared.token.Token.{Token}
use Rattle.text.specs.declared.token.Token.TheVariants.{Number, Word}
use Rattle.text_laws.specs.Trees.{Small, SmallBlock}
use Rattle.std.specs.Option.{option_map}
use Rattle.word.specs.Numbers.{magnitude, number_of, up, down}
use Rattle.text.specs.Words.{kind, token_of, by_kind}
use Rattle.listing.specs.Writing.{line_text, indented, whole_line, written, depth_after}
use Rattle.text_laws.proofs.Alone.{toks, flushed}
use Rattle.word.proofs.Numbers.{magnitude_all}

abbrev Letters : List ℕ → Type 0
Letters [] = Unit {0}
Letters (c ∷ cs) = (kind c ≡ Letter) × Letters cs

-- no letter comes next
abbrev Stops : List ℕ → Type 0
Stops [] = Unit {0}
Stops (b ∷ bs) = kind b ≡ Letter → ⊥

toks_letters : (w front rest : List ℕ) → Letters w → toks front (w ++ rest) ≡ toks (front ++ w) rest
unfolding toks
toks_letters [] front rest h = ap (λ (f : List ℕ). toks f rest) (sym (append-nil front))
toks_letters (c ∷ cs) front rest h = rw h.0 (toks_letters cs (front ++ c ∷ []) rest h.1 ∙ ap (λ (f : List ℕ). toks f rest) (append_assoc front (c ∷ []) cs))

word_ends : (c : ℕ) (cs rest : List ℕ) → Stops rest → toks (c ∷ cs) rest ≡ token_of (c ∷ cs) ∷ toks [] rest
unfolding toks
word_ends c cs [] s = refl
word_ends c cs (b ∷ bs) s = ends (kind b) s
  where
    ends : (k : Kind) → (k ≡ Letter → ⊥) → by_kind k (flushed (c ∷ cs) (toks [] bs)) (flushed (c ∷ cs) (token_of (b ∷ []) ∷ toks [] bs)) (toks ((c ∷ cs) ++ b ∷ []) bs) ≡ token_of (c ∷ cs) ∷ by_kind k (toks [] bs) (token_of (b ∷ []) ∷ toks [] bs) (toks (b ∷ []) bs)
    ends Gap s = refl
    ends Mark s = refl
    ends Letter s = absurd (s refl)

pub toks_word : (w rest : List ℕ) → 0 < length w → Letters w → Stops rest → toks [] (w ++ rest) ≡ token_of w ∷ toks [] rest
toks_word [] rest some h s = absurd (omega arith)
toks_word (c ∷ cs) rest some h s = toks_letters (c ∷ cs) [] rest h ∙ word_ends c cs rest s

digit_letter : (b : ℕ) → IsInRange 48 57 b → kind b ≡ Letter
digit_letter b h = grind (arith, nat_tests)

digits_letters : (ds : List ℕ) → AllDigits 10 ds → Letters ds
digits_letters [] h = tt
digits_letters (c ∷ cs) h = (digit_letter c (digit_from_value c h.0), digits_letters cs h.1)

-- a number that is written
decimal_magnitude : (n : ℕ) → n < 2 ^ 64 → magnitude (decimal n) ≡ Some n
decimal_magnitude n h =
    let r = decimal_is_IsNumeral n h in
    magnitude_all (decimal n) (decimal_nonempty n h) r.0.1 ∙ ap Some (ap (λ (v : ℕ). min v (2 ^ 64 - 1)) r.1 ∙ omega arith)

plain_number : (c : ℕ) (cs : List ℕ) (n : ℕ) → IsInRange 48 57 c → magnitude (c ∷ cs) ≡ Some n → number_of (c ∷ cs) ≡ Some (up n)
plain_number c cs n d m = rw (ne_eqb c 45 (λ e. omega arith)) (ap (option_map up) m)

number_word : (ds : List ℕ) (n : ℕ) → AllDigits 10 ds → 0 < length ds → magnitude ds ≡ Some n → number_of ds ≡ Some (up n)
number_word [] n d some m = absurd (omega arith)
number_word (c ∷ cs) n d some m = plain_number c cs n (digit_from_value c d.0) m

token_signed : (z : ℤ) → Small z → token_of (signed_decimal z) ≡ Number z
token_signed (pos n) h =
    let b : n < 2 ^ 64 = omega arith in
    let r = decimal_is_IsNumeral n b in
    let e = number_word (decimal n) n r.0.1 (decimal_nonempty n b) (decimal_magnitude n b) in
    rw e (ap (λ (m : ℕ). Number (pos m)) (omega arith))
token_signed (negsuc n) h =
    let e = decimal_magnitude (suc n) (omega arith) in
    let back : down (suc n) ≡ negsuc n = omega (arith, ints) in
    rw e (ap Number back)

letters_signed : (z : ℤ) → Small z → Letters (signed_decimal z)
letters_signed (pos n) h = digits_letters (decimal n) (decimal_is_IsNumeral n (omega arith)).0.1
letters_signed (negsuc n) h = (refl, digits_letters (decimal (suc n)) (decimal_is_IsNumeral (suc n) (omega arith)).0.1)

signed_some : (z : ℤ) → Small z → 0 < length (signed_decimal z)
signed_some (pos n) h = decimal_nonempty n (omega arith)
signed_some (negsuc n) h = omega arith

toks_number : (z : ℤ) (more rest : List ℕ) → Small z → Stops (more ++ rest) → toks [] ((signed_decimal z ++ more) ++ rest) ≡ Number z ∷ toks [] (more ++ rest)
toks_number z more rest h s =
    ap (toks []) (append_assoc (signed_decimal z) more rest)
    ∙ toks_word (signed_decimal z) (more ++ rest) (signed_some z h) (letters_signed z h) s
    ∙ ap (λ (t : Token). t ∷ toks [] (more ++ rest)) (token_signed z h)

-- a line's words
abbrev pub line_tokens : Line → List Token
line_tokens (Go Absolute x y speed) = Word To ∷ Number x ∷ Number y ∷ Word Fast ∷ Number speed ∷ Word Semicolon ∷ []
line_tokens (Go Incremental x y speed) = Word By ∷ Number x ∷ Number y ∷ Word Fast ∷ Number speed ∷ Word Semicolon ∷ []
line_tokens (Use name) = Word Sub ∷ Number name ∷ Word Semicolon ∷ []
line_tokens (Begin (Repeat n)) = Number n ∷ Word Times ∷ Word Open ∷ []
line_tokens (Begin (Offset x y)) = Word At ∷ Number x ∷ Number y ∷ Word Open ∷ []
line_tokens (Begin Turned) = Word Turn ∷ Word Open ∷ []
line_tokens (Begin Mirrored) = Word Mirror ∷ Word Open ∷ []
line_tokens (BeginSub name) = Word Sub ∷ Number name ∷ Word Open ∷ []
line_tokens End = Word Close ∷ []

unfoldable pub all_tokens : List Line → List Token
all_tokens [] = []
all_tokens (l ∷ ls) = line_tokens l ++ all_tokens ls

-- its numbers fit
abbrev pub SmallLine : Line → Type 0
SmallLine (Go m x y speed) = Small x × Small y × Small speed
SmallLine (Use name) = Small name
SmallLine (Begin b) = SmallBlock b
SmallLine (BeginSub name) = Small name
SmallLine End = Unit {0}

abbrev pub SmallLines : List Line → Type 0
SmallLines [] = Unit {0}
SmallLines (l ∷ ls) = SmallLine l × SmallLines ls

toks_move : (x y speed : ℤ) (rest : List ℕ) → Small x → Small y → Small speed → toks [] ((signed_decimal x ++ (codes " " ++ (signed_decimal y ++ (codes " fast " ++ (signed_decimal speed ++ codes ";"))))) ++ rest) ≡ Number x ∷ Number y ∷ Word Fast ∷ Number speed ∷ Word Semicolon ∷ toks [] rest
unfolding toks
toks_move x y speed rest a b c =
    toks_number x _ rest a (λ e. cc)
    ∙ ap (λ (ts : List Token). Number x ∷ ts) (toks_number y _ rest b (λ e. cc))
    ∙ ap (λ (ts : List Token). Number x ∷ Number y ∷ Word Fast ∷ ts) (toks_number speed _ rest c (λ e. cc))

toks_line : (l : Line) (rest : List ℕ) → SmallLine l → toks [] (line_text l ++ rest) ≡ line_tokens l ++ toks [] rest
unfolding toks
toks_line (Go Absolute x y speed) rest h = ap (λ (ts : List Token). Word To ∷ ts) (toks_move x y speed rest h.0 h.1 h.2)
toks_line (Go Incremental x y speed) rest h = ap (λ (ts : List Token). Word By ∷ ts) (toks_move x y speed rest h.0 h.1 h.2)
toks_line (Use name) rest h = ap (λ (ts : List Token). Word Sub ∷ ts) (toks_number name _ rest h (λ e. cc))
toks_line (Begin (Repeat n)) rest h = toks_number n _ rest h (λ e. cc)
toks_line (Begin (Offset x y)) rest h =
    ap (λ (ts : List Token). Word At ∷ ts) (toks_number x _ rest h.0 (λ e. cc) ∙ ap (λ (ts : List Token). Number x ∷ ts) (toks_number y _ rest h.1 (λ e. cc)))
toks_line (Begin Turned) rest h = refl
toks_line (Begin Mirrored) rest h = refl
toks_line (BeginSub name) rest h = ap (λ (ts : List Token). Word Sub ∷ ts) (toks_number name _ rest h (λ e. cc))
toks_line End rest h = refl

toks_indented : (n : ℕ) (rest : List ℕ) → toks [] (indented n ++ rest) ≡ toks [] rest
unfolding toks indented
toks_indented zero rest = refl
toks_indented (suc n) rest = toks_indented n rest

toks_whole : (l : Line) (d : ℕ) (rest : List ℕ) → SmallLine l → toks [] (whole_line d l ++ rest) ≡ line_tokens l ++ toks [] rest
unfolding toks
toks_whole l d rest h =
    ap (toks []) (append_assoc (indented _) (line_text l ++ codes "\n") rest)
    ∙ toks_indented _ ((line_text l ++ codes "\n") ++ rest)
    ∙ ap (toks []) (append_assoc (line_text l) (codes "\n") rest)
    ∙ toks_line l (codes "\n" ++ rest) h

pub toks_written : (d : ℕ) (ls : List Line) → SmallLines ls → toks [] (written d ls) ≡ all_tokens ls
unfolding toks written all_tokens
toks_written d [] h = refl
toks_written d (l ∷ ls) h = toks_whole l d (written (depth_after l d) ls) h.0 ∙ ap (λ (ts : List Token). line_tokens l ++ ts) (toks_written (depth_after l d) ls h.1)
