-- What is read depends on what the words say, and not on where they stand. Assumes nothing.
use Rattle.std.proofs.Common.{◌≡◌, ℕ, ◌+◌, List, [], ◌∷◌, ◌++◌, map, ℤ, Some, None, Ok, Err, Option, Result, refl, ap, ◌∙◌}
use Rattle.std.specs.Option.{ok_or}
use Rattle.std.specs.Result.{result_ok}
use Rattle.text.specs.declared.error.Unreadable.{Unreadable}
use Rattle.text.specs.declared.phase.Phase.{Phase}
use Rattle.text.specs.declared.phase.Phase.TheVariants.{Line}
use Rattle.text.specs.declared.scanner.Kind.{Kind}
use Rattle.text.specs.declared.scanner.Kind.TheVariants.{Gap, Mark, Letter}
use Rattle.text.specs.declared.token.Token.{Token}
use Rattle.text.specs.Words.{kind, token_of, Found, flush, by_kind, scan, tokens}
use Rattle.text.specs.Reading.{Held, Next, empty, step, at_end, expected_of, unreadable, follow, reads, read}

-- words taken one by one, wherever they stand
unfoldable pub runs : Phase → Held → List Token → Option (List ℤ)
runs p h [] = at_end p h
runs p h (t ∷ ts) = follow (step t p h) None (λ q k. runs q k ts)

ok_ok_or : {A E : Type 0} (o : Option A) (e : E) → result_ok (ok_or o e) ≡ o
ok_ok_or None e = refl
ok_ok_or (Some x) e = refl

reads_runs : (p : Phase) (h : Held) (ws : List Found) (end : Found) → result_ok (reads p h ws end) ≡ runs p h (map (λ (w : Found). w.token) ws)
unfolding reads runs
reads_runs p h [] end = ok_ok_or (at_end p h) (unreadable end (expected_of p h))
reads_runs p h (w ∷ ws) end =
    elim (step w.token p h) as (λ (n : Next). result_ok (follow n (Err (unreadable w (expected_of p h))) (λ q k. reads q k ws end)) ≡ follow n None (λ q k. runs q k (map (λ (v : Found). v.token) ws))) [
      | None ↦ refl
      | Some s ↦ reads_runs s.0 s.1 ws end
    ]

pub read_runs : (text : List ℕ) → result_ok (read text) ≡ runs Line empty (tokens text)
read_runs text = reads_runs Line empty (scan 0 0 [] text) _

pub read_from_runs : (text : List ℕ) (ns : List ℤ) → runs Line empty (tokens text) ≡ Some ns → read text ≡ Ok ns
read_from_runs text ns e = is_ok (read text) ns (read_runs text ∙ e)
  where
    is_ok : (r : Result (List ℤ) Unreadable) (ns : List ℤ) → result_ok r ≡ Some ns → r ≡ Ok ns
    is_ok (Ok x) ns e = cc
    is_ok (Err u) ns e = cc

-- the scanner without places
abbrev pub flushed : List ℕ → List Token → List Token
flushed [] ts = ts
flushed (c ∷ cs) ts = token_of (c ∷ cs) ∷ ts

unfoldable pub toks : List ℕ → List ℕ → List Token
toks front [] = flushed front []
toks front (b ∷ bs) = by_kind (kind b) (flushed front (toks [] bs)) (flushed front (token_of (b ∷ []) ∷ toks [] bs)) (toks (front ++ b ∷ []) bs)

map_flush : (front : List ℕ) (line at : ℕ) (ws : List Found) (ts : List Token) → map (λ (w : Found). w.token) ws ≡ ts → map (λ (w : Found). w.token) (flush front line at ws) ≡ flushed front ts
map_flush [] line at ws ts e = e
map_flush (c ∷ cs) line at ws ts e = ap (λ (us : List Token). token_of (c ∷ cs) ∷ us) e

map_by_kind : (k : Kind) (a b c : List Found) (d e f : List Token) → map (λ (w : Found). w.token) a ≡ d → map (λ (w : Found). w.token) b ≡ e → map (λ (w : Found). w.token) c ≡ f → map (λ (w : Found). w.token) (by_kind k a b c) ≡ by_kind k d e f
map_by_kind Gap a b c d e f p q r = p
map_by_kind Mark a b c d e f p q r = q
map_by_kind Letter a b c d e f p q r = r

scan_toks : (at line : ℕ) (front bs : List ℕ) → map (λ (w : Found). w.token) (scan at line front bs) ≡ toks front bs
unfolding scan toks
scan_toks at line front [] = map_flush front line at [] [] refl
scan_toks at line front (b ∷ bs) =
    map_by_kind (kind b) _ _ _ _ _ _
    (map_flush front line at _ _ (scan_toks (at + 1) _ [] bs))
    (map_flush front line at _ _ (ap (λ (us : List Token). token_of (b ∷ []) ∷ us) (scan_toks (at + 1) line [] bs)))
    (scan_toks (at + 1) line (front ++ b ∷ []) bs)

pub tokens_toks : (text : List ℕ) → tokens text ≡ toks [] text
tokens_toks text = scan_toks 0 0 [] text
