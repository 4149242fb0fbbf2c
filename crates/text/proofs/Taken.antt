-- A word at a time: what is left to read after a word is taken, and where it can't be. Assumes nothing.
use Rattle.std.proofs.Common.{◌≡◌, ℕ, List, [], ◌∷◌, length, ℤ, Some, None, Ok, Err, Option, Result, ◌+◌, take, sym, subst, add-zero, arith}
use Rattle.std.proofs.Math.Nat.{sub-zero}
use Rattle.word.specs.Lines.{feeds}
use Rattle.std.proofs.lemmas.List.{take_all}
use Rattle.refusal.specs.declared.failed.Failed.{Failed}
use Rattle.refusal.specs.declared.failed.Failed.TheVariants.{Refused, Memory}
use Rattle.text.specs.declared.error.Expected.{Expected}
use Rattle.text.specs.declared.error.Misplaced.{Misplaced}
use Rattle.text.specs.declared.error.Unreadable.{Unreadable}
use Rattle.text.specs.declared.phase.Phase.{Phase}
use Rattle.text.specs.Words.{Found, found}
use Rattle.text.specs.Reading.{Held, step, at_end, expected_of, unreadable, reads, Next, Stepped, Finished, Answers, error_of, end_of}

-- the first of the words that are left is taken, or can't be
pub word_taken : (ws vs : List Found) (w end : Found) (p q : Phase) (h k : Held) → ws ≡ w ∷ vs → step w.token p h ≡ Some (q, k) → reads q k vs end ≡ reads p h ws end
unfolding reads
word_taken ws vs w end p q h k e s = rw (e, s)

pub word_refused : (ws vs : List Found) (w end : Found) (p : Phase) (h : Held) → ws ≡ w ∷ vs → step w.token p h ≡ None → reads p h ws end ≡ Err (unreadable w (expected_of p h))
unfolding reads
word_refused ws vs w end p h e s = rw (e, s)

-- no word is left
pub end_taken : (ws : List Found) (end : Found) (p : Phase) (h : Held) (ns : List ℤ) → ws ≡ [] → at_end p h ≡ Some ns → reads p h ws end ≡ Ok ns
unfolding reads
end_taken ws end p h ns e s = rw (e, s)

pub end_refused : (ws : List Found) (end : Found) (p : Phase) (h : Held) → ws ≡ [] → at_end p h ≡ None → reads p h ws end ≡ Err (unreadable end (expected_of p h))
unfolding reads
end_refused ws end p h e s = rw (e, s)

-- a fault at a word, and at the end
pub fault_told : (x : Result (List ℤ) Unreadable) (f : Failed Misplaced) (next : Next) (h k : Held) (u : Unreadable) (e : Failed Unreadable) → e ≡ error_of f u → Stepped next (Err f) h k → (next ≡ None → k ≡ h → x ≡ Err u) → Answers x (Err e)
fault_told x (Refused m) next h k u e is s g = subst (λ (r : Failed Unreadable). Answers x (Err r)) (sym is) (g s.0 s.1)
fault_told x Memory next h k u e is s g = subst (λ (r : Failed Unreadable). Answers x (Err r)) (sym is) tt

pub end_told : (x : Result (List ℤ) Unreadable) (f : Failed Misplaced) (end : Option (List ℤ)) (u : Unreadable) (e : Failed Unreadable) → e ≡ error_of f u → Finished end (Err f) → (end ≡ None → x ≡ Err u) → Answers x (Err e)
end_told x (Refused m) end u e is s g = subst (λ (r : Failed Unreadable). Answers x (Err r)) (sym is) (g s)
end_told x Memory end u e is s g = subst (λ (r : Failed Unreadable). Answers x (Err r)) (sym is) tt

-- the end of a text is found as a word without bytes would be
pub end_placed : (text : List ℕ) (e : Expected) → unreadable (found [] (feeds (take (length text) text)) (length text + 0)) e ≡ unreadable (end_of text) e
end_placed text e = rw (take_all (length text) text (omega arith), add-zero, sub-zero)
