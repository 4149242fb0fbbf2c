-- What the reader's loop over numbered lines keeps, and what a line that can't be read makes of the script.
use Rattle.std.proofs.Common.{◌≡◌, ℕ, ◌+◌, ◌<◌, List, [], ◌∷◌, length, drop, Some, None, Err, Option, Result, sym, ap, ◌∙◌, arith, rules}
use Rattle.std.specs.declared.iter.Enumerate.{Enumerate}
use Rattle.std.specs.Iterator.{Yields, YieldsFirstRef}
use Rattle.std.specs.Iterator.Adapters.{enumerate_source, enumerate_count, enumerate_steps}
use Rattle.std.specs.List.{enumerate_from}
use Rattle.std.proofs.lemmas.Iterator.{YieldsList}
use Rattle.std.proofs.lemmas.Iterator.Consumers.{YieldsList-at, YieldsList-from_first, YieldsList-from_enumerate, YieldsList-turn, YieldsList-end}
use Rattle.std.proofs.lemmas.List.{drop_more, drop_all}
use Rattle.std.proofs.lemmas.List.FromFn.{length-enumerate_from, get_or-enumerate_from}
use denote.Ref.{Bor}
use Rattle.script.specs.Words.{lines}
use Rattle.script.specs.Scripts.{Told, Unread, says_machine}
use Rattle.script.specs.Refusals.{goes_on, has_machine, Stops, Reading, Behind}
use Rattle.refusal.specs.declared.failed.Failed.{Failed}
use Rattle.refusal.specs.declared.failed.Failed.TheVariants.{Refused, Memory}
use Rattle.script.specs.declared.fault.ScriptError.{ScriptError}
use Rattle.script.specs.declared.fault.ScriptError.TheVariants.{Text, Number}
use Rattle.script.specs.declared.script.Script.{Script}

-- what a line that can't be read makes of the script
pub refused : (f : Failed ScriptError) (e n : ℕ) (s : Option Script) (l : List ℕ) (ls : List (List ℕ)) (r : Result Told Unread) → goes_on e n s (l ∷ ls) ≡ r → Stops n s l f → Reading r (Err f)
refused (Refused (Text line wrong)) e n s l ls r g h = sym g ∙ h e ls
refused (Refused (Number fault)) e n s l ls r g h = absurd h
refused Memory e n s l ls r g h = tt

-- and that it tells want of memory only behind a machine
pub behind : (f : Failed ScriptError) (n : ℕ) (s : Option Script) (l : List ℕ) (ls ms : List (List ℕ)) → has_machine s ls ≡ says_machine ms → Stops n s l f → Behind ms (Err f)
behind (Refused e) n s l ls ms g h = tt
behind Memory n None l ls ms g h = absurd (search (h, rules))
behind Memory n (Some s) l ls ms g h = sym g

-- the lines with their numbers, by what `enumerate` says
pub numbered : {from : List (List ℕ)} {counted it : Enumerate (List (List ℕ))} (bs : List ℕ) → from ≡ lines bs → enumerate_source counted ≡ from → enumerate_count counted ≡ 0 → it ≡ counted
    → YieldsList (enumerate_steps (YieldsFirstRef (λ (s : List (List ℕ)). s))) (λ p. (p.0, p.1.now)) it (enumerate_from 0 (lines bs))
numbered bs from source count same = YieldsList-at same (YieldsList-from_enumerate (YieldsList-at source (YieldsList-from_first (λ (b : Bor (List ℕ)). b.now) (λ (s : List (List ℕ)). s) (lines bs) from)) count)

-- one turn of a loop over numbered lines, and its end
module _ {S : Type 0} {steps : S → Option (ℕ × Bor (List ℕ)) → S → Type 0} {s : S} (xs : List (ℕ × Bor (List ℕ))) {t : S} (so_far : Yields steps s xs t)
    (ps : List (List ℕ)) (road : YieldsList steps (λ p. (p.0, p.1.now)) s (enumerate_from 0 ps)) (r : Option (ℕ × Bor (List ℕ))) (u : S) where
  pub turn : (x : ℕ × Bor (List ℕ)) → r ≡ Some x → steps t r u → (x.0 ≡ length xs) × (drop (length xs) ps ≡ x.1.now ∷ drop (length xs + 1) ps)
  turn x e h =
      let a = YieldsList-turn road xs t so_far r u x e h in
      let n : length xs < length ps = omega (arith, a.0, length-enumerate_from 0 ps) in
      let b = a.1 ∙ get_or-enumerate_from 0 ps (length xs) (x.0, x.1.now) n in
      (ap (λ (p : ℕ × List ℕ). p.0) b ∙ omega arith, drop_more ps (length xs) x.1.now n ∙ ap (λ (p : ℕ × List ℕ). p.1 ∷ drop (length xs + 1) ps) (sym b))

  pub over : r ≡ None → steps t r u → drop (length xs) ps ≡ []
  over e h =
      let a = YieldsList-end road xs t so_far r u e h in
      drop_all (length xs) ps (omega (arith, a.1, length-enumerate_from 0 ps))
