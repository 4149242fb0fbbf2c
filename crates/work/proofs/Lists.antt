-- The targets still to go, when one more is behind.
use Rattle.std.proofs.Common.{◌≡◌, ℕ, zero, suc, ◌<◌, ◌≤◌, List, [], ◌∷◌, length, drop, sym, ap, ◌∙◌, add-one, arith, length-drop}
use Rattle.std.proofs.lemmas.List.{drop-drop}
use Rattle.geometry.specs.declared.place.Place.{Place}
use Rattle.program.specs.declared.target.Target.{Target}
use Rattle.work.specs.Promises.{start_of}

pub next_todo : (ts : List Target) (b : ℕ) (t : Target) (us : List Target) → drop b ts ≡ t ∷ us → drop (suc b) ts ≡ us
next_todo ts b t us e = rw add-one at (sym (drop-drop 1 b ts) ∙ ap (drop 1) e)

pub some_left : (ts : List Target) (b : ℕ) (t : Target) (us : List Target) → drop b ts ≡ t ∷ us → b < length ts
some_left ts b t us e = omega (arith, length-drop b ts, ap length e)

pub none_left : (ts : List Target) (b : ℕ) → drop b ts ≡ [] → length ts ≤ b
none_left ts b e = omega (arith, length-drop b ts, ap length e)

pub next_start : (p : Place) (ts : List Target) (b : ℕ) (t : Target) (us : List Target) → drop b ts ≡ t ∷ us → start_of p ts (suc b) ≡ t.to
unfolding start_of
next_start p [] zero t us e = cc
next_start p [] (suc b) t us e = cc
next_start p (x ∷ ts) zero t us e = let f : x ≡ t = cc in ap (λ (y : Target). y.to) f
next_start p (x ∷ ts) (suc b) t us e = next_start x.to ts b t us e
