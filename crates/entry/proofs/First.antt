-- An event, and where it is, see no more than the first of the targets still to go.
use Rattle.std.proofs.Common.{◌≡◌, ℕ, zero, suc, List, [], ◌∷◌, drop, Option, slice_get, refl, ap, ◌∙◌}
use Rattle.std.specs.Option.{option_to_list}
use Rattle.geometry.specs.declared.place.Place.{Place}
use Rattle.program.specs.declared.target.Target.{Target}
use Rattle.work.specs.declared.machine.Machine.{Machine}
use Rattle.work.specs.declared.motion.Motion.{Motion}
use Rattle.work.specs.declared.work.Work.{Work}
use Rattle.work.specs.declared.event.Event.{Event}
use Rattle.work.specs.declared.event.Event.TheVariants.{Tick, Hold, Go, Knob}
use Rattle.work.specs.Works.{todo, toward, does, happens, stands, place}

abbrev pub first : List Target → Option Target
first xs = slice_get xs 0

pub next_first : (ts : List Target) (b : ℕ) → slice_get ts b ≡ first (drop b ts)
next_first [] zero = refl
next_first [] (suc b) = refl
next_first (t ∷ ts) zero = refl
next_first (t ∷ ts) (suc b) = next_first ts b

does_first : (m : Machine) (xs : List Target) (e : Event) (w : Work) → does m (option_to_list (first xs)) e w ≡ does m xs e w
unfolding toward
does_first m [] Tick w = refl
does_first m (t ∷ us) Tick w = refl
does_first m xs Hold w = refl
does_first m xs Go w = refl
does_first m xs (Knob n) w = refl

stands_first : (w : Motion) (xs : List Target) → stands w (option_to_list (first xs)) ≡ stands w xs
unfolding stands
stands_first w [] = refl
stands_first w (t ∷ us) = refl

pub stands_next : (ts : List Target) (w : Motion) (next : Option Target) (p : Place) → next ≡ slice_get ts w.behind → p ≡ stands w (option_to_list next) → p ≡ place ts w
stands_next ts w next p e h = h ∙ ap (λ (n : Option Target). stands w (option_to_list n)) (e ∙ next_first ts w.behind) ∙ stands_first w (todo ts w)

pub happens_next :
    (m : Machine) (ts : List Target) (e : Event) (w v : Work) (next : Option Target) → next ≡ slice_get ts w.motion.behind →
    v ≡ does m (option_to_list next) e w → v ≡ happens m ts e w
happens_next m ts e w v next i h = h ∙ ap (λ (n : Option Target). does m (option_to_list n) e w) (i ∙ next_first ts w.motion.behind) ∙ does_first m (todo ts w.motion) e w
