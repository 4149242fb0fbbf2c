-- The motor's place is the work's: the pulses of a row add up.
use Rattle.std.proofs.Common.{◌≡◌, List, [], ◌∷◌, pos, sym, refl, ap, ◌∙◌, arith}
use Rattle.std.proofs.lemmas.Int.{ints}
use Rattle.geometry.specs.declared.place.Place.{Place}
use Rattle.program.specs.declared.target.Target.{Target}
use Rattle.geometry.proofs.Acts.{same_place}
use Rattle.work.specs.declared.machine.Machine.{Machine}
use Rattle.work.specs.declared.work.Work.{Work}
use Rattle.work.specs.declared.event.Event.{Event}
use Rattle.work.specs.declared.event.Event.TheVariants.{Tick, Hold, Go, Knob}
use Rattle.work.specs.Works.{row, begun, after, place}
use Rattle.work.proofs.Promise.{promised}
use Rattle.work.proofs.Ticks.{begins}
use Rattle.pulses.specs.declared.Pulses.{Pulses}
use Rattle.pulses.specs.Motors.{between, onto, pulses, given, motor, MotorLaws}

pub same_pulses : {a b : Pulses} → a.x ≡ b.x → a.y ≡ b.y → a ≡ b
same_pulses e f = λ i. record { x = e i; y = f i }

pub onto_between : (p q : Place) → onto p (between p q) ≡ q
onto_between p q = same_place (omega (arith, ints)) (omega (arith, ints))

pub still : (p : Place) → between p p ≡ record { x = pos 0; y = pos 0 }
still p = same_pulses (omega (arith, ints)) (omega (arith, ints))

follows : (m : Machine) (ts : List Target) (p : Place) (es : List Event) → motor p (given m ts p es) ≡ place ts (after m ts p es).motion
unfolding motor given row
follows m ts p [] = sym (begins (begun p).motion ts refl)
follows m ts p (e ∷ es) = ap (λ (q : Place). onto q (pulses m ts e (after m ts p es))) (follows m ts p es) ∙ onto_between _ _

idle : (m : Machine) (ts : List Target) (w : Work) (e : Event) → (e ≡ Tick → ⊥) → pulses m ts e w ≡ record { x = pos 0; y = pos 0 }
idle m ts w Tick h = absurd (h refl)
idle m ts w Hold h = still (place ts w.motion)
idle m ts w Go h = still (place ts w.motion)
idle m ts w (Knob n) h = still (place ts w.motion)

pub motor_laws : MotorLaws
motor_laws = record {
  follows = follows;
  idle = idle;
  few_x = λ m ts p es f. let t = (promised m p ts es f).ticked in omega (arith, t.across, t.few);
  few_y = λ m ts p es f. let t = (promised m p ts es f).ticked in omega (arith, t.along, t.few);
}
