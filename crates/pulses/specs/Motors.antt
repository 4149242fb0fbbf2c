-- What the contracts of pulses cite. Assumes nothing.
--   between p q       the pulses that bring each axis from p to q
--   onto p d          where a motor at p is after the pulses d
--   given m ts p es   the pulses of each event of a row, the latest first
--   motor p ds        where a motor that began at p is after all of them
--   MotorLaws        the motor's place is where it began plus the sum of its pulses, and that is the place of the work;
--                     only ticks give pulses, and no axis gets more in a tick than the cap or the speed it had
use Rattle.std.specs.Prelude.{◌≡◌, ◌≤◌, max, List, [], ◌∷◌, pos, ◌+ℤ◌, ◌-ℤ◌, ◌≢◌, unsigned_abs}
use Rattle.geometry.specs.declared.place.Place.{Place}
use Rattle.program.specs.declared.target.Target.{Target}
use Rattle.work.specs.declared.machine.Machine.{Machine}
use Rattle.work.specs.declared.work.Work.{Work}
use Rattle.work.specs.declared.event.Event.{Event}
use Rattle.work.specs.declared.event.Event.TheVariants.{Tick}
use Rattle.work.specs.Works.{todo, happens, after, place}
use Rattle.work.specs.Promises.{Fit, cap_now}
use Rattle.pulses.specs.declared.Pulses.{Pulses}

abbrev pub between : Place → Place → Pulses
between p q = record { x = q.x -ℤ p.x; y = q.y -ℤ p.y }

abbrev pub onto : Place → Pulses → Place
onto p d = record { x = p.x +ℤ d.x; y = p.y +ℤ d.y }

abbrev pub pulses : Machine → List Target → Event → Work → Pulses
pulses m ts e w = between (place ts w.motion) (place ts (happens m ts e w).motion)

unfoldable pub given : Machine → List Target → Place → List Event → List Pulses
given m ts p [] = []
given m ts p (e ∷ es) = pulses m ts e (after m ts p es) ∷ given m ts p es

unfoldable pub motor : Place → List Pulses → Place
motor p [] = p
motor p (d ∷ ds) = onto (motor p ds) d

pub record MotorLaws : Type 0 where
  pub follows : (m : Machine) (ts : List Target) (p : Place) (es : List Event) → motor p (given m ts p es) ≡ place ts (after m ts p es).motion
  pub idle : (m : Machine) (ts : List Target) (w : Work) (e : Event) → (e ≢ Tick) → pulses m ts e w ≡ record { x = pos 0; y = pos 0 }
  pub few_x :
      (m : Machine) (ts : List Target) (p : Place) (es : List Event) → Fit m →
      unsigned_abs (pulses m ts Tick (after m ts p es)).x ≤ max (cap_now m (after m ts p es).panel (todo ts (after m ts p es).motion)) (after m ts p es).motion.speed
  pub few_y :
      (m : Machine) (ts : List Target) (p : Place) (es : List Event) → Fit m →
      unsigned_abs (pulses m ts Tick (after m ts p es)).y ≤ max (cap_now m (after m ts p es).panel (todo ts (after m ts p es).motion)) (after m ts p es).motion.speed
