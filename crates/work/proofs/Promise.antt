-- The promise, of every state that a row of events leads to.
use Rattle.std.proofs.Common.{◌≡◌, ◌≤◌, List, refl}
use Rattle.geometry.specs.declared.place.Place.{Place}
use Rattle.program.specs.declared.target.Target.{Target}
use Rattle.work.specs.declared.machine.Machine.{Machine}
use Rattle.work.specs.declared.work.Work.{Work}
use Rattle.work.specs.declared.event.Event.{Event}
use Rattle.work.specs.declared.event.Event.TheVariants.{Tick, Hold, Go, Knob}
use Rattle.work.specs.Works.{happens, after}
use Rattle.work.specs.Promises.{Promise, Promised}
use Rattle.work.proofs.Ticks.{ticked}
use Rattle.work.proofs.Safety.{Safe, safe_after, on_path}
use Rattle.work.proofs.Rest.{stands_held}
use Rattle.work.proofs.Arrival.{arrives}
use Rattle.work.proofs.Fewest.{fewest, fewest_of_all}

pub kept : (m : Machine) (ts : List Target) (w : Work) (e : Event) → (e ≡ Tick → ⊥) → (happens m ts e w).motion ≡ w.motion
kept m ts w Tick h = absurd (h refl)
kept m ts w Hold h = refl
kept m ts w Go h = refl
kept m ts w (Knob n) h = refl

pub of_safe : (m : Machine) (p : Place) (ts : List Target) (w : Work) → 1 ≤ m.change → Safe m p ts w.motion → Promise m p ts w
of_safe m p ts w fit s = record {
  on_path = on_path m p ts fit w.motion s;
  can_stop = s.stop;
  ticked = ticked m w.panel ts w.motion fit s.stop;
  kept = kept m ts w;
  stands = stands_held m p ts fit w s;
  arrives = λ n. arrives m p ts fit n w s;
  fewest = fewest m p ts fit w s;
  fewest_of_all = fewest_of_all m p ts fit w s;
}

pub promised : Promised
promised m p ts es f = of_safe m p ts (after m ts p es) f.changes (safe_after m p ts f.changes es)
