-- Adding up pulses tick by tick.
use Rattle.std.proofs.Common.{◌≡◌, ℕ, suc}
use Rattle.geometry.specs.declared.place.Place.{Place}
use Rattle.work.specs.declared.event.Event.TheVariants.{Tick}
use Rattle.work.specs.Works.{place}
use Rattle.work.proofs.Arrival.{tick_first}
use Rattle.pulses.specs.declared.Pulses.{Pulses}
use Rattle.pulses.specs.Motors.{onto, pulses}
use Rattle.pulses.proofs.Follows.{onto_between}
use Rattle.control.specs.Controls.{State, Happened}
use Rattle.ffi_run.specs.Runs.{end_from}

module _ {c d : State} (h : Happened c Tick d) where
  -- a tick's pulses bring a control from where it is to where the tick leads
  pub lands : (p : Place) (g : Pulses) → p ≡ place c.targets c.work.motion → g ≡ pulses c.machine c.targets Tick c.work → onto p g ≡ place d.targets d.work.motion
  lands p g e f = rw (f, e, h.targets, h.work) (onto_between (place c.targets c.work.motion) _)

  -- one tick, and n more from where it leads
  pub onward : (n : ℕ) → end_from d n ≡ end_from c (suc n)
  onward n = rw (h.machine, h.targets, h.work, tick_first c.machine c.targets n c.work)
