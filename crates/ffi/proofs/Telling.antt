-- What an answer tells of the refusal.
use Rattle.std.proofs.Common.{◌≡◌, List, ℤ, Some, None, Option, refl}
use Rattle.refusal.specs.declared.Refusal.{Refusal}
use Rattle.program.specs.Answers.{answer}
use Rattle.program.specs.declared.entry.Said.TheVariants.{Refused}
use Rattle.program.specs.declared.target.Target.{Target}
use Rattle.work.specs.declared.machine.Machine.{Machine}
use Rattle.work.specs.declared.event.Event.{Event}
use Rattle.work.specs.Works.{happens}
use Rattle.pulses.specs.Motors.{pulses}
use Rattle.entry.specs.declared.done.Done.TheVariants.{Moved, Turned}
use Rattle.entry.specs.Entries.{targets_in, work_in, memory_of, DoneSays}

pub refused : (r : Option Refusal) (ts : List Target) (e : Refusal) → Refused e ≡ answer r ts → r ≡ Some e
refused None ts e h = cc
refused (Some f) ts e h = cc

module _ (m : Machine) (targets memory : List ℤ) (x : Event) (left : List ℤ) where
  pub moved : (r : Option Refusal) (a b : ℤ) → DoneSays r m targets memory x (Moved a b) left
      → (r ≡ None) × (a ≡ (pulses m (targets_in targets) x (work_in memory)).x) × (b ≡ (pulses m (targets_in targets) x (work_in memory)).y)
      × (left ≡ memory_of (happens m (targets_in targets) x (work_in memory)))
  moved None a b h = (refl, cc, cc, h.1)
  moved (Some f) a b h = cc

  pub turned : (r : Option Refusal) (e : Refusal) → DoneSays r m targets memory x (Turned e) left → (r ≡ Some e) × (left ≡ memory)
  turned None e h = cc
  turned (Some f) e h = (cc, h.1)
