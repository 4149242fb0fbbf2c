-- That an event on lent numbers does what a loaded control does. Assumes nothing.
--   flat ts      the numbers that say targets, three each
--   Agrees       lent the targets and the memory of a loaded control's work, the entry takes them, answers the pulses that the
--                control gives, and leaves the memory of the control's work after the event
use Rattle.std.specs.Prelude.{◌≡◌, ℕ, ◌≤◌, true, List, [], ◌∷◌, length, ℤ, pos}
use Rattle.program.specs.declared.target.Target.{Target}
use Rattle.work.specs.declared.machine.Machine.{Machine}
use Rattle.work.specs.declared.work.Work.{Work}
use Rattle.work.specs.Works.{happens}
use Rattle.pulses.specs.Motors.{pulses}
use Rattle.control.specs.Controls.{fit, near, Reached}
use Rattle.entry.specs.declared.done.Done.{Done}
use Rattle.entry.specs.Entries.{event_of, refusal_of, memory_of, moved_by, DoneSays}

unfoldable pub flat : List Target → List ℤ
flat [] = []
flat (t ∷ ts) = t.to.x ∷ (t.to.y ∷ (pos t.fast ∷ flat ts))

abbrev pub Agrees : Type 0
Agrees =
    (m : Machine) (ts : List Target) (w : Work) (kind number : ℕ) (r : Done) (left : List ℤ) →
    fit m ≡ true → near ts ≡ true → Reached m ts w → length ts ≤ 2000000000 → kind ≤ 3 → number ≤ 1000 →
    DoneSays (refusal_of m.change m.top (flat ts) (memory_of w) kind number) m (flat ts) (memory_of w) (event_of kind number) r left →
    (r ≡ moved_by (pulses m ts (event_of kind number) w)) × (left ≡ memory_of (happens m ts (event_of kind number) w))
