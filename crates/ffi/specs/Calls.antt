-- What the contracts of the functions for C cite. Assumes nothing.
--   code_of r             what a call returns: 0, or the number of its refusal
--   said_place r n        what a program's answer leaves at the place: how many targets, or the refusal's place
--   place_after r old     what else is left there: the refusal's place; it stays where there is none
--   moved_after r x y old the pulses x and y, which stay as they were where there is a refusal
--   pulses_of, work_after what an event on lent numbers gives, and what it makes of the work in memory
--   memory_after r w old  the memory of the work, which stays as it was where there is a refusal
use Rattle.std.specs.Prelude.{ℕ, List, [], ◌∷◌, ℤ, Some, None, Option}
use Rattle.refusal.specs.declared.Refusal.{Refusal}
use Rattle.refusal.specs.Refusals.{number, place}
use Rattle.work.specs.declared.work.Work.{Work}
use Rattle.work.specs.Works.{happens}
use Rattle.pulses.specs.declared.Pulses.{Pulses}
use Rattle.pulses.specs.Motors.{pulses}
use Rattle.entry.specs.Entries.{targets_in, work_in, memory_of, event_of}

abbrev pub code_of : Option Refusal → ℕ
code_of None = 0
code_of (Some e) = number e

abbrev pub said_place : Option Refusal → ℕ → List ℕ
said_place None n = n ∷ []
said_place (Some e) n = place e ∷ []

abbrev pub place_after : Option Refusal → List ℕ → List ℕ
place_after None old = old
place_after (Some e) old = place e ∷ []

abbrev pub moved_after : Option Refusal → (x y : ℤ) → List ℤ → List ℤ
moved_after None x y old = x ∷ (y ∷ [])
moved_after (Some e) x y old = old

abbrev pub pulses_of : (a t : ℕ) → (targets memory : List ℤ) → (kind number : ℕ) → Pulses
pulses_of a t targets memory kind number = pulses (record { change = a; top = t }) (targets_in targets) (event_of kind number) (work_in memory)

abbrev pub work_after : (a t : ℕ) → (targets memory : List ℤ) → (kind number : ℕ) → Work
work_after a t targets memory kind number = happens (record { change = a; top = t }) (targets_in targets) (event_of kind number) (work_in memory)

abbrev pub memory_after : Option Refusal → Work → List ℤ → List ℤ
memory_after None w old = memory_of w
memory_after (Some e) w old = old
