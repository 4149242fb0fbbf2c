-- What the contracts of refusals cite: the number and the place of each case. Assumes nothing.
--   number  the number of a case in the list of refusals, which is only ever added to
--   place   where the fault is, or how many there were, counted from 0
use Rattle.std.specs.Prelude.{ℕ}
use Rattle.refusal.specs.declared.Refusal.{Refusal}
use Rattle.refusal.specs.declared.Refusal.TheVariants.{Shape, Number, Node, Room, Reach, Machine, Lent, Event, Text}
use Rattle.refusal.specs.declared.MachinePart.TheVariants.{Change, Top}
use Rattle.refusal.specs.declared.LentPart.TheVariants.{Targets, Place, Memory}
use Rattle.refusal.specs.declared.EventPart.TheVariants.{Kind, Number as Value}

abbrev pub number : Refusal → ℕ
number (Shape n) = 1
number (Number n) = 2
number (Node n) = 3
number (Room n) = 4
number (Reach n) = 5
number (Machine n) = 6
number (Lent n) = 7
number (Event n) = 8
number (Text n) = 9

abbrev pub place : Refusal → ℕ
place (Shape n) = n
place (Number n) = n
place (Node n) = n
place (Room n) = n
place (Reach n) = n
place (Machine Change) = 0
place (Machine Top) = 1
place (Lent Targets) = 0
place (Lent Place) = 1
place (Lent Memory) = 2
place (Event Kind) = 0
place (Event Value) = 1
place (Text n) = n
