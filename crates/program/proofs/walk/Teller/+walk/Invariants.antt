use Rattle.std.proofs.Common.{◌≡◌}
use Rattle.program.specs.Programs.{again}
use Rattle.program.specs.Sound.{meant}
use Rattle.program.specs.Walks.{Whole, went_in}
use Rattle.program.proofs.walk.Teller.+walk.Given as goal

abbrev pub decreases-walk : goal.decreases-walk
decreases-walk g l = l.n

abbrev pub invariant-loop : goal.invariant-loop
invariant-loop g l =
    record {
      same_room : l.self.room.ghost_name ≡ l.initial.self.room.ghost_name;
      walked : Whole g.T.Slot.slots g.T.Slot.width l.initial.self (again l.counter (went_in l.frame (meant l.program.nodes.now l.body)) l.initial.self.at) l.self;
    }
