use Rattle.std.proofs.Common.{◌≡◌, ◌+◌, ◌≤◌}
use Rattle.speed.specs.Speeds.{stopping}
use Rattle.speed.proofs.change.Change.stopping_distance_by_ticks.Given as goal

abbrev pub invariant-loop-rest : goal.invariant-loop-rest
invariant-loop-rest l = (l.rest ≤ l.speed) × (l.way + stopping l.self.steps l.rest ≡ stopping l.self.steps l.speed)

abbrev pub decreases-loop-rest : goal.decreases-loop-rest
decreases-loop-rest l = l.rest
