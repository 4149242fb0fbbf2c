use Rattle.std.proofs.Common.{◌≡◌, ◌+◌, ◌/◌}
use Rattle.circle.proofs.Roots.{Guess}
use Rattle.circle.proofs.root.root.Given as goal

abbrev pub invariant-loop-y : goal.invariant-loop-y
invariant-loop-y l = Guess l.n l.x × (l.y ≡ (l.x + l.n / l.x) / 2)

abbrev pub decreases-loop-y : goal.decreases-loop-y
decreases-loop-y l = l.x
