use Rattle.std.proofs.Common.{◌≡◌, ◌+◌, ◌-◌, ◌<◌, ◌≤◌, max}
use Rattle.speed.specs.Speeds.{stopping, fastest}
use Rattle.speed.proofs.change.Change.fastest_between.Given as goal

abbrev pub invariant-loop-above : goal.invariant-loop-above
invariant-loop-above l = record {
  some : l.below < l.above;
  within : l.above ≤ l.high;
  past : l.left < l.above + stopping l.self.steps l.above;
  same : max l.below (fastest l.self.steps l.left l.above) ≡ max l.low (fastest l.self.steps l.left l.high);
}

abbrev pub decreases-loop-above : goal.decreases-loop-above
decreases-loop-above l = l.above - l.below
