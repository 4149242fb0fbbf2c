use Rattle.std.proofs.Common.{◌≡◌, ◌-◌}
use Rattle.program.specs.Answers.{first_failing, well_named}
use Rattle.program.specs.Nodes.{nodes}
use Rattle.program.specs.Sound.{Counts}
use Rattle.program.proofs.counts.count_all.Given as goal

abbrev pub invariant-loop-n : goal.invariant-loop-n
invariant-loop-n l =
    record {
      counted : Counts l.nodes l.counts l.n;
      left : first_failing (well_named l.nodes) l.n (nodes l.nodes - l.n) ≡ first_failing (well_named l.nodes) 0 (nodes l.nodes);
    }
