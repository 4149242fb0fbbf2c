use Rattle.std.proofs.Common.{arith, sym}
use Rattle.program.proofs.Checking.{sound_from}
use Rattle.program.proofs.program.Program.checked.Goals as goal

pub invariant_of-program : goal.invariant_of-program
invariant_of-program c = record {
  sound = sound_from c.args.nodes.now (omega arith) (omega arith) (omega arith) (sym c.in_default.ensures) c.in_ok-counts.ensures.0;
  counted = c.in_ok-counts.ensures.1;
}
