use Rattle.std.proofs.Common.{arith}
use Rattle.std.proofs.lemmas.Int.{ints}
use Rattle.line.proofs.Walk.{long_x, long_y, long_within}
use Rattle.line.proofs.line.Line.place.Goals as goal

pub invariant_of-portion : goal.invariant_of-portion
invariant_of-portion c = record {
  few = c.requires.steps;
  short = omega (arith, long_within _ _ _ c.requires.from c.requires.to);
}

pub along-requires-clause-way : goal.along-requires-clause-way
along-requires-clause-way c = omega (arith, ints, long_x c.args.self.from c.args.self.to)

pub along-requires-2-clause-way : goal.along-requires-2-clause-way
along-requires-2-clause-way c = omega (arith, ints, long_y c.args.self.from c.args.self.to)
