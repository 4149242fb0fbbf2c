use Rattle.std.proofs.Common.{arith}
use Rattle.std.proofs.lemmas.Int.{ints}
use Rattle.pulses.proofs.Follows.{same_pulses}
use Rattle.pulses.proofs.Pulses.between.Goals as goal

pub returns : goal.returns
returns c = same_pulses (omega (arith, ints)) (omega (arith, ints))
