use Rattle.std.proofs.Common.{arith}
use Rattle.std.proofs.lemmas.Int.{ints}
use Rattle.geometry.proofs.Acts.{same_place}
use Rattle.ffi_run.proofs.onto.Goals as goal

pub returns : goal.returns
returns c = same_place (omega (arith, ints)) (omega (arith, ints))
