use Rattle.program.proofs.Holding.{frames_hold}
use Rattle.program.proofs.laws.frames_hold.Goals as goal

pub returns : goal.returns
returns c = frames_hold
