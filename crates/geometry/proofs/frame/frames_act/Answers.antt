use Rattle.geometry.proofs.Acts.{frames_act}
use Rattle.geometry.proofs.frame.frames_act.Goals as goal

pub returns : goal.returns
returns c = frames_act
