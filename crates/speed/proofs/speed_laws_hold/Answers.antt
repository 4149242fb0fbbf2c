use Rattle.speed.proofs.Stopping.{slow, slows}
use Rattle.speed.proofs.Fastest.{next}
use Rattle.speed.proofs.Race.{fewest}
use Rattle.speed.proofs.speed_laws_hold.Goals as goal

pub returns : goal.returns
returns c = record { next = next; slows = slows; slow = slow; fewest = fewest }
