use Rattle.control.proofs.States.{near_at}
use Rattle.control.proofs.control.Control.place.Goals as goal

pub returns-clause-near : goal.returns-clause-near
returns-clause-near c = near_at c.self.invariant
