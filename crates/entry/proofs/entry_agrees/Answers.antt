use Rattle.entry.proofs.Agreement.{agrees}
use Rattle.entry.proofs.entry_agrees.Goals as goal

pub returns : goal.returns
returns c = agrees
