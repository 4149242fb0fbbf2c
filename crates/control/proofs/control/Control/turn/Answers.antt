use Rattle.control.proofs.States.{loaded_still, happened, turned}
use Rattle.control.proofs.control.Control.turn.Goals as goal

pub invariant_of-self : goal.invariant_of-self
invariant_of-self c =
    let k = c.self.invariant in
    loaded_still k c.args.event c.happen-self-inside.result c.requires (turned k c.args.event c.happen-self-inside.result c.requires c.happen-self-inside.ensures)

pub returns : goal.returns
returns c =
    let k = c.self.invariant in
    rw (← c.self.view_is) (happened k c.args.event c.happen-self-inside.result (turned k c.args.event c.happen-self-inside.result c.requires c.happen-self-inside.ensures))
