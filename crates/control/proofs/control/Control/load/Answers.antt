use Rattle.std.proofs.Common.{sym, ap, ◌∙◌, arith}
use Rattle.control.specs.Controls.{near}
use Rattle.control.proofs.States.{loaded_first, seen}
use Rattle.control.proofs.control.Control.load.Goals as goal

pub invariant_of-result : goal.invariant_of-result
invariant_of-result c =
    loaded_first c.args.change c.args.top c.in_ok-machine.machine c.in_ok-machine.ensures _ (ap near (sym c.deref.ensures.value) ∙ sym c.if-not-all_near.ensures) (omega (arith, c.args.targets.ok.0, c.args.targets.small)) _ c.begin.ensures

pub returns-clause-loaded : goal.returns-clause-loaded
returns-clause-loaded c = seen (invariant_of-result c)
