use Rattle.std.proofs.Common.{None, Some, sym, ◌∙◌, arith}
use Rattle.std.proofs.lemmas.Grind.{common_steps}
use Rattle.script.specs.Scripts.{far, beyond}
use Rattle.script.proofs.Firsts.{first_drop, first_end}
use Rattle.script.proofs.reader.check.Goals as goal

pub loop-order-preserved : goal.loop-order-preserved
loop-order-preserved c = sym (first_drop far _ c.loop-order.order-index _ None (omega arith) c.in_ok-near.ensures) ∙ c.loop-order.invariant

pub loop-order-2-preserved : goal.loop-order-2-preserved
loop-order-2-preserved c = sym (first_drop beyond _ c.loop-order-2.order-index _ None (omega arith) c.in_ok-on_scale.ensures) ∙ c.loop-order-2.invariant

pub returns-in_err-near : goal.returns-in_err-near
returns-in_err-near c =
    let e = sym c.loop-order.invariant ∙ first_drop far _ c.loop-order.order-index _ (Some _) (omega arith) c.in_err-near.ensures in
    grind (arith, common_steps)

pub returns-in_err-on_scale : goal.returns-in_err-on_scale
returns-in_err-on_scale c =
    let n = sym c.loop-order.invariant ∙ first_end far _ c.loop-order.order-index (omega arith) in
    let e = sym c.loop-order-2.invariant ∙ first_drop beyond _ c.loop-order-2.order-index _ (Some _) (omega arith) c.in_err-on_scale.ensures in
    grind (arith, common_steps)
