use Rattle.std.proofs.Common.{◌≡◌, drop}
use Rattle.script.specs.Scripts.{first, far, beyond}
use Rattle.script.proofs.reader.check.Given as goal

abbrev pub invariant-loop-order : goal.invariant-loop-order
invariant-loop-order l = first far (drop l.order-index l.order-items) ≡ first far l.order-items

abbrev pub invariant-loop-order-2 : goal.invariant-loop-order-2
invariant-loop-order-2 l = first beyond (drop l.order-index l.order-items) ≡ first beyond l.order-items
