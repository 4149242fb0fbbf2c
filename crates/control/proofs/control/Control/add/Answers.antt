use Rattle.std.proofs.Common.{sym, refl, arith}
use Rattle.control.proofs.States.{pushed, promised, seen}
use Rattle.control.proofs.control.Control.add.Goals as goal

pub invariant_of-self-2 : goal.invariant_of-self-2
invariant_of-self-2 c =
    pushed c.self.invariant c.args.target _ _ (sym c.if-not-near.ensures) c.push.ensures.items (omega (arith, c.push.new.self.ok.0, c.push.new.self.small))

pub returns-then-not-near-clause-loaded : goal.returns-then-not-near-clause-loaded
returns-then-not-near-clause-loaded c = seen c.self.invariant

pub returns : goal.returns
returns c =
    let n = sym c.if-not-near.ensures in
    let k = pushed c.self.invariant c.args.target _ _ n c.push.ensures.items (omega (arith, c.push.new.self.ok.0, c.push.new.self.small)) in
    record { added = rw (← c.self.view_is) (n, refl, c.in_ok-push.ensures.items, refl, promised k); loaded = seen k }
