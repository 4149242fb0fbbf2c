use Rattle.std.proofs.Common.{sym, ◌∙◌, arith}
use Rattle.std.proofs.lemmas.Int.{ints}
use Rattle.geometry.proofs.Acts.{same_place}
use Rattle.circle.specs.Circles.{turns}
use Rattle.circle.proofs.Round.{turns_rest}
use Rattle.circle.proofs.circle.turned.Goals as goal

pub returns-in-0-clause-value : goal.returns-in-0-clause-value
unfolding turns
returns-in-0-clause-value c = sym (turns_rest c.args.n 0 c.args.p c.in-0.is)

pub returns-in-1-clause-value : goal.returns-in-1-clause-value
unfolding turns
returns-in-1-clause-value c =
    same_place (omega (arith, ints)) (omega (arith, ints)) ∙ sym (turns_rest c.args.n 1 c.args.p c.in-1.is)

pub returns-in-2-clause-value : goal.returns-in-2-clause-value
unfolding turns
returns-in-2-clause-value c =
    same_place (omega (arith, ints)) (omega (arith, ints)) ∙ sym (turns_rest c.args.n 2 c.args.p c.in-2.is)

pub returns-in_default-clause-value : goal.returns-in_default-clause-value
unfolding turns
returns-in_default-clause-value c =
    same_place (omega (arith, ints)) (omega (arith, ints)) ∙ sym (turns_rest c.args.n 3 c.args.p (omega arith))
