use Rattle.std.proofs.Common.{◌≡◌, true, false, sym, ◌∙◌, refl}
use Rattle.program.proofs.Walking.{whole_one}
use Rattle.program.specs.Answers.{first_in, reached}
use Rattle.program.proofs.walk.Teller.put.Goals as goal

pub returns-then-not-is_within-clause-walked : goal.returns-then-not-is_within-clause-walked
unfolding first_in
returns-then-not-is_within-clause-walked g c =
    let e : reached c.args.target ≡ false = sym c.is_within.ensures ∙ c.if-not-is_within.true in rw e

pub returns-clause-walked : goal.returns-clause-walked
returns-clause-walked g c =
    let e : reached c.args.target ≡ true = sym c.is_within.ensures ∙ c.if-not-is_within.false in
    whole_one g.T.Slot.slots g.T.Slot.width c.args.self.now c.args.target _ e refl refl c.store.ensures
