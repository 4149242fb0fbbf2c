use Rattle.std.proofs.Common.{not, ◌∙◌, rules, tests}
use Rattle.std.proofs.lemmas.Iterator.{YieldsList-from_slice}
use Rattle.std.proofs.lemmas.Iterator.Adapters.{position_from-zero}
use Rattle.std.proofs.lemmas.Iterator.Search.{position_from_yields_List}
use Rattle.program.proofs.Checking.{first_is}
use Rattle.program.specs.Answers.{small}
use Rattle.program.proofs.program.first_large.Goals as goal

pub returns : goal.returns
returns c =
    let xs = c.args.nodes.now in
    position_from_yields_List (λ z. not (small z)) _ _ _ c.position.ensures.ran (YieldsList-from_slice xs cc) (λ x b q k. search (rules, tests))
    ∙ position_from-zero (λ z. not (small z)) xs ∙ first_is small 0 xs
