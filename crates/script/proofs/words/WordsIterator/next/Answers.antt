use Rattle.std.proofs.Common.{arith, sym, ◌∙◌, rules}
use Rattle.std.proofs.lemmas.List.Sums.{prefix_len-le-length}
use Rattle.script.proofs.Scans.{some_word, no_word, blank}
use Rattle.script.proofs.words.WordsIterator.next.Goals as goal

pub split_at-requires : goal.split_at-requires
split_at-requires c = omega (arith, prefix_len-le-length)

pub split_at-requires-2 : goal.split_at-requires-2
split_at-requires-2 c = omega (arith, prefix_len-le-length)

pub returns-then-is_empty-clause-steps : goal.returns-then-is_empty-clause-steps
returns-then-is_empty-clause-steps c =
    let n = sym c.self.view_is ∙ blank c.self.inside.rest.now c.if-is_empty.ensures in
    (n, n)

pub returns-then-is_empty-2-clause-steps : goal.returns-then-is_empty-2-clause-steps
returns-then-is_empty-2-clause-steps c =
    let n = no_word c.self.inside.rest.now c.split_at.result.1.now c.split_at-2.result.1.now (cc) (cc) c.split_at-2.result.0.now (cc) (sym c.if-is_empty-2.ensures) in
    (sym c.self.view_is ∙ n.0, n.1)

pub returns-clause-steps : goal.returns-clause-steps
returns-clause-steps c =
    sym c.self.view_is
    ∙ some_word c.self.inside.rest.now c.split_at.result.1.now c.split_at-2.result.1.now (cc) (cc) c.split_at-2.result.0.now (cc) (sym c.if-is_empty-2.ensures)

pub returns-clause-goes : goal.returns-clause-goes
returns-clause-goes c =
    let n = sym c.self.view_is
    ∙ some_word c.self.inside.rest.now c.split_at.result.1.now c.split_at-2.result.1.now (cc) (cc) c.split_at-2.result.0.now (cc) (sym c.if-is_empty-2.ensures) in
    search rules
