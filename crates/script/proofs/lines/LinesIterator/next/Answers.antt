use Rattle.std.proofs.Common.{◌≡◌, ◌∷◌, arith, sym, ◌∙◌, rules}
use Rattle.script.specs.Words.{lines}
use Rattle.script.proofs.Scans.{feed_some, feed_cut, one_line, no_line}
use Rattle.script.proofs.lines.LinesIterator.next.Goals as goal

pub split_at-requires : goal.split_at-requires
split_at-requires c = omega (arith, feed_some c.self.inside.rest.now c.in-Some.end (sym c.in-Some.is ∙ c.first_feed.ensures))

pub split_at-requires-in-Some : goal.split_at-requires-in-Some
split_at-requires-in-Some c = omega (arith, feed_some c.self.inside.rest.now c.in-Some.end (sym c.in-Some.is ∙ c.first_feed.ensures))

pub returns-in-Some-clause-steps : goal.returns-in-Some-clause-steps
returns-in-Some-clause-steps c =
    sym c.self.view_is
    ∙ rw c.split_at-in-Some.ensures.back (feed_cut c.self.inside.rest.now c.split_at.result.0.now c.split_at.result.1.now c.in-Some.end c.split_at.ensures.front c.split_at.ensures.back (sym c.in-Some.is ∙ c.first_feed.ensures))

pub returns-in-Some-clause-goes : goal.returns-in-Some-clause-goes
returns-in-Some-clause-goes c =
    let n : c.args.self.now ≡ c.split_at.result.0.now ∷ lines c.split_at-in-Some.result.1.now = sym c.self.view_is
    ∙ rw c.split_at-in-Some.ensures.back (feed_cut c.self.inside.rest.now c.split_at.result.0.now c.split_at.result.1.now c.in-Some.end c.split_at.ensures.front c.split_at.ensures.back (sym c.in-Some.is ∙ c.first_feed.ensures)) in
    search rules

pub returns-in-None-clause-steps : goal.returns-in-None-clause-steps
returns-in-None-clause-steps c =
    let n = sym c.self.view_is ∙ no_line c.self.inside.rest.now (c.if-is_empty.ensures) in
    (n, n)

pub returns-in-None-2-clause-steps : goal.returns-in-None-2-clause-steps
returns-in-None-2-clause-steps c = sym c.self.view_is ∙ one_line c.self.inside.rest.now (sym c.in-None-2.is ∙ c.first_feed.ensures) c.if-is_empty.ensures

pub returns-in-None-2-clause-goes : goal.returns-in-None-2-clause-goes
returns-in-None-2-clause-goes c =
    let n = sym c.self.view_is ∙ one_line c.self.inside.rest.now (sym c.in-None-2.is ∙ c.first_feed.ensures) c.if-is_empty.ensures in
    search rules
