use Rattle.std.proofs.Common.{◌≡◌, inl, refl, [], ◌+◌, length, drop, Err, sym, ◌∙◌, rules, arith}
use Rattle.std.proofs.lemmas.List.{length_push}
use Rattle.std.proofs.lemmas.Grind.{common_steps}
use Rattle.script.specs.Words.{lines}
use Rattle.script.specs.Scripts.{script_from, orders_from}
use Rattle.word.specs.Lines.{feeds}
use Rattle.script.proofs.Turns.{numbered, refused, behind, turn, over}
use Rattle.script.proofs.Scans.{lines_fit}
use Rattle.script.proofs.reader.told.Goals as goal

pub returns-in_err-with_line-clause-script : goal.returns-in_err-with_line-clause-script
returns-in_err-with_line-clause-script c =
    let t = turn c.loop-line.yielded c.loop-line.yielded_by (lines c.args.text.now)
    (numbered c.args.text.now c.of.ensures c.enumerate-line-items.ensures.source c.enumerate-line-items.ensures.count (cc))
    _ _ (c.in-Some.line, c.in-Some.now) c.in-Some.is c.next.ensures.steps in
    let r : c.from_residual.result ≡ Err c.in_err-with_line.field-0.0 = search rules in
    rw r (refused c.in_err-with_line.field-0.0 (feeds c.args.text.now) c.in-Some.line c.loop-line.script c.in-Some.now.now (drop (length c.loop-line.yielded + 1) (lines c.args.text.now)) _
    (rw (t.0, ← t.1) c.loop-line.invariant.says) c.in_err-with_line.ensures)

pub returns-in_err-with_line-clause-memory : goal.returns-in_err-with_line-clause-memory
returns-in_err-with_line-clause-memory c =
    let r : c.from_residual.result ≡ Err c.in_err-with_line.field-0.0 = search rules in
    rw r (behind c.in_err-with_line.field-0.0 c.in-Some.line c.loop-line.script c.in-Some.now.now _ (lines c.args.text.now)
    c.loop-line.invariant.machine c.in_err-with_line.ensures)

pub loop-line-init : goal.loop-line-init
loop-line-init c = record { can = (tt, tt, inl (grind (arith, lines_fit [] c.args.text.now))); finite = tt; machine = refl; says = refl }

pub loop-line-preserved : goal.loop-line-preserved
loop-line-preserved c =
    let t = turn c.loop-line.yielded c.loop-line.yielded_by (lines c.args.text.now)
    (numbered c.args.text.now c.of.ensures c.enumerate-line-items.ensures.source c.enumerate-line-items.ensures.count (cc))
    _ _ (c.in-Some.line, c.in-Some.now) c.in-Some.is c.next.ensures.steps in
    record {
      can = search rules;
      finite = search rules;
      machine =
          rw (length_push c.loop-line.yielded (c.in-Some.line, c.in-Some.now), ← t.0)
          (sym (c.in_ok-with_line.ensures.machine (drop (c.in-Some.line + 1) (lines c.args.text.now))) ∙ rw (t.0, ← t.1) c.loop-line.invariant.machine);
      says =
          rw (length_push c.loop-line.yielded (c.in-Some.line, c.in-Some.now), ← t.0)
          (sym (c.in_ok-with_line.ensures.says (feeds c.args.text.now) (drop (c.in-Some.line + 1) (lines c.args.text.now))) ∙ rw (t.0, ← t.1) c.loop-line.invariant.says);
    }

pub returns-clause-script : goal.returns-clause-script
unfolding script_from orders_from
returns-clause-script c =
    let o = over c.loop-line.yielded c.loop-line.yielded_by (lines c.args.text.now)
    (numbered c.args.text.now c.of.ensures c.enumerate-line-items.ensures.source c.enumerate-line-items.ensures.count (cc))
    _ _ c.in-None.is c.next.ensures.steps in
    let i = rw o at c.loop-line.invariant.says in
    grind (arith, common_steps)
