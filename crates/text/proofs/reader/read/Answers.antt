use Rattle.std.proofs.Common.{◌≡◌, ℕ, List, ◌∷◌, Err, sym, ap, ◌∙◌, subst}
use Rattle.text.specs.declared.error.Expected.{Expected}
use Rattle.text.specs.declared.phase.Phase.{Phase}
use Rattle.text.specs.declared.token.Token.{Token}
use Rattle.text.specs.Words.{Found}
use Rattle.text.specs.Reading.{Held, step, at_end, expected_of, unreadable, end_of, read, error_of}
use Rattle.text.specs.Taking.{found_at, left}
use Rattle.text.proofs.Taken.{word_taken, word_refused, end_taken, end_refused, end_placed, fault_told, end_told}
use Rattle.text.proofs.reader.read.Goals as goal

pub loop-word-preserved : goal.loop-word-preserved
loop-word-preserved c =
    let next = c.in-Some.ensures.steps in
    let w : Found = found_at c.loop-word.word-iterator.text.now c.in-Some.word in
    let h : Held = c.loop-word.draft in
    record {
      said = word_taken _ _ w (end_of c.args.text.now) c.loop-word.phase c.in-Ok.next h c.step.new.self next.found (ap (λ (t : Token). step t c.loop-word.phase h) (sym c.from.ensures) ∙ c.in-Ok.ensures)
          ∙ c.loop-word.invariant.said;
      same = next.same ∙ c.loop-word.invariant.same;
    }

pub returns-in-Err : goal.returns-in-Err
returns-in-Err c =
    let text : List ℕ = c.args.text.now in
    let h : Held = c.loop-word.draft in
    let k : Held = c.step.new.self in
    let w : Found = found_at text c.in-Some.word in
    let p : Phase = c.loop-word.phase in
    let found = subst (λ t. left c.loop-word.word-iterator ≡ found_at t c.in-Some.word ∷ left c.next.new.self) c.loop-word.invariant.same c.in-Some.ensures.steps.found in
    fault_told (read text) c.in-Err.fault (step c.from.result p h) h k (unreadable w c.expected.result) c.placed.result c.placed.ensures c.in-Err.ensures
    (λ none same.
    sym c.loop-word.invariant.said
    ∙ word_refused _ _ w (end_of text) p h found (ap (λ (t : Token). step t p h) (sym c.from.ensures) ∙ none)
    ∙ ap (λ (e : Expected). Err (unreadable w e)) (sym (c.expected.ensures ∙ ap (expected_of p) same)))

pub returns-in-Ok-finish : goal.returns-in-Ok-finish
returns-in-Ok-finish c =
    sym c.loop-word.invariant.said ∙ end_taken _ (end_of c.args.text.now) c.loop-word.phase c.loop-word.draft _ c.in-None.ensures.steps.0 c.in-Ok-finish.ensures

pub returns-in-Err-finish : goal.returns-in-Err-finish
returns-in-Err-finish c =
    let text : List ℕ = c.args.text.now in
    let h : Held = c.loop-word.draft in
    let p : Phase = c.loop-word.phase in
    let e : Expected = c.expected-expected.result in
    end_told (read text) c.in-Err-finish.fault (at_end p h) (unreadable (end_of text) e) c.placed-in-Err-finish.result
    (c.placed-in-Err-finish.ensures ∙ ap (error_of c.in-Err-finish.fault) (end_placed text e)) c.in-Err-finish.ensures
    (λ none. sym c.loop-word.invariant.said ∙ end_refused _ (end_of text) p h c.in-None.ensures.steps.0 none ∙ ap (λ (e : Expected). Err (unreadable (end_of text) e)) (sym c.expected-expected.ensures))
