use Rattle.std.proofs.Common.{◌≡◌, length, drop}
use Rattle.word.specs.Lines.{feeds}
use Rattle.script.specs.Refusals.{goes_on, has_machine}
use Rattle.script.specs.Words.{lines}
use Rattle.script.specs.Scripts.{says_machine, reads}
use Rattle.script.proofs.reader.told.Given as goal

abbrev pub invariant-loop-line : goal.invariant-loop-line
invariant-loop-line l = record {
  can : (goal.iterator-loop-line).can_next l.line-iterator;
  finite : (goal.iterator-loop-line).is_finite l.line-iterator;
  machine : has_machine l.script (drop (length l.yielded) (lines l.text)) ≡ says_machine (lines l.text);
  says : goes_on (feeds l.text) (length l.yielded) l.script (drop (length l.yielded) (lines l.text)) ≡ reads l.text;
}
