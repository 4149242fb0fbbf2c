use Rattle.std.proofs.Common.{◌≡◌}
use Rattle.text.specs.Reading.{reads, end_of, read}
use Rattle.text.specs.Taking.{left}
use Rattle.text.proofs.reader.read.Given as goal

abbrev pub invariant-loop-word : goal.invariant-loop-word
invariant-loop-word l = record {
  said : reads l.phase l.draft (left l.word-iterator) (end_of l.text) ≡ read l.text;
  same : l.word-iterator.text.now ≡ l.text;
}
