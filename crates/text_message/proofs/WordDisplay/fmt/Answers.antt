use Rattle.std.proofs.Common.{rules, ◌++◌, take, codes}
use Rattle.std.specs.List.{flat_map}
use Rattle.std.proofs.lemmas.Grind.{put_two}
use Rattle.text_message.specs.Explaining.{shown_byte}
use Rattle.text_message.proofs.Explained.{word_shown}
use Rattle.text_message.proofs.WordDisplay.fmt.Goals as goal

pub returns-clause-writes : goal.returns-clause-writes
returns-clause-writes g c = λ plain ok.
    put_two _ _ _ _ (codes "`" ++ flat_map shown_byte (take c.loop-b.b-index (take c.min.result c.args.self.now.0.now))) c.closing.result.now _ (c.loop-b.invariant plain) (search rules)
    (rw c.closing.ensures (word_shown c.args.self.now.0.now c.min.result c.loop-b.b-index c.if-is_empty.ensures c.min.ensures c.loop-b-test.false))
