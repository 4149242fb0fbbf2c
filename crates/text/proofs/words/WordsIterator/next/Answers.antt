use Rattle.std.proofs.Common.{arith, false-eqb, true-eqb, length, rules}
use Rattle.text.proofs.Scans.{next_word, no_word}
use Rattle.text.proofs.words.WordsIterator.next.Goals as goal

pub returns-then-is_empty-clause-steps : goal.returns-then-is_empty-clause-steps
returns-then-is_empty-clause-steps c =
    let none = no_word c.args.self.now.text.now c.split_at.result.1.now c.split_at-2.result.1.now c.args.self.now.at c.run_of.result c.split_at.ensures.back c.run_of.ensures.value c.split_at-2.ensures.back (omega (arith, true-eqb (length c.split_at-3.result.0.now) 0 c.if-is_empty.ensures)) in (none, none)

pub returns-clause-steps : goal.returns-clause-steps
returns-clause-steps c =
    let next = next_word c.args.self.now.text.now c.split_at.result.1.now c.split_at-2.result.1.now c.args.self.now.at c.run_of.result c.split_at.ensures.back c.run_of.ensures.value c.split_at-2.ensures.back c.split_at-3.result.0.now c.word_len.result c.word_len.ensures.value c.split_at-3.ensures.front c.split_at-3.ensures.front_len (omega (arith, false-eqb (length c.split_at-3.result.0.now) 0 c.if-is_empty.ensures)) in
    record { found = rw c.split_at-2.ensures.front_len next; within = omega arith; same = search rules }
