use Rattle.std.proofs.Common.{◌≡◌, codes, arith}
use Rattle.text.proofs.Bytes.{byte_by_byte}
use Rattle.text.proofs.token.Token.of_no_number.Goals as goal

-- the longer names are put together byte by byte
pub returns-in-fast : goal.returns-in-fast
returns-in-fast c = let e : c.args.word.now ≡ codes "fast" = cc (byte_by_byte c.args.word.now 0 4 (omega arith)) in rw e

pub returns-in-turn : goal.returns-in-turn
returns-in-turn c = let e : c.args.word.now ≡ codes "turn" = cc (byte_by_byte c.args.word.now 0 4 (omega arith)) in rw e

pub returns-in-times : goal.returns-in-times
returns-in-times c = let e : c.args.word.now ≡ codes "times" = cc (byte_by_byte c.args.word.now 0 5 (omega arith)) in rw e

pub returns-in-mirror : goal.returns-in-mirror
returns-in-mirror c = let e : c.args.word.now ≡ codes "mirror" = cc (byte_by_byte c.args.word.now 0 6 (omega arith)) in rw e
