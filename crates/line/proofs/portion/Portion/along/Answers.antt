use Rattle.std.proofs.Common.{◌-ℤ◌, arith}
use Rattle.std.proofs.lemmas.Int.{ints}
use Rattle.line.proofs.Shares.{share_down, share_up}
use Rattle.line.proofs.portion.Portion.along.Goals as goal

pub returns-then-to-from : goal.returns-then-to-from
returns-then-to-from c =
    omega (arith, ints, share_down c.args.self.made c.args.self.of c.abs_diff.result (c.args.to -ℤ c.args.from) (omega (arith, ints)) (omega (arith, ints)))

pub returns-else-to-from : goal.returns-else-to-from
returns-else-to-from c =
    omega (arith, ints, share_up c.args.self.made c.args.self.of c.abs_diff.result (c.args.to -ℤ c.args.from) (omega (arith, ints)) (omega (arith, ints)))
