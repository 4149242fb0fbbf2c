use Rattle.std.proofs.Common.{◌≡◌, ◌++◌, take}
use Rattle.decimal.proofs.put_digits.Given as goal

abbrev pub invariant-loop-digit : goal.invariant-loop-digit
invariant-loop-digit l = l.out.items ≡ l.initial.out.items ++ take l.digit-index l.digit-items
