use Rattle.std.proofs.Common.{◌≡◌, ◌-◌, ◌^◌, min, take}
use Rattle.std.specs.Str.Parse.{digits_value, AllDigits}
use Rattle.word.proofs.unsigned.Given as goal

abbrev pub invariant-loop-d : goal.invariant-loop-d
invariant-loop-d l = (l.n ≡ min (digits_value 10 (take l.d-index l.digits)) (2 ^ 64 - 1)) × AllDigits 10 (take l.d-index l.digits)
