use Rattle.std.proofs.Common.{ℕ, ◌-◌, ◌^◌, ◌<◌, min, List, length, get_or, Some, sym, ap, ◌∙◌, subst, arith, false-eqb}
use Rattle.std.specs.Str.Parse.{digits_value, AllDigits}
use Rattle.std.proofs.lemmas.Int.Digits.{digits_value_more, digits_more}
use Rattle.std.proofs.lemmas.List.{take_all}
use Rattle.word.proofs.Numbers.{magnitude_all, magnitude_none, digit_value}
use Rattle.word.proofs.unsigned.Goals as goal

pub returns-then-not-is_ascii_digit : goal.returns-then-not-is_ascii_digit
returns-then-not-is_ascii_digit c = sym (magnitude_none c.args.digits.now c.loop-d.d-index (omega arith) (sym c.if-not-is_ascii_digit.ensures.value))

pub loop-d-preserved : goal.loop-d-preserved
loop-d-preserved c =
    let h : c.loop-d.d-index < length c.args.digits.now = omega arith in
    let d = digit_value (get_or c.args.digits.now c.loop-d.d-index 0) (sym c.if-not-is_ascii_digit.ensures.value) in
    (rw (digits_value_more 10 c.args.digits.now c.loop-d.d-index h) (omega arith), digits_more 10 _ _ h c.loop-d.invariant.1 (omega arith))

pub returns : goal.returns
returns c =
    let all = take_all c.loop-d.d-index c.args.digits.now (omega arith) in
    let some : 0 < length c.args.digits.now = omega (arith, false-eqb (length c.args.digits.now) 0 c.if-is_empty.ensures) in
    ap Some (c.loop-d.invariant.0 ∙ ap (λ (ds : List ℕ). min (digits_value 10 ds) (2 ^ 64 - 1)) all) ∙ sym (magnitude_all c.args.digits.now some (subst (AllDigits 10) all c.loop-d.invariant.1))
