use Rattle.std.proofs.Common.{◌≡◌, List, ℤ, length, sym, ap, ◌∙◌, arith}
use Rattle.program.proofs.Rooming.{refilled_whole}
use Rattle.program.specs.Answers.{refusal_of, said}
use Rattle.program.proofs.entry.load.Goals as goal

pub returns : goal.returns
returns c =
    let xs : List ℤ = c.args.nodes.now in
    let passed = c.in_ok-program.ensures in
    let same = ap (λ (z : List ℤ). length (said z)) passed.same in
    let long : c.in_ok-targets.targets.len ≡ length (said xs) = omega (arith, c.in_ok-targets.ensures.len, c.targets.ensures, passed.fits, same) in
    let ran = rw (c.unwrap.ensures, passed.same) at c.run.ensures in (
      ap (refusal_of xs) (sym c.min.ensures) ∙ passed.none,
      refilled_whole c.in_ok-targets.targets.items c.as_mut_slice.result.now c.run.new.room (said xs)
          c.in_ok-targets.targets.len ran.2 (c.as_mut_slice.ensures.len ∙ long) long,
    )
