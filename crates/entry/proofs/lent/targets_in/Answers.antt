use Rattle.std.proofs.Common.{◌≡◌, ◌%◌, true, eqb, length, map, ap, ◌∙◌, refl, arith, eq-eqb}
use Rattle.entry.proofs.Threes.{in_threes}
use Rattle.program.specs.Targets.{target_in}
use Rattle.entry.specs.Entries.{targets_in}
use Rattle.entry.proofs.lent.targets_in.Goals as goal
use Rattle.entry.proofs.lent.targets_in.Goals.{After-all_near}

-- three by three, they are the targets that the numbers say
same : (c : After-all_near) → map target_in c.as_chunks.result.0.now ≡ targets_in c.args.numbers.now
same c = ap (map target_in) c.as_chunks.ensures.front ∙ in_threes c.args.numbers.now

whole : (c : After-all_near) → eqb (length c.args.numbers.now % 3) 0 ≡ true
whole c = eq-eqb _ _ (omega (arith, c.as_chunks.ensures.back_len))

pub returns-then-not-all_near : goal.returns-then-not-all_near
returns-then-not-all_near c =
    let t = (goal.at.returns-then-not-all_near c).After-all_near in
    rw (whole t, ← same t, ← c.if-not-all_near.ensures)

pub returns : goal.returns
returns c =
    let t = (goal.at.returns c).After-all_near in
    rw (whole t, ← same t, ← c.if-not-all_near.ensures) (refl, refl)
