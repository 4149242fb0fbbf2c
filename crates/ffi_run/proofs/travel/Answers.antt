use Rattle.std.proofs.Common.{◌≡◌, suc, ◌-◌, ◌∙◌, arith}
use Rattle.work.specs.Works.{row, ticks}
use Rattle.ffi_run.proofs.Travels.{lands, onward}
use Rattle.ffi_run.proofs.travel.Goals as goal

pub onto-end-requires : goal.onto-end-requires
onto-end-requires c =
    let i = c.loop.invariant in
    let h = c.tick.ensures.happened in
    (i.near, rw (lands h c.loop.end c.tick.result i.stands c.tick.ensures.pulses) h.near)

pub loop-preserved : goal.loop-preserved
loop-preserved c =
    let i = c.loop.invariant in
    let h = c.tick.ensures.happened in
    let l = c.onto-end.ensures ∙ lands h c.loop.end c.tick.result i.stands c.tick.ensures.pulses in
    let k : c.loop.counter ≡ suc (c.loop.counter - 1) = omega arith in
    record { stands = l; near = rw l h.near; onward = onward h _ ∙ (rw k at i.onward) }

pub returns : goal.returns
unfolding row ticks
returns c =
    let i = c.loop.invariant in
    let z : c.loop.counter ≡ 0 = omega arith in
    i.stands ∙ (rw z at i.onward)
