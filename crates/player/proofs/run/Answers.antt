use Rattle.std.proofs.Common.{◌≡◌, suc, ◌+◌, ◌-◌, refl, inl, inr, arith}
use Rattle.player.proofs.Ticking.{none, another}
use Rattle.player.proofs.run.Goals as goal

pub loop-made-preserved : goal.loop-made-preserved
loop-made-preserved c = λ left d out r.
    let k : c.args.n - c.loop-made.made ≡ suc (c.args.n - (c.loop-made.made + 1)) = omega arith in
    let o = c.loop-made.out in
    c.loop-made.invariant left d out (rw k (another c.tick.ensures.happened (omega (arith, o.ok.0)) c.tick.ensures.pulses c.in_ok-put_pulses.ensures r))

pub returns-then-len-ge-FULL : goal.returns-then-len-ge-FULL
returns-then-len-ge-FULL c =
    let o = c.loop-made.out in
    c.loop-made.invariant _ _ _ (none _ _ _ _ (inr (omega (arith, o.ok.0))))

pub returns : goal.returns
returns c =
    let z : c.args.n - c.loop-made.made ≡ 0 = omega arith in
    c.loop-made.invariant _ _ _ (rw z (none _ _ _ _ (inl refl)))
