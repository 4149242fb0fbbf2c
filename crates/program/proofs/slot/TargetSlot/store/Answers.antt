use Rattle.std.proofs.Common.{◌<◌, length, one-mul, add-one, arith}
use Rattle.std.proofs.lemmas.List.{set_split}
use Rattle.program.proofs.slot.TargetSlot.store.Goals as goal

pub returns : goal.returns
returns c =
    let h : c.args.behind < length c.args.room.now = omega (arith, c.requires.fits) in
    rw (one-mul c.args.behind, add-one c.args.behind) (set_split c.args.room.now c.args.behind c.args.target h)
