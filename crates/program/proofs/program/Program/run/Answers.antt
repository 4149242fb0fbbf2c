use Rattle.std.proofs.Common.{◌≡◌, Err, rules}
use Rattle.std.specs.Result.{IsErr, IsOk}
use Rattle.program.proofs.Checking.{ran_off, ran_whole, start_ready}
use Rattle.program.proofs.Walking.{walked_off, walked_whole}
use Rattle.refusal.specs.declared.Refusal.TheVariants.{Reach}
use Rattle.program.proofs.program.Program.run.Goals as goal

pub walk-requires : goal.walk-requires
walk-requires g c =
    rw c.last.ensures
    (start_ready c.args.self.now c.new-teller.result _ g.T.Slot.width c.new-teller.ensures c.requires.fits c.requires.roomy)

pub returns-in_err-map_err : goal.returns-in_err-map_err
returns-in_err-map_err g c =
    let e : c.from_residual.result ≡ Err (Reach c.walk.new.self.said) = search rules in
    let off : IsErr c.walk.result = search rules in
    rw e
    (ran_off c.args.self.now.nodes.now c.new-teller.result _ c.walk.new.self.said c.args.self.now.sound c.new-teller.ensures
    (rw c.last.ensures at (walked_off g.T.Slot.slots g.T.Slot.width c.new-teller.result _ c.walk.result c.walk.new.self off c.walk.ensures.walked)))

pub returns : goal.returns
returns g c =
    let same = c.walk.ensures.same_room in
    let whole : IsOk c.walk.result = search rules in
    ran_whole g.T.Slot.slots g.T.Slot.width c.args.self.now.nodes.now c.new-teller.result _ c.walk.new.self _ c.args.self.now.sound
    c.new-teller.ensures (search rules)
    (rw c.last.ensures at (walked_whole g.T.Slot.slots g.T.Slot.width c.new-teller.result _ c.walk.result c.walk.new.self whole c.walk.ensures.walked))
