use Rattle.std.proofs.Common.{w64, SFits, rules, refl}
use Rattle.std.proofs.lemmas.Int.{to_z-of_z}
use Rattle.ffi.proofs.Telling.{moved, turned}
use Rattle.ffi.proofs.events.mill_happen.Goals as goal

pub returns-in-Moved : goal.returns-in-Moved
returns-in-Moved c =
    let x : SFits w64 c.in-Moved.x = search rules in
    let y : SFits w64 c.in-Moved.y = search rules in
    let t = moved _ c.args.targets.now c.args.memory.now _ _ _ _ _ c.in-Moved.ensures in
    rw t.0 (record { code = refl; place = refl; moved = simp to_z-of_z (rw (t.1, t.2)); memory = t.3 })

pub returns-in-Turned : goal.returns-in-Turned
returns-in-Turned c =
    let t = turned _ c.args.targets.now c.args.memory.now _ _ _ _ c.in-Turned.ensures in
    rw t.0 (record { code = c.number.ensures; place = rw c.place.ensures; moved = refl; memory = t.1 })
