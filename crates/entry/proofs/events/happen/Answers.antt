use Rattle.std.proofs.Common.{length, sym, ap, ◌∙◌}
use Rattle.entry.proofs.Checks.{seven}
use Rattle.entry.proofs.Ranges.{after_fits}
use Rattle.entry.proofs.events.happen.Goals as goal

pub memory_of-requires : goal.memory_of-requires
memory_of-requires c =
    let r = c.in-Ok.request in
    let f = after_fits _ _ r.work r.range r.event c.step.result.0 c.step.ensures.work in
    record { behind = f.0; done = f.1; speed = f.2 }

pub copy_from_slice-requires : goal.copy_from_slice-requires
copy_from_slice-requires c =
    let a = c.args in
    seven a.change a.top a.targets.now a.memory.now a.kind a.number (sym c.in-Ok.ensures.0) ∙ sym (ap length c.memory_of.ensures)
