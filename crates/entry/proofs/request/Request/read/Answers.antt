use Rattle.std.proofs.lemmas.Result.{err_from_is_err_and}
use Rattle.control.proofs.States.{taken}
use Rattle.entry.proofs.Checks.{memory_refused, none_refused, passed}
use Rattle.entry.proofs.request.Request.read.Goals as goal

pub returns-in_err-work_in : goal.returns-in_err-work_in
returns-in_err-work_in c =
    let a = c.args in
    let p = err_from_is_err_and c.from_residual-in_err-work_in.result c.from_residual-in_err-work_in.ensures.1 in
    rw (p.1, p.2) (memory_refused a.change a.top a.targets.now a.memory.now a.kind a.number
    c.in_ok-machine.field-0 c.in_ok-machine.ensures c.in_ok-targets_in.ensures.0 c.in_err-work_in.field-0.0 c.in_err-work_in.ensures)

pub invariant_of-result : goal.invariant_of-result
invariant_of-result c =
    let a = c.args in
    let m = taken a.change a.top c.in_ok-machine.field-0 c.in_ok-machine.ensures in
    let ts = c.in_ok-targets_in.ensures in
    let w = c.in_ok-work_in.ensures in
    let n = none_refused a.change a.top a.targets.now a.memory.now a.kind a.number
    c.in_ok-machine.field-0 c.in_ok-machine.ensures ts.0 w.0 c.in_ok-event.ensures.0 in
    record { range = rw (m.is, ts.1, w.1) (passed a.change a.top a.targets.now a.memory.now a.kind a.number n) }
