use Rattle.std.proofs.Common.{◌≡◌, map, ◌∙◌}
use Rattle.work.specs.Works.{happens}
use Rattle.program.specs.Targets.{target_in}
use Rattle.entry.proofs.First.{stands_next, happens_next}
use Rattle.entry.proofs.Ranges.{first_near, next_near, before_near, after_near}
use Rattle.entry.proofs.request.Request.step.Goals as goal
use Rattle.entry.proofs.request.Request.step.Goals.{After-happen-after}

-- what the event makes of the work
made : (c : After-happen-after) → c.happen-after.result ≡ happens c.args.self.now.machine (map target_in c.args.self.now.targets.now) c.args.self.now.event c.args.self.now.work
made c =
    let s = c.args.self.now in
    happens_next s.machine (map target_in s.targets.now) s.event s.work c.happen-after.result _ c.target_at-next.ensures c.happen-after.ensures

pub place-before-requires : goal.place-before-requires
place-before-requires c = record { near = first_near _ _ _ c.args.self.now.range c.target_at-next.result c.target_at-next.ensures }

pub place-place-requires : goal.place-place-requires
place-place-requires c =
    let s = c.args.self.now in
    record { near = next_near _ _ _ s.range s.event c.happen-after.result (made (goal.at.place-place-requires c).After-happen-after) c.target_at.result c.target_at.ensures }

pub between-requires : goal.between-requires
between-requires c =
    let s = c.args.self.now in
    let ts = map target_in s.targets.now in
    record {
      before = rw (stands_next ts s.work.motion _ _ c.target_at-next.ensures c.place-before.ensures) (before_near _ _ _ s.range);
      after = rw (stands_next ts c.happen-after.result.motion _ _ c.target_at.ensures c.place-place.ensures) (after_near _ _ _ s.range s.event c.happen-after.result (made (goal.at.between-requires c).After-happen-after));
    }

pub returns : goal.returns
returns c =
    let s = c.args.self.now in
    let ts = map target_in s.targets.now in
    let h = made (goal.at.returns c).After-happen-after in
    let p = stands_next ts s.work.motion _ c.place-before.result c.target_at-next.ensures c.place-before.ensures in
    let q = stands_next ts c.happen-after.result.motion _ c.place-place.result c.target_at.ensures c.place-place.ensures in
    record { work = h; pulses = c.between.ensures ∙ rw (p, q, h) }
