use Rattle.std.proofs.Common.{◌≡◌, suc, ◌∷◌, length, ◌≤◌, drop, sym, ap, ◌∙◌, drop-cons}
use Rattle.pulses.proofs.Follows.{still}
use Rattle.program.specs.declared.target.Target.{Target}
use Rattle.work.specs.Works.{todo}
use Rattle.work.specs.declared.event.Event.TheVariants.{Tick}
use Rattle.control.proofs.States.{near_at, slow_toward, ticks, near_toward, loaded_on, idles, happened, gives, gives_few}
use Rattle.control.proofs.control.Control.tick.Goals as goal
use Rattle.control.proofs.control.Control.tick.Goals.{In-Some, In_default}

-- the target is the first of those still to go
first : (c : In-Some) → todo c.self.inside.targets.items c.self.inside.work.motion ≡ c.in-Some.field-0.now ∷ drop (suc c.self.inside.work.motion.behind) c.self.inside.targets.items
first c =
    let l = c.in-Some.ensures.lookup in
    rw c.deref.ensures.value at (
    drop-cons c.deref.result.now c.self.inside.work.motion.behind c.in-Some.field-0.now l.3.0
    ∙ ap (λ (x : Target). x ∷ drop (suc c.self.inside.work.motion.behind) c.deref.result.now) (sym l.1))

-- or there is none
last : (c : In_default) → length c.self.inside.targets.items ≤ c.self.inside.work.motion.behind
last c = rw c.deref.ensures.value at c.in_default.ensures.lookup.3

pub returns-in_default : goal.returns-in_default
returns-in_default c =
    let s = c.self.inside in
    let k = c.self.invariant in
    let h = idles k (last c) in
    rw (← c.self.view_is) (record {
      happened = happened k Tick s.work h;
      pulses = gives k s.work s.at _ h k.stood (sym (still s.at));
      few = gives_few k _ (gives k s.work s.at _ h k.stood (sym (still s.at)));
    })

pub tick_toward-work-requires : goal.tick_toward-work-requires
tick_toward-work-requires c =
    record { slow = slow_toward c.self.invariant _ _ (first (goal.at.tick_toward-work-requires c).In-Some) }

pub place_after-at-requires : goal.place_after-at-requires
place_after-at-requires c =
    record { near = near_toward c.self.invariant _ _ (first (goal.at.place_after-at-requires c).In-Some) c.tick_toward-work.result c.tick_toward-work.ensures }

pub between-pulses-requires : goal.between-pulses-requires
between-pulses-requires c =
    let k = c.self.invariant in
    let f = first (goal.at.between-pulses-requires c).In-Some in
    record { before = near_at k; after = near_at (loaded_on k _ _ f c.tick_toward-work.result c.tick_toward-work.ensures c.place_after-at.result c.place_after-at.ensures) }

pub invariant_of-self : goal.invariant_of-self
invariant_of-self c =
    loaded_on c.self.invariant _ _ (first (goal.at.invariant_of-self c).In-Some)
    c.tick_toward-work.result c.tick_toward-work.ensures c.place_after-at.result c.place_after-at.ensures

pub returns : goal.returns
returns c =
    let k = c.self.invariant in
    let v = c.tick_toward-work.result in
    let f = first (goal.at.returns c).In-Some in
    let h = ticks k _ _ f v c.tick_toward-work.ensures in
    let l = loaded_on k _ _ f v c.tick_toward-work.ensures c.place_after-at.result c.place_after-at.ensures in
    let g = gives k v c.place_after-at.result c.between-pulses.result h l.stood c.between-pulses.ensures in
    rw (← c.self.view_is) (record { happened = happened k Tick v h; pulses = g; few = gives_few k _ g })
