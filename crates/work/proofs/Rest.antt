-- Held, it comes to a stand where its stopping distance says, and stays.
use Rattle.std.proofs.Common.{◌≡◌, ℕ, ◌+◌, ◌-◌, ◌*◌, ◌/◌, ◌≤◌, min, Bool, true, cond, List, [], ◌∷◌, drop, sym, refl, ap, ◌∙◌, ⊎_elim, arith}
use Rattle.geometry.specs.declared.place.Place.{Place}
use Rattle.program.specs.declared.target.Target.{Target}
use Rattle.line.specs.Lines.{long, on_line}
use Rattle.line.proofs.Walk.{starts, ends}
use Rattle.speed.specs.Speeds.{stopping, next_speed}
use Rattle.speed.proofs.Stopping.{slow, slows}
use Rattle.work.specs.declared.machine.Machine.{Machine}
use Rattle.work.specs.declared.motion.Motion.{Motion}
use Rattle.work.specs.declared.panel.Panel.{Panel}
use Rattle.work.specs.declared.work.Work.{Work}
use Rattle.work.specs.declared.event.Event.{Event}
use Rattle.work.specs.declared.event.Event.TheVariants.{Tick, Hold, Go, Knob}
use Rattle.work.specs.Works.{limit, steps, todo, tick, happens, row, stands}
use Rattle.work.specs.Promises.{CanStop, GoesOn, EndsLine, rest_place, IsQuiet, Quiet, one, count, Stands}
use Rattle.work.proofs.Ticks.{none, ends_or_goes}
use Rattle.work.proofs.Safety.{Safe, safe_event}

-- held, a tick slows as much as may be
held_steps : (m : Machine) (q : Panel) (w : Motion) (t : Target) → q.held ≡ true → steps m.change (limit m q t.fast) w t ≡ w.speed - m.change
unfolding next_speed
held_steps m q w t h =
    let z : limit m q t.fast ≡ 0 = ap (λ (b : Bool). cond b 0 (min m.top t.fast * q.percent / 100)) h in omega (arith, z)

-- without speed, where it comes to a stand is where it is
at_rest : (a : ℕ) (w : Motion) (xs : List Target) → w.speed ≡ 0 → rest_place a w xs ≡ stands w xs
unfolding rest_place stands
at_rest a w [] e = refl
at_rest a w (t ∷ us) e = ap (on_line w.from t.to) (omega (arith, slow a w.speed (omega arith)))

-- a line that has just begun, without speed: it stands at its beginning
at_start : (a : ℕ) (w : Motion) (xs : List Target) → w.done ≡ 0 → w.speed ≡ 0 → rest_place a w xs ≡ w.from
unfolding rest_place
at_start a w [] d e = refl
at_start a w (t ∷ us) d e = ap (on_line w.from t.to) (omega (arith, slow a w.speed (omega arith))) ∙ starts w.from t.to

-- what a held tick keeps, from w to v
record Slowed (a : ℕ) (ts : List Target) (w v : Motion) : Type 0 where
  same : rest_place a v (todo ts v) ≡ rest_place a w (todo ts w)
  less : v.speed ≤ w.speed - a

slowed_going : (a : ℕ) (ts : List Target) (w v : Motion) (t : Target) (us : List Target) (n : ℕ) → 1 ≤ a → todo ts w ≡ t ∷ us
    → GoesOn n w v → n ≡ w.speed - a → Slowed a ts w v
unfolding rest_place
slowed_going a ts w v t us n p e g k =
    let d : todo ts v ≡ t ∷ us = ap (λ (b : ℕ). drop b ts) g.behind ∙ e in
    let f : w.done + (w.speed - a) + stopping a (w.speed - a) ≡ w.done + stopping a w.speed = omega (arith, slows a w.speed p) in
    record { same = rw (d, e, g.from, g.done, g.speed, k, f); less = omega (arith, g.speed) }

slowed_ended : (a : ℕ) (ts : List Target) (w v : Motion) (t : Target) (us : List Target) (n : ℕ) → 1 ≤ a → todo ts w ≡ t ∷ us
    → EndsLine a n t.to w v → n ≡ w.speed - a → w.done + stopping a w.speed ≤ long w.from t.to → Slowed a ts w v
unfolding rest_place
slowed_ended a ts w v t us n p e g k c =
    let f : w.done + stopping a w.speed ≡ long w.from t.to = omega (arith, slows a w.speed p, g.rest) in
    record {
      same = at_start a v (todo ts v) g.done g.speed ∙ g.from ∙ rw (e, f) (sym (ends w.from t.to));
      less = omega (arith, g.speed);
    }

module _ (m : Machine) (p : Place) (ts : List Target) (fit : 1 ≤ m.change) where
  slowed_tick : (q : Panel) (w : Motion) → q.held ≡ true → CanStop m.change w (todo ts w) → Slowed m.change ts w (tick m q ts w)
  slowed_tick q w h c = by (todo ts w) refl c
    where
      by : (xs : List Target) → todo ts w ≡ xs → CanStop m.change w xs → Slowed m.change ts w (tick m q ts w)
      by [] e c = rw (none m q ts w e) (record { same = refl; less = omega arith })
      by (t ∷ us) e c =
          ⊎_elim (λ g. slowed_going m.change ts w (tick m q ts w) t us _ fit e g.0 (held_steps m q w t h))
          (λ g. slowed_ended m.change ts w (tick m q ts w) t us _ fit e g (held_steps m q w t h) c.0) (ends_or_goes m q ts w fit t us e c)

  -- what a row with no go in it and k ticks keeps, from a held state with speed v that comes to a stand at r
  record Holding (r : Place) (v k : ℕ) (w : Work) : Type 0 where
    held : w.panel.held ≡ true
    safe : Safe m p ts w.motion
    same : rest_place m.change w.motion (todo ts w.motion) ≡ r
    less : w.motion.speed ≤ v - k * m.change

  holding_event : (r : Place) (v k : ℕ) (x : Event) (w : Work) → IsQuiet x → Holding r v k w → Holding r v (one x + k) (happens m ts x w)
  holding_event r v k Tick w z h =
      let s = slowed_tick w.panel w.motion h.held h.safe.stop in
      record { held = h.held; safe = safe_event m p ts fit Tick w h.safe; same = s.same ∙ h.same; less = omega (arith, s.less, h.less) }
  holding_event r v k Hold w z h = record { held = refl; safe = h.safe; same = h.same; less = omega (arith, h.less) }
  holding_event r v k Go w z h = absurd z
  holding_event r v k (Knob n) w z h = record { held = h.held; safe = h.safe; same = h.same; less = omega (arith, h.less) }

  holding_row : (r : Place) (v : ℕ) (es : List Event) (w : Work) → Quiet es → Holding r v 0 w → Holding r v (count es) (row m ts es w)
  unfolding row Quiet count
  holding_row r v [] w z h = h
  holding_row r v (x ∷ es) w z h = holding_event r v (count es) x (row m ts es w) z.0 (holding_row r v es w z.1 h)

  pub stands_held : (w : Work) → Safe m p ts w.motion → (es : List Event) → Quiet es → w.motion.speed ≤ count es * m.change
      → Stands m ts w.motion (row m ts es (happens m ts Hold w)).motion
  stands_held w s es z le =
      let h = holding_row (rest_place m.change w.motion (todo ts w.motion)) w.motion.speed es (happens m ts Hold w) z
      (record { held = refl; safe = s; same = refl; less = omega arith }) in
      let v : Motion = (row m ts es (happens m ts Hold w)).motion in
      let k : v.speed ≡ 0 = omega (arith, h.less) in
      record { still = k; there = sym (at_rest m.change v (todo ts v) k) ∙ h.same }
