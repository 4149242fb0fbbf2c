-- What every row of events keeps, and the promises about the present state and the next tick.
use Rattle.std.proofs.Common.{◌≡◌, ℕ, ◌+◌, ◌<◌, ◌≤◌, List, [], ◌∷◌, length, drop, sym, refl, ap, ◌∙◌, ⊎_elim, arith}
use Rattle.geometry.specs.declared.place.Place.{Place}
use Rattle.program.specs.declared.target.Target.{Target}
use Rattle.line.specs.Lines.{long}
use Rattle.line.proofs.Walk.{nearest_x, nearest_y}
use Rattle.speed.specs.Speeds.{stopping}
use Rattle.speed.proofs.Stopping.{slow}
use Rattle.work.specs.declared.machine.Machine.{Machine}
use Rattle.work.specs.declared.motion.Motion.{Motion}
use Rattle.work.specs.declared.panel.Panel.{Panel}
use Rattle.work.specs.declared.work.Work.{Work}
use Rattle.work.specs.declared.event.Event.{Event}
use Rattle.work.specs.declared.event.Event.TheVariants.{Tick, Hold, Go, Knob}
use Rattle.work.specs.Works.{limit, steps, todo, tick, happens, row, begun, after, stands}
use Rattle.work.specs.Promises.{start_of, Stood, OnPath, CanStop, GoesOn, EndsLine}
use Rattle.work.proofs.Lists.{some_left, next_start}
use Rattle.work.proofs.Ticks.{none, ends_or_goes, fitting}

pub record Safe (m : Machine) (p : Place) (ts : List Target) (w : Motion) : Type 0 where
  pub few : w.behind ≤ length ts
  pub began : w.from ≡ start_of p ts w.behind
  pub stop : CanStop m.change w (todo ts w)

-- a line that begins can stop
pub fresh : (a : ℕ) (w : Motion) (xs : List Target) → w.done ≡ 0 → w.speed ≡ 0 → CanStop a w xs
fresh a w [] d v = (d, v)
fresh a w (t ∷ us) d v = (omega (arith, slow a w.speed (omega arith)), omega arith)

module _ (m : Machine) (p : Place) (ts : List Target) (fit : 1 ≤ m.change) where
  safe_ended : (w v : Motion) (n : ℕ) (t : Target) (us : List Target) → todo ts w ≡ t ∷ us → EndsLine m.change n t.to w v → Safe m p ts v
  safe_ended w v n t us e h = record {
    few = omega (arith, h.behind, some_left ts w.behind t us e);
    began = h.from ∙ sym (ap (start_of p ts) h.behind ∙ next_start p ts w.behind t us e);
    stop = fresh m.change v (todo ts v) h.done h.speed;
  }

  safe_going : (w v : Motion) (n : ℕ) (t : Target) (us : List Target) → Safe m p ts w → todo ts w ≡ t ∷ us → GoesOn n w v
      → w.done + n < long w.from t.to → w.done + n + stopping m.change n ≤ long w.from t.to → Safe m p ts v
  safe_going w v n t us s e h k f =
      let d : todo ts v ≡ t ∷ us = ap (λ (b : ℕ). drop b ts) h.behind ∙ e in
      record {
        few = omega (arith, h.behind, s.few);
        began = h.from ∙ s.began ∙ sym (ap (start_of p ts) h.behind);
        stop = rw (d, h.from, h.done, h.speed) (f, omega arith);
      }

  pub safe_tick : (q : Panel) (w : Motion) → Safe m p ts w → Safe m p ts (tick m q ts w)
  safe_tick q w s = by (todo ts w) refl s.stop
    where
      by : (xs : List Target) → todo ts w ≡ xs → CanStop m.change w xs → Safe m p ts (tick m q ts w)
      by [] e c = rw (none m q ts w e) s
      by (t ∷ us) e c =
          ⊎_elim (λ g. safe_going w (tick m q ts w) (steps m.change (limit m q t.fast) w t) t us s e g.0 g.1 (fitting m q ts w fit t us e c))
          (λ g. safe_ended w (tick m q ts w) (steps m.change (limit m q t.fast) w t) t us e g) (ends_or_goes m q ts w fit t us e c)

  pub safe_event : (x : Event) (w : Work) → Safe m p ts w.motion → Safe m p ts (happens m ts x w).motion
  safe_event Tick w s = safe_tick w.panel w.motion s
  safe_event Hold w s = s
  safe_event Go w s = s
  safe_event (Knob n) w s = s

  pub safe_row : (es : List Event) (w : Work) → Safe m p ts w.motion → Safe m p ts (row m ts es w).motion
  unfolding row
  safe_row [] w s = s
  safe_row (x ∷ es) w s = safe_event x (row m ts es w) (safe_row es w s)

  pub safe_after : (es : List Event) → Safe m p ts (after m ts p es).motion
  unfolding start_of
  safe_after es = safe_row es (begun p) (record { few = omega arith; began = refl; stop = fresh m.change (begun p).motion ts refl refl })

  stood_in : (w : Motion) (xs : List Target) → CanStop m.change w xs → Stood w (stands w xs) xs
  unfolding stands
  stood_in w [] c = refl
  stood_in w (t ∷ us) c = record {
    at = refl;
    within = omega arith;
    across = nearest_x w.from t.to w.done;
    along = nearest_y w.from t.to w.done;
  }

  pub on_path : (w : Motion) → Safe m p ts w → OnPath p ts w
  on_path w s = record { few = s.few; began = s.began; stood = stood_in w (todo ts w) s.stop }
