-- Rows of ticks; and that, with caps of at least 1, they lead to the last target.
use Rattle.std.proofs.Common.{◌≡◌, ℕ, zero, suc, ◌+◌, ◌-◌, ◌<◌, ◌≤◌, max, List, [], ◌∷◌, length, drop, sym, refl, ap, ◌∙◌, subst, ⊎_elim, arith}
use Rattle.geometry.specs.declared.place.Place.{Place}
use Rattle.program.specs.declared.target.Target.{Target}
use Rattle.line.specs.Lines.{long}
use Rattle.work.specs.declared.machine.Machine.{Machine}
use Rattle.work.specs.declared.motion.Motion.{Motion}
use Rattle.work.specs.declared.panel.Panel.{Panel}
use Rattle.work.specs.declared.work.Work.{Work}
use Rattle.work.specs.declared.event.Event.TheVariants.{Tick}
use Rattle.work.specs.Works.{todo, tick, happens, row, ticks, stands}
use Rattle.work.specs.Promises.{start_of, CanStop, GoesOn, EndsLine, Caps, to_go, Arrived}
use Rattle.work.proofs.Lists.{next_todo, none_left}
use Rattle.work.proofs.Ticks.{none, begins, ends_or_goes, next_of}
use Rattle.work.proofs.Safety.{Safe, safe_tick}

-- the first of so many ticks, in front of the others
pub tick_first : (m : Machine) (ts : List Target) (n : ℕ) (w : Work) → row m ts (ticks (suc n)) w ≡ row m ts (ticks n) (happens m ts Tick w)
unfolding row ticks
tick_first m ts zero w = refl
tick_first m ts (suc n) w = ap (happens m ts Tick) (tick_first m ts n w)

pub ticks_add : (m : Machine) (ts : List Target) (i j : ℕ) (w : Work) → row m ts (ticks (i + j)) w ≡ row m ts (ticks i) (row m ts (ticks j) w)
unfolding row ticks
ticks_add m ts zero j w = let e : 0 + j ≡ j = omega arith in rw e
ticks_add m ts (suc i) j w = let e : suc i + j ≡ suc (i + j) = omega arith in rw e (ap (happens m ts Tick) (ticks_add m ts i j w))

pub panel_kept : (m : Machine) (ts : List Target) (n : ℕ) (w : Work) → (row m ts (ticks n) w).panel ≡ w.panel
unfolding row ticks
panel_kept m ts zero w = refl
panel_kept m ts (suc n) w = panel_kept m ts n w

-- what a tick leaves to go: the caps are at least 1 still, and at least one tick fewer suffices
record Nearer (m : Machine) (q : Panel) (ts : List Target) (w v : Motion) : Type 0 where
  caps : Caps m q (todo ts v)
  less : to_go v.from v.done (todo ts v) ≤ to_go w.from w.done (todo ts w) - 1

module _ (m : Machine) (q : Panel) (ts : List Target) (w v : Motion) (t : Target) (us : List Target) (n : ℕ) (e : todo ts w ≡ t ∷ us) (c : Caps m q (t ∷ us)) where
  nearer_going : GoesOn n w v → w.done + n < long w.from t.to → 1 ≤ n → Nearer m q ts w v
  unfolding to_go
  nearer_going g h k =
      let d : todo ts v ≡ t ∷ us = ap (λ (b : ℕ). drop b ts) g.behind ∙ e in
      record { caps = rw d c; less = rw (d, e, g.from, g.done) (omega arith) }

  nearer_ended : (a : ℕ) → EndsLine a n t.to w v → w.done < max 1 (long w.from t.to) → Nearer m q ts w v
  unfolding to_go Caps
  nearer_ended a g k =
      let d : todo ts v ≡ us = ap (λ (b : ℕ). drop b ts) g.behind ∙ next_todo ts w.behind t us e in
      record { caps = rw d c.1; less = rw (d, e, g.from, g.done) (omega arith) }

module _ (m : Machine) (p : Place) (ts : List Target) (fit : 1 ≤ m.change) where
  nearer : (q : Panel) (w : Motion) → CanStop m.change w (todo ts w) → Caps m q (todo ts w) → Nearer m q ts w (tick m q ts w)
  unfolding Caps to_go
  nearer q w s c = by (todo ts w) refl s c
    where
      by : (xs : List Target) → todo ts w ≡ xs → CanStop m.change w xs → Caps m q xs → Nearer m q ts w (tick m q ts w)
      by [] e s c = rw (none m q ts w e) (record { caps = rw e tt; less = rw e (omega arith) })
      by (t ∷ us) e s c =
          ⊎_elim
          (λ g. nearer_going m q ts w (tick m q ts w) t us _ e c g.0 g.1 ((next_of m q ts w fit t us e s).moves c.0 (omega (arith, g.1))))
          (λ g. nearer_ended m q ts w (tick m q ts w) t us _ e c m.change g s.1) (ends_or_goes m q ts w fit t us e s)

  at_last : (w : Motion) → Safe m p ts w → to_go w.from w.done (todo ts w) ≤ 0 → Arrived p ts w
  unfolding to_go stands
  at_last w s le = by (todo ts w) refl s.stop le
    where
      by : (xs : List Target) → todo ts w ≡ xs → CanStop m.change w xs → to_go w.from w.done xs ≤ 0 → Arrived p ts w
      by [] e c le =
          let b : w.behind ≡ length ts = omega (arith, none_left ts w.behind e, s.few) in
          record { all = b; there = begins w (todo ts w) c.0 ∙ s.began ∙ ap (start_of p ts) b; still = c.1 }
      by (t ∷ us) e c le = absurd (omega arith)

  pub arrives : (n : ℕ) (w : Work) → Safe m p ts w.motion → Caps m w.panel (todo ts w.motion)
      → to_go w.motion.from w.motion.done (todo ts w.motion) ≤ n → Arrived p ts (row m ts (ticks n) w).motion
  unfolding row ticks
  arrives zero w s c le = at_last w.motion s le
  arrives (suc n) w s c le =
      let k = nearer w.panel w.motion s.stop c in
      subst (λ (x : Work). Arrived p ts x.motion) (sym (tick_first m ts n w))
      (arrives n (happens m ts Tick w) (safe_tick m p ts fit w.panel w.motion s) k.caps (omega (arith, k.less)))
