-- A loaded control's numbers are taken, and say its work.
use Rattle.std.proofs.Common.{◌≡◌, ℕ, suc, ◌*◌, ◌/◌, ◌≤◌, min, max, Bool, true, false, cond, eqb, List, [], ◌∷◌, length, pos, None, sym, refl, ap, subst, ⊎_elim, arith}
use Rattle.std.proofs.lemmas.Nat.{mul-le, div_below}
use Rattle.std.proofs.lemmas.Bool.Decides.{nat_tests}
use Rattle.geometry.specs.Places.{Within}
use Rattle.program.specs.declared.target.Target.{Target}
use Rattle.work.specs.declared.machine.Machine.{Machine}
use Rattle.work.specs.declared.motion.Motion.{Motion}
use Rattle.work.specs.declared.panel.Panel.{Panel}
use Rattle.work.specs.declared.work.Work.{Work}
use Rattle.work.specs.declared.event.Event.{Event}
use Rattle.work.specs.declared.event.Event.TheVariants.{Tick, Hold, Go, Knob}
use Rattle.work.specs.Works.{limit, todo, happens, row, after}
use Rattle.work.specs.Promises.{cap_now, made, Moved, Ticked}
use Rattle.work.proofs.Safety.{Safe, safe_after}
use Rattle.work.proofs.Ticks.{ticked}
use Rattle.control.specs.Controls.{fit, near, origin, Reached}
use Rattle.control.proofs.Bounds.{range, from_near, steps_near}
use Rattle.entry.specs.Entries.{targets_in, work_in, memory_of, sound, refusal_of}
use Rattle.entry.specs.Agreement.{flat, Agrees}

said : (ts : List Target) → targets_in (flat ts) ≡ ts
unfolding targets_in flat
said [] = refl
said (t ∷ ts) = ap (λ (us : List Target). t ∷ us) (said ts)

long_flat : (ts : List Target) → length (flat ts) ≡ 3 * length ts
unfolding flat
long_flat [] = refl
long_flat (t ∷ ts) = let h : length (flat ts) ≡ 3 * length ts = long_flat ts in omega arith

flag : (b : Bool) → eqb (cond b 1 0) 1 ≡ b
flag true = refl
flag false = refl

remembered : (w : Work) → work_in (memory_of w) ≡ w
remembered w = λ i. record { motion = w.motion; panel = record { held = flag w.panel.held i; percent = w.panel.percent } }

-- a cap is never above the top speed, so nor is a speed that a row of events leads to
record Tame (m : Machine) (w : Work) : Type 0 where
  slow : w.motion.speed ≤ m.top
  part : w.panel.percent ≤ 100

limit_top : (m : Machine) (q : Panel) (f : ℕ) → q.percent ≤ 100 → limit m q f ≤ m.top
limit_top m q f h = by q.held
  where
    by : (b : Bool) → cond b 0 (min m.top f * q.percent / 100) ≤ m.top
    by true = omega arith
    by false = omega (arith, div_below (min m.top f * q.percent) 100 (suc m.top) (omega arith) (omega (arith, mul-le (min m.top f) q.percent m.top 100 (omega arith) h)))

cap_top : (m : Machine) (q : Panel) (xs : List Target) → q.percent ≤ 100 → cap_now m q xs ≤ m.top
cap_top m q [] h = omega arith
cap_top m q (t ∷ us) h = limit_top m q t.fast h

tick_slow : (m : Machine) (q : Panel) (ts : List Target) (w v : Motion) → w.speed ≤ m.top → q.percent ≤ 100 → Ticked m q ts w v → v.speed ≤ m.top
tick_slow m q ts w v s h t = by (todo ts w) (cap_top m q (todo ts w) h) t.few t.moved
  where
    by : (xs : List Target) → cap_now m q xs ≤ m.top → made m q w xs ≤ max (cap_now m q xs) w.speed → Moved m q w v xs → v.speed ≤ m.top
    by [] c f e = rw e s
    by (t ∷ us) c f e = ⊎_elim (λ g. omega (arith, g.speed, f, c, s)) (λ g. omega (arith, g.speed)) e

tame_after : (m : Machine) (ts : List Target) → 1 ≤ m.change → (es : List Event) → Tame m (after m ts origin es)
unfolding row
tame_after m ts f [] = record { slow = omega arith; part = omega arith }
tame_after m ts f (e ∷ es) = by e (tame_after m ts f es)
  where
    by : (e : Event) → Tame m (after m ts origin es) → Tame m (happens m ts e (after m ts origin es))
    by Tick t = record {
      slow = tick_slow m (after m ts origin es).panel ts (after m ts origin es).motion _ t.slow t.part
          (ticked m (after m ts origin es).panel ts (after m ts origin es).motion f (safe_after m origin ts f es).stop);
      part = t.part;
    }
    by Hold t = record { slow = t.slow; part = t.part }
    by Go t = record { slow = t.slow; part = t.part }
    by (Knob n) t = record { slow = t.slow; part = omega arith }

-- memory whose numbers are in range is sound
sound_memory : (w : Work) → w.motion.behind ≤ 2000000000 → Within 1000000000 w.motion.from → w.motion.done ≤ 2000000000
    → w.motion.speed ≤ 2000000000 → w.panel.percent ≤ 100 → sound (memory_of w) ≡ true
sound_memory w b f d v p = by w.panel.held
  where
    by : (h : Bool) → sound (pos w.motion.behind ∷ (w.motion.from.x ∷ (w.motion.from.y ∷ (pos w.motion.done ∷ (pos w.motion.speed ∷ (pos (cond h 1 0) ∷ (pos w.panel.percent ∷ []))))))) ≡ true
    by true = grind (arith, nat_tests)
    by false = grind (arith, nat_tests)

module _ (m : Machine) (ts : List Target) (w : Work) (f : fit m ≡ true) (h : near ts ≡ true) (r : Reached m ts w) (n : length ts ≤ 2000000000) where
  safe : Safe m origin ts w.motion
  safe = subst (λ (v : Work). Safe m origin ts v.motion) (sym r.is) (safe_after m origin ts (range m f).0 r.events)

  tame : Tame m w
  tame = subst (Tame m) (sym r.is) (tame_after m ts (range m f).0 r.events)

  kept_sound : sound (memory_of w) ≡ true
  kept_sound =
      sound_memory w (omega (arith, safe.few, n)) (from_near m ts w.motion f h safe) (steps_near m ts w.motion f h safe)
      (omega (arith, tame.slow, (range m f).2)) tame.part

  taken : (kind number : ℕ) → kind ≤ 3 → number ≤ 1000 → refusal_of m.change m.top (flat ts) (memory_of w) kind number ≡ None
  taken kind number k l = rw (said ts, h, kept_sound) (grind (arith, nat_tests, long_flat ts))

pub agrees : Agrees
agrees m ts w kind number r left f h o n k l d =
    rw (said ts, remembered w) at (rw (taken m ts w f h o n kind number k l) at d)
