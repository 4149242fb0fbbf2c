-- Fewest ticks: work goes along its line as the pace on numbers does, so no other run is there before it.
use Rattle.std.proofs.Common.{◌≡◌, ℕ, zero, suc, ◌+◌, ◌-◌, ◌<◌, ◌≤◌, ◌⊎◌, List, [], ◌∷◌, length, refl, ap, ◌∙◌, inl, inr, ⊎_elim, arith}
use Rattle.std.proofs.lemmas.Bool.{cases_lt}
use Rattle.geometry.specs.declared.place.Place.{Place}
use Rattle.program.specs.declared.target.Target.{Target}
use Rattle.line.specs.Lines.{long}
use Rattle.speed.specs.Speeds.{pace}
use Rattle.speed.specs.Laws.{Run}
use Rattle.speed.proofs.Race.{fewest as fewest_on_numbers}
use Rattle.work.specs.declared.machine.Machine.{Machine}
use Rattle.work.specs.declared.motion.Motion.{Motion}
use Rattle.work.specs.declared.panel.Panel.{Panel}
use Rattle.work.specs.declared.work.Work.{Work}
use Rattle.work.specs.Works.{limit, steps, todo, tick, row, ticks}
use Rattle.work.specs.Promises.{CanStop, Runs, ended, line}
use Rattle.work.proofs.Lists.{next_todo, none_left}
use Rattle.work.proofs.Ticks.{none, at_end, going, ending}
use Rattle.work.proofs.Safety.{Safe, safe_row}
use Rattle.work.proofs.Arrival.{ticks_add, panel_kept}

-- after n ticks: the line to t was ended after some j of them, or it is where the pace on numbers says
record Left (m : Machine) (ts : List Target) (w : Work) (t : Target) (n : ℕ) : Type 0 where
  when : ℕ
  early : when ≤ n
  is : (row m ts (ticks when) w).motion ≡ at_end w.motion t

abbrev paced : Machine → Work → Target → ℕ → Motion
paced m w t n = record {
  behind = w.motion.behind;
  from = w.motion.from;
  done = (pace m.change (limit m w.panel t.fast) (long w.motion.from t.to) w.motion.done w.motion.speed n).at;
  speed = (pace m.change (limit m w.panel t.fast) (long w.motion.from t.to) w.motion.done w.motion.speed n).speed;
}

record Still (m : Machine) (ts : List Target) (w : Work) (t : Target) (n : ℕ) : Type 0 where
  is : (row m ts (ticks n) w).motion ≡ paced m w t n
  before : (n ≡ 0) ⊎ ((paced m w t n).done < long w.motion.from t.to)

module _ (m : Machine) (ts : List Target) (w : Work) (t : Target) (us : List Target) (e : todo ts w.motion ≡ t ∷ us) where
  on : (n : ℕ) → Still m ts w t n → Left m ts w t (suc n) ⊎ Still m ts w t (suc n)
  unfolding row ticks pace
  on n s =
      let q : (row m ts (ticks n) w).panel ≡ w.panel = panel_kept m ts n w in
      let v : Motion = paced m w t n in
      let k : tick m (row m ts (ticks n) w).panel ts (row m ts (ticks n) w).motion ≡ tick m w.panel ts v = rw (q, s.is) in
      elim (cases_lt (v.done + steps m.change (limit m w.panel t.fast) v t) (long w.motion.from t.to)) [
        | inl h ↦ inr (record { is = k ∙ going m w.panel ts v t us e h; before = inr h })
        | inr h ↦ inl (record { when = suc n; early = omega arith; is = k ∙ ending m w.panel ts v t us e h })
      ]

  follows : (n : ℕ) → Left m ts w t n ⊎ Still m ts w t n
  unfolding row ticks pace
  follows zero = inr (record { is = refl; before = inl refl })
  follows (suc n) =
      ⊎_elim (λ g. inl (record { when = g.when; early = omega (arith, g.early); is = g.is })) (λ s. on n s) (follows n)

-- the targets behind it never get fewer
never_back : (m : Machine) (q : Panel) (ts : List Target) (w : Motion) → w.behind ≤ (tick m q ts w).behind
never_back m q ts w = by (todo ts w) refl
  where
    by : (xs : List Target) → todo ts w ≡ xs → w.behind ≤ (tick m q ts w).behind
    by [] e = rw (none m q ts w e) (omega arith)
    by (t ∷ us) e = elim (cases_lt (w.done + steps m.change (limit m q t.fast) w t) (long w.from t.to)) [
      | inl h ↦ rw (going m q ts w t us e h) (omega arith)
      | inr h ↦ rw (ending m q ts w t us e h) (omega arith)
    ]

onward : (m : Machine) (ts : List Target) (n : ℕ) (w : Work) → w.motion.behind ≤ (row m ts (ticks n) w).motion.behind
unfolding row ticks
onward m ts zero w = omega arith
onward m ts (suc n) w =
    let h : w.motion.behind ≤ (row m ts (ticks n) w).motion.behind = onward m ts n w in
    omega (arith, never_back m (row m ts (ticks n) w).panel ts (row m ts (ticks n) w).motion)

later : (m : Machine) (ts : List Target) (k n : ℕ) (w : Work) → k ≤ n → (row m ts (ticks k) w).motion.behind ≤ (row m ts (ticks n) w).motion.behind
later m ts k n w h =
    let a : n - k + k ≡ n = omega arith in
    let b : row m ts (ticks n) w ≡ row m ts (ticks (n - k)) (row m ts (ticks k) w) = rw a at (ticks_add m ts (n - k) k w) in
    rw b (onward m ts (n - k) (row m ts (ticks k) w))

module _ (m : Machine) (p : Place) (ts : List Target) (fit : 1 ≤ m.change) where
  in_time : (w : Work) → Safe m p ts w.motion → (t : Target) (us : List Target) (n u : ℕ) → todo ts w.motion ≡ t ∷ us → 1 ≤ n
      → Run m.change (limit m w.panel t.fast) w.motion.done w.motion.speed n (long w.motion.from t.to) u → u ≤ m.change
      → Left m ts w t n
  in_time w s t us n u e k r le =
      let c : CanStop m.change w.motion (t ∷ us) = rw e at s.stop in
      let z = fewest_on_numbers _ _ _ _ _ n u fit c.0 r le in
      ⊎_elim (λ g. g) (λ g. absurd (omega (arith, g.before, z))) (follows m ts w t us e n)

  pub fewest : (w : Work) → Safe m p ts w.motion → (t : Target) (us : List Target) (n u : ℕ) → todo ts w.motion ≡ t ∷ us → 1 ≤ n
      → Run m.change (limit m w.panel t.fast) w.motion.done w.motion.speed n (long w.motion.from t.to) u → u ≤ m.change
      → w.motion.behind < (row m ts (ticks n) w).motion.behind
  fewest w s t us n u e k r le =
      let g = in_time w s t us n u e k r le in omega (arith, later m ts g.when n w g.early, ap (λ (x : Motion). x.behind) g.is)

  -- every line ended in time, and no tick more is needed; more do no harm
  all_lines : (q : Panel) (o : Place) (x v : ℕ) (xs : List Target) (n : ℕ) → Runs m q o x v xs n → (w : Work) → Safe m p ts w.motion
      → w.panel ≡ q → w.motion.from ≡ o → w.motion.done ≡ x → w.motion.speed ≡ v → todo ts w.motion ≡ xs
      → length ts ≤ (row m ts (ticks n) w).motion.behind
  unfolding row ticks
  all_lines q o x v xs n (ended r y z) w s a b c d e = none_left ts w.motion.behind e
  all_lines q o x v xs n (line r y z t us i k u one run slow rest) w s a b c d e =
      let g = in_time w s t us i u e one (rw (a, b, c, d) run) slow in
      let w1 : Work = row m ts (ticks g.when) w in
      let f : w1.motion ≡ at_end w.motion t = g.is in
      let h = all_lines q t.to 0 0 us k rest w1 (safe_row m p ts fit (ticks g.when) w s) (panel_kept m ts g.when w ∙ a)
      (ap (λ (y : Motion). y.from) f) (ap (λ (y : Motion). y.done) f) (ap (λ (y : Motion). y.speed) f)
      (ap (λ (y : Motion). todo ts y) f ∙ next_todo ts w.motion.behind t us e) in
      let j : row m ts (ticks (k + g.when)) w ≡ row m ts (ticks k) w1 = ticks_add m ts k g.when w in
      omega (arith, h, ap (λ (y : Work). y.motion.behind) j, later m ts (k + g.when) (i + k) w (omega (arith, g.early)))

  pub fewest_of_all : (w : Work) → Safe m p ts w.motion → (n : ℕ)
      → Runs m w.panel w.motion.from w.motion.done w.motion.speed (todo ts w.motion) n
      → (row m ts (ticks n) w).motion.behind ≡ length ts
  fewest_of_all w s n r =
      omega (arith, all_lines w.panel _ _ _ _ n r w s refl refl refl refl refl, (safe_row m p ts fit (ticks n) w s).few)
