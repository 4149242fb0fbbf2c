-- One tick: the only file that opens what a tick does.
use Rattle.std.proofs.Common.{◌≡◌, ℕ, suc, ◌+◌, ◌-◌, ◌<◌, ◌≤◌, ◌⊎◌, List, [], ◌∷◌, sym, refl, ap, ◌∙◌, inl, inr, ⊎_elim, arith, eq-eqb, ne_eqb, le-leb}
use Rattle.std.proofs.lemmas.Int.{ints}
use Rattle.std.proofs.lemmas.Bool.{cases_lt, lt-leb}
use Rattle.program.specs.declared.target.Target.{Target}
use Rattle.line.specs.Lines.{long, on_line}
use Rattle.line.proofs.Walk.{starts, ends, steps as walks}
use Rattle.speed.specs.Speeds.{stopping}
use Rattle.speed.specs.Laws.{Next}
use Rattle.speed.proofs.Stopping.{slows}
use Rattle.speed.proofs.Fastest.{next}
use Rattle.work.specs.declared.machine.Machine.{Machine}
use Rattle.work.specs.declared.motion.Motion.{Motion}
use Rattle.work.specs.declared.panel.Panel.{Panel}
use Rattle.work.specs.Works.{limit, steps, todo, toward, tick, stands, after_tick, place}
use Rattle.work.specs.Promises.{CanStop, GoesOn, EndsLine, Moved, Ticked}

-- where a tick leads: on along its line, or to its end
abbrev pub gone_on : Motion → (n : ℕ) → Motion
gone_on w n = record { behind = w.behind; from = w.from; done = w.done + n; speed = n }

abbrev pub at_end : Motion → Target → Motion
at_end w t = record { behind = suc w.behind; from = t.to; done = 0; speed = 0 }

-- where a line has just begun, it stands at its beginning
pub begins : (w : Motion) (xs : List Target) → w.done ≡ 0 → stands w xs ≡ w.from
unfolding stands
begins w [] e = refl
begins w (t ∷ us) e = ap (on_line w.from t.to) e ∙ starts w.from t.to

module _ (m : Machine) (q : Panel) (ts : List Target) (w : Motion) where
  pub none : todo ts w ≡ [] → tick m q ts w ≡ w
  unfolding toward
  none e = ap (toward m q w) e

  module _ (t : Target) (us : List Target) (e : todo ts w ≡ t ∷ us) where
    pub going : w.done + steps m.change (limit m q t.fast) w t < long w.from t.to → tick m q ts w ≡ gone_on w (steps m.change (limit m q t.fast) w t)
    unfolding toward
    going h = ap (toward m q w) e ∙ rw (lt-leb _ _ h)

    pub ending : long w.from t.to ≤ w.done + steps m.change (limit m q t.fast) w t → tick m q ts w ≡ at_end w t
    unfolding toward
    ending h = ap (toward m q w) e ∙ rw (le-leb _ _ h)

    pub lands_after : after_tick (tick m q ts w) w.behind t ≡ place ts (tick m q ts w)
    unfolding stands
    lands_after = elim (cases_lt (w.done + steps m.change (limit m q t.fast) w t) (long w.from t.to)) [
      | inl h ↦ rw (going h, eq-eqb w.behind w.behind refl) (sym (ap (stands (gone_on w (steps m.change (limit m q t.fast) w t))) e))
      | inr h ↦ rw (ending h, ne_eqb (suc w.behind) w.behind (omega arith)) (sym (begins (at_end w t) (todo ts (at_end w t)) refl))
    ]

-- a tick on the way to t, with n its steps, from where it can stop
module _ (m : Machine) (q : Panel) (ts : List Target) (w : Motion) (p : 1 ≤ m.change) (t : Target) (us : List Target) (e : todo ts w ≡ t ∷ us) (s : CanStop m.change w (t ∷ us)) where
  abbrev n : ℕ
  n = steps m.change (limit m q t.fast) w t

  abbrev l : ℕ
  l = long w.from t.to

  pub next_of : Next m.change (limit m q t.fast) (l - w.done) w.speed n
  next_of = next m.change (limit m q t.fast) (l - w.done) w.speed p (omega arith)

  pub fitting : w.done + n + stopping m.change n ≤ l
  fitting = omega (arith, next_of.fits)

  pub within : w.done + n ≤ l
  within = omega (arith, fitting)

  pub ends_or_goes : (GoesOn n w (tick m q ts w) × (w.done + n < l)) ⊎ EndsLine m.change n t.to w (tick m q ts w)
  ends_or_goes = elim (cases_lt (w.done + n) l) [
    | inl h ↦ inl (rw (going m q ts w t us e h) (record { behind = refl; from = refl; done = refl; speed = refl }), h)
    | inr h ↦ inr (rw (ending m q ts w t us e h) (record { behind = refl; from = refl; done = refl; speed = refl; rest = omega (arith, within); slow = omega (arith, fitting, slows m.change n p) }))
  ]

  pub lands : place ts (tick m q ts w) ≡ on_line w.from t.to (w.done + n)
  unfolding stands
  lands = elim (cases_lt (w.done + n) l) [
    | inl h ↦ rw (going m q ts w t us e h) (ap (stands (gone_on w n)) e)
    | inr h ↦ rw (ending m q ts w t us e h) (begins (at_end w t) (todo ts (at_end w t)) refl ∙ sym (ends w.from t.to) ∙ ap (on_line w.from t.to) (omega (arith, within)))
  ]

  pub leaves : place ts w ≡ on_line w.from t.to w.done
  unfolding stands
  leaves = ap (stands w) e

  moved_by : Moved m q w (tick m q ts w) (t ∷ us)
  moved_by = ⊎_elim (λ g. inl g.0) (λ g. inr g) ends_or_goes

  pub ticked_on : Ticked m q ts w (tick m q ts w)
  ticked_on = record {
    up = rw e next_of.up;
    down = rw e next_of.down;
    capped = rw e next_of.capped;
    moved = rw e (rw e at moved_by);
    across = rw (lands, leaves, e) (walks w.from t.to w.done n within).0;
    along = rw (lands, leaves, e) (walks w.from t.to w.done n within).1;
    few = rw e (omega (arith, next_of.capped));
  }

-- with no target left nothing moves
ticked_none : (m : Machine) (q : Panel) (ts : List Target) (w : Motion) → todo ts w ≡ [] → w.speed ≡ 0 → Ticked m q ts w (tick m q ts w)
ticked_none m q ts w e z =
    let f : tick m q ts w ≡ w = none m q ts w e in
    record {
      up = rw e (omega arith);
      down = rw e (omega arith);
      capped = rw e (inl (omega arith));
      moved = rw e (rw e at f);
      across = rw (f, e) (omega (arith, ints));
      along = rw (f, e) (omega (arith, ints));
      few = rw e (omega arith);
    }

pub ticked : (m : Machine) (q : Panel) (ts : List Target) (w : Motion) → 1 ≤ m.change → CanStop m.change w (todo ts w) → Ticked m q ts w (tick m q ts w)
ticked m q ts w p s = by (todo ts w) refl s
  where
    by : (xs : List Target) → todo ts w ≡ xs → CanStop m.change w xs → Ticked m q ts w (tick m q ts w)
    by [] e s = ticked_none m q ts w e s.1
    by (t ∷ us) e s = ticked_on m q ts w p t us e s
