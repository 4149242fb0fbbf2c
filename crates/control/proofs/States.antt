-- The same of a loaded control, whose invariant says how its state came about.
use Rattle.std.proofs.Common.{◌≡◌, ℕ, ◌^◌, ◌<◌, ◌≤◌, Bool, true, false, cond, ◌⊎◌, List, [], ◌∷◌, ◌++◌, length, drop, Ok, sym, refl, ap, ◌∙◌, subst, inl, inr, ⊎_elim, arith, drop_of_length-le}
use Rattle.std.proofs.lemmas.List.{drop-append-le}
use Rattle.geometry.specs.declared.place.Place.{Place}
use Rattle.geometry.specs.Places.{within, Within}
use Rattle.program.specs.declared.target.Target.{Target}
use Rattle.work.specs.declared.machine.Machine.{Machine}
use Rattle.work.specs.declared.work.Work.{Work}
use Rattle.work.specs.declared.event.Event.{Event}
use Rattle.work.specs.declared.event.Event.TheVariants.{Tick, Hold, Go, Knob}
use Rattle.work.specs.Works.{todo, toward, does, happens, row, begun, after, after_tick, place}
use Rattle.work.specs.Promises.{Promise}
use Rattle.work.specs.Ranges.{NearLine, Slow}
use Rattle.work.proofs.Promise.{of_safe, kept}
use Rattle.work.proofs.Ticks.{begins, lands_after}
use Rattle.work.proofs.Safety.{Safe, safe_after}
use Rattle.pulses.specs.declared.Pulses.{Pulses}
use Rattle.pulses.specs.Motors.{between, pulses}
use Rattle.control.specs.Controls.{in_range, machine_of, near, fit, origin, Reached, State, IsLoaded, Loaded, Happened, Few}
use Rattle.control.proofs.Bounds as bounds

safe : (m : Machine) (ts : List Target) (w : Work) → fit m ≡ true → Reached m ts w → Safe m origin ts w.motion
safe m ts w f r = subst (λ (v : Work). Safe m origin ts v.motion) (sym r.is) (safe_after m origin ts (bounds.range m f).0 r.events)

-- an event more
reached_on : (m : Machine) (ts : List Target) (w v : Work) (e : Event) → Reached m ts w → v ≡ happens m ts e w → Reached m ts v
unfolding row
reached_on m ts w v e k h = record { events = e ∷ k.events; is = h ∙ ap (happens m ts e) k.is }

-- along more targets an event does the same, but for a tick where none was left: that one changed nothing
one_more : (m : Machine) (ts us : List Target) (e : Event) (w : Work) → w.motion.behind ≤ length ts
    → (happens m ts e w ≡ w) ⊎ (happens m ts e w ≡ happens m (ts ++ us) e w)
unfolding toward
one_more m ts us Hold w h = inr refl
one_more m ts us Go w h = inr refl
one_more m ts us (Knob n) w h = inr refl
one_more m ts us Tick w h = by (todo ts w.motion) refl
  where
    by : (xs : List Target) → todo ts w.motion ≡ xs → (happens m ts Tick w ≡ w) ⊎ (happens m ts Tick w ≡ happens m (ts ++ us) Tick w)
    by [] i = inl (ap (λ (xs : List Target). does m xs Tick w) i)
    by (t ∷ xs) i = inr (
        ap (λ (ys : List Target). does m ys Tick w) i
        ∙ sym (ap (λ (ys : List Target). does m ys Tick w) (drop-append-le w.motion.behind ts us h ∙ ap (λ (ys : List Target). ys ++ us) i)))

more_row : (m : Machine) (ts us : List Target) → 1 ≤ m.change → (es : List Event) → Reached m (ts ++ us) (after m ts origin es)
unfolding row
more_row m ts us f [] = record { events = []; is = refl }
more_row m ts us f (e ∷ es) =
    let k = more_row m ts us f es in
    ⊎_elim (λ h. record { events = k.events; is = h ∙ k.is }) (λ h. record { events = e ∷ k.events; is = h ∙ ap (happens m (ts ++ us) e) k.is })
    (one_more m ts us e (after m ts origin es) (safe_after m origin ts f es).few)

reached_more : (m : Machine) (ts us : List Target) (w : Work) → fit m ≡ true → Reached m ts w → Reached m (ts ++ us) w
reached_more m ts us w f k = subst (Reached m (ts ++ us)) (sym k.is) (more_row m ts us (bounds.range m f).0 k.events)

-- the beginning, and a machine that passed its checks
pub begins_there : (ts : List Target) (w : Work) → w ≡ begun origin → origin ≡ place ts w.motion
begins_there ts w e = sym (ap (λ (v : Work). place ts v.motion) e ∙ begins (begun origin).motion ts refl)

pub reached_first : (m : Machine) (ts : List Target) (w : Work) → w ≡ begun origin → Reached m ts w
unfolding row
reached_first m ts w e = record { events = []; is = e }

-- a machine that is taken
pub record Taken (a t : ℕ) (m : Machine) : Type 0 where
  pub is : m ≡ record { change = a; top = t }
  pub changes : in_range a ≡ true
  pub moves : in_range t ≡ true

pub taken : (a t : ℕ) (m : Machine) → Ok m ≡ machine_of a t → Taken a t m
taken a t m e = record { is = grind arith; changes = grind arith; moves = grind arith }

pub fit_of : (a t : ℕ) (m : Machine) → Ok m ≡ machine_of a t → fit m ≡ true
fit_of a t m e = let k = taken a t m e in rw (k.is, k.changes, k.moves)

-- a control at the beginning
pub loaded_first : (a t : ℕ) (m : Machine) → Ok m ≡ machine_of a t → (ts : List Target) → near ts ≡ true → length ts < 2 ^ 63 → (w : Work) → w ≡ begun origin → IsLoaded m ts w origin
loaded_first a t m e ts n l w b = record { fits = fit_of a t m e; close = n; few = l; reached = reached_first m ts w b; stood = begins_there ts w b }

abbrev state : Machine → List Target → Work → State
state m ts w = record { machine = m; targets = ts; work = w }

module _ {m : Machine} {ts : List Target} {w : Work} {p : Place} (k : IsLoaded m ts w p) where
  held_safe : Safe m origin ts w.motion
  held_safe = safe m ts w k.fits k.reached

  pub near_at : Within 4000000000 p
  near_at = rw k.stood (bounds.place_near ts w.motion (bounds.placed m ts w.motion k.fits k.close held_safe))

  pub promised : Promise m origin ts w
  promised = of_safe m origin ts w (bounds.range m k.fits).0 held_safe

  -- as callers see it, at the place where its work is
  pub seen : Loaded (state m ts w)
  seen = record { fits = k.fits; close = k.close; few = k.few; reached = k.reached; stood = refl }

  -- what an event leaves, at the place where it leads
  pub loaded : (e : Event) (v : Work) (q : Place) → v ≡ happens m ts e w → q ≡ place ts v.motion → IsLoaded m ts v q
  loaded e v q h i = record { fits = k.fits; close = k.close; few = k.few; reached = reached_on m ts w v e k.reached h; stood = i }

  -- one that is no tick leaves the place as it was
  pub loaded_still : (e : Event) (v : Work) → (e ≡ Tick → ⊥) → v ≡ happens m ts e w → IsLoaded m ts v p
  loaded_still e v n h = loaded e v p h (k.stood ∙ ap (place ts) (sym (ap (λ (u : Work). u.motion) h ∙ kept m ts w e n)))

module _ {m : Machine} {ts : List Target} {w : Work} {p : Place} (k : IsLoaded m ts w p) where
  pub happened : (e : Event) (v : Work) → v ≡ happens m ts e w → Happened (state m ts w) e (state m ts v)
  happened e v h =
      let l = loaded k e v (place ts v.motion) h refl in
      record { machine = refl; targets = refl; work = h; promise = promised l; loaded = l; near = near_at l }

  -- a tick's pulses, from the places before and after it
  pub gives : (v : Work) (q : Place) (d : Pulses) → v ≡ happens m ts Tick w → q ≡ place ts v.motion → d ≡ between p q → d ≡ pulses m ts Tick w
  gives v q d h i j = j ∙ rw (k.stood, i, h)

  pub gives_few : (d : Pulses) → d ≡ pulses m ts Tick w → Few (state m ts w) d
  gives_few d e = let t = (promised k).ticked in rw e (record { across = omega (arith, t.across, t.few); along = omega (arith, t.along, t.few) })

  -- an event at the panel does not look at the targets
  pub turned : (e : Event) (v : Work) → (e ≡ Tick → ⊥) → v ≡ does m [] e w → v ≡ happens m ts e w
  turned Tick v n h = absurd (n refl)
  turned Hold v n h = h
  turned Go v n h = h
  turned (Knob x) v n h = h

  -- a target more, or none for want of memory: it stands where it stood
  stays : (us : List Target) → place ts w.motion ≡ place (ts ++ us) w.motion
  stays us = bounds.place_more m ts us w.motion (held_safe k)

  pub pushed : (t : Target) (b : Bool) (us : List Target) → within 1000000000 t.to ≡ true → us ≡ cond b (ts ++ t ∷ []) ts → length us < 2 ^ 63 → IsLoaded m us w p
  pushed t true us n e l = rw e (record {
    fits = k.fits;
    close = bounds.near_push ts t k.close n;
    few = rw e at l;
    reached = reached_more m ts (t ∷ []) w k.fits k.reached;
    stood = k.stood ∙ stays (t ∷ []);
  })
  pushed t false us n e l = rw e k

  -- a tick toward t, the first of the targets still to go
  module _ (t : Target) (us : List Target) (e : todo ts w.motion ≡ t ∷ us) where
    pub slow_toward : Slow m w.motion
    slow_toward = bounds.slow_first m ts w.motion k.fits k.close (held_safe k) (omega (arith, k.few)) t us e

    module _ (v : Work) (h : v ≡ does m (t ∷ []) Tick w) where
      pub ticks : v ≡ happens m ts Tick w
      unfolding toward
      ticks = h ∙ sym (ap (λ (xs : List Target). does m xs Tick w) e)

      pub near_toward : v.motion.behind ≡ w.motion.behind → NearLine v.motion t
      near_toward j = bounds.near_first m ts v.motion k.fits k.close (held_safe (loaded k Tick v (place ts v.motion) ticks refl)) t us (ap (λ (b : ℕ). drop b ts) j ∙ e)

      pub loaded_on : (q : Place) → q ≡ after_tick v.motion w.motion.behind t → IsLoaded m ts v q
      loaded_on q j = loaded k Tick v q ticks (
          j ∙ ap (λ (u : Work). after_tick u.motion w.motion.behind t) ticks
          ∙ lands_after m w.panel ts w.motion t us e ∙ sym (ap (λ (u : Work). place ts u.motion) ticks))

  -- with none left a tick does nothing
  pub idles : length ts ≤ w.motion.behind → w ≡ happens m ts Tick w
  unfolding toward
  idles i = sym (ap (λ (xs : List Target). does m xs Tick w) (drop_of_length-le ts i))
