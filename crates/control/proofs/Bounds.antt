-- What the code's sums and products ask for, of every state that a row of events leads to.
use Rattle.std.proofs.Common.{◌≡◌, ℕ, zero, suc, ◌+◌, ◌*◌, ◌^◌, ◌<◌, ◌≤◌, true, List, [], ◌∷◌, ◌++◌, length, drop, sym, refl, ap, ◌∙◌, subst, arith}
use Rattle.std.proofs.lemmas.Int.{ints}
use Rattle.std.proofs.lemmas.List.{drop-append-le}
use Rattle.std.proofs.lemmas.List.Folds.{list_all-append}
use Rattle.std.proofs.lemmas.Bool.{and_parts}
use Rattle.std.proofs.lemmas.Bool.Decides.{nat_tests}
use Rattle.geometry.proofs.Acts.{within_true}
use Rattle.geometry.specs.declared.place.Place.{Place}
use Rattle.geometry.specs.Places.{within, Within}
use Rattle.program.specs.declared.target.Target.{Target}
use Rattle.line.specs.Lines.{long}
use Rattle.line.proofs.Walk.{long_within, strays}
use Rattle.speed.proofs.Stopping.{slows}
use Rattle.work.specs.declared.machine.Machine.{Machine}
use Rattle.work.specs.declared.motion.Motion.{Motion}
use Rattle.work.specs.Works.{todo, stands, place}
use Rattle.work.specs.Promises.{start_of, CanStop}
use Rattle.work.specs.Ranges.{NearLine, Slow}
use Rattle.work.proofs.Lists.{some_left}
use Rattle.work.proofs.Safety.{Safe}
use Rattle.work.proofs.Ticks.{begins}
use Rattle.control.specs.Controls.{fit, near, origin}

pub near_in : (ts : List Target) (b : ℕ) (t : Target) (us : List Target) → near ts ≡ true → drop b ts ≡ t ∷ us → Within 1000000000 t.to
near_in [] zero t us h e = cc
near_in [] (suc b) t us h e = cc
near_in (x ∷ ts) zero t us h e = let f : x ≡ t = cc in subst (λ (y : Target). Within 1000000000 y.to) f (within_true 1000000000 x.to (and_parts _ _ h).0)
near_in (x ∷ ts) (suc b) t us h e = near_in ts b t us (and_parts _ _ h).1 e

pub near_start : (p : Place) (ts : List Target) (k : ℕ) → near ts ≡ true → Within 1000000000 p → Within 1000000000 (start_of p ts k)
unfolding start_of
near_start p ts zero h w = w
near_start p [] (suc k) h w = w
near_start p (t ∷ ts) (suc k) h w = near_start t.to ts k (and_parts _ _ h).1 (within_true 1000000000 t.to (and_parts _ _ h).0)

pub near_push : (ts : List Target) (t : Target) → near ts ≡ true → within 1000000000 t.to ≡ true → near (ts ++ t ∷ []) ≡ true
near_push ts t h k = simp (list_all-append, h, k)

-- along more targets it stands where it stood
pub place_more : (m : Machine) (ts us : List Target) (w : Motion) → Safe m origin ts w → place ts w ≡ place (ts ++ us) w
unfolding stands
place_more m ts us w s = by (todo ts w) refl
  where
    more : todo (ts ++ us) w ≡ todo ts w ++ us
    more = drop-append-le w.behind ts us s.few

    by : (xs : List Target) → todo ts w ≡ xs → place ts w ≡ place (ts ++ us) w
    by [] i =
        let c : CanStop m.change w [] = rw i at s.stop in
        ap (stands w) i ∙ sym (ap (stands w) (more ∙ ap (λ (ys : List Target). ys ++ us) i) ∙ begins w us c.0)
    by (t ∷ xs) i = ap (stands w) i ∙ sym (ap (stands w) (more ∙ ap (λ (ys : List Target). ys ++ us) i))

-- a line that began near, and so many steps of it: the place is not far from 0, 0
pub record Placed (w : Motion) : Type 0 where
  pub begins : Within 1000000000 w.from
  pub short : w.done ≤ 2000000000

pub place_near : (ts : List Target) (w : Motion) → Placed w → Within 4000000000 (place ts w)
unfolding stands
place_near ts w p = by (todo ts w)
  where
    by : (xs : List Target) → Within 4000000000 (stands w xs)
    by [] = record { across = omega (arith, p.begins.across); along = omega (arith, p.begins.along) }
    by (t ∷ us) =
        let k = strays w.from t.to w.done in
        record { across = omega (arith, ints, k.0, p.begins.across, p.short); along = omega (arith, ints, k.1, p.begins.along, p.short) }

pub range : (m : Machine) → fit m ≡ true → (1 ≤ m.change) × (m.change ≤ 1000000) × (m.top ≤ 1000000)
range m f = (grind (arith, nat_tests), grind (arith, nat_tests), grind (arith, nat_tests))

module _ (m : Machine) (ts : List Target) (w : Motion) (f : fit m ≡ true) (h : near ts ≡ true) (s : Safe m origin ts w) where
  pub from_near : Within 1000000000 w.from
  from_near = rw s.began (near_start origin ts w.behind h (record { across = omega arith; along = omega arith }))

  on_the_way : (t : Target) (us : List Target) → todo ts w ≡ t ∷ us → NearLine w t × (w.speed + m.change < 2 ^ 32)
  on_the_way t us e =
      let c : CanStop m.change w (t ∷ us) = rw e at s.stop in
      let n : Within 1000000000 t.to = near_in ts w.behind t us h e in
      let l : long w.from t.to ≤ 2 * 1000000000 = long_within 1000000000 w.from t.to from_near n in
      (record { begins = from_near; ends = n; short = omega arith }, omega (arith, slows m.change w.speed (range m f).0, (range m f).1))

  pub steps_near : w.done ≤ 2000000000
  steps_near = by (todo ts w) refl
    where
      by : (xs : List Target) → todo ts w ≡ xs → w.done ≤ 2000000000
      by [] i = let c : CanStop m.change w [] = rw i at s.stop in omega (arith, c.0)
      by (t ∷ us) i = (on_the_way t us i).0.short

  pub near_first : (t : Target) (us : List Target) → todo ts w ≡ t ∷ us → NearLine w t
  near_first t us e = (on_the_way t us e).0

  pub slow_first : length ts < 2 ^ 64 → (t : Target) (us : List Target) → todo ts w ≡ t ∷ us → Slow m w
  slow_first k t us e =
      let z = on_the_way t us e in
      record {
        small = record { changes = (range m f).0; slow = z.1; short = omega (arith, z.0.short); few = omega (arith, some_left ts w.behind t us e) };
        top = omega (arith, (range m f).2);
      }

  pub placed : Placed w
  placed = record { begins = from_near; short = steps_near }
