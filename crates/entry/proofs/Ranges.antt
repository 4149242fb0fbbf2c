-- Numbers that passed the checks stay in the ranges that the code asks for, through one event.
use Rattle.std.proofs.Common.{◌≡◌, ◌+◌, ◌-◌, ◌*◌, ◌^◌, ◌<◌, ◌≤◌, true, List, [], ◌∷◌, Option, slice_get, Some, None, sym, refl, ◌∙◌, subst, inl, inr, arith}
use Rattle.std.proofs.lemmas.Bool.{cases_lt}
use Rattle.geometry.specs.Places.{Within}
use Rattle.program.specs.declared.target.Target.{Target}
use Rattle.line.specs.Lines.{long}
use Rattle.line.proofs.Walk.{long_within}
use Rattle.speed.proofs.Fastest.{no_more}
use Rattle.work.specs.declared.machine.Machine.{Machine}
use Rattle.work.specs.declared.motion.Motion.{Motion}
use Rattle.work.specs.declared.panel.Panel.{Panel}
use Rattle.work.specs.declared.work.Work.{Work}
use Rattle.work.specs.declared.event.Event.{Event}
use Rattle.work.specs.declared.event.Event.TheVariants.{Tick, Hold, Go, Knob}
use Rattle.work.specs.Works.{limit, steps, todo, tick, happens, place}
use Rattle.work.specs.Ranges.{Near, Ready}
use Rattle.work.proofs.Ticks.{none, going, ending}
use Rattle.control.specs.Controls.{near}
use Rattle.control.proofs.Bounds.{Placed, place_near, near_in, range}
use Rattle.entry.specs.Entries.{InRange}
use Rattle.entry.proofs.First.{first, next_first}

near_next : (ts : List Target) (w : Motion) (next : Option Target) → near ts ≡ true → Placed w → next ≡ slice_get ts w.behind → Near w next
near_next ts w next h p e = subst (Near w) (sym (e ∙ next_first ts w.behind)) (by (todo ts w) refl)
  where
    by : (xs : List Target) → todo ts w ≡ xs → Near w (first xs)
    by [] i = tt
    by (t ∷ us) i = record { begins = p.begins; ends = near_in ts w.behind t us h i; short = p.short }

-- memory's numbers, after an event
record Kept (w : Motion) : Type 0 where
  placed : Placed w
  few : w.behind ≤ 2000000001
  slow : w.speed ≤ 2001000000

module _ (m : Machine) (ts : List Target) (w : Work) (r : InRange m ts w) where
  placed : Placed w.motion
  placed = record { begins = r.begins; short = r.short }

  pub first_near : (next : Option Target) → next ≡ slice_get ts w.motion.behind → Near w.motion next
  first_near next e = near_next ts w.motion next r.close placed e

  pub ready_next : (next : Option Target) → Ready m w.motion next
  ready_next None = tt
  ready_next (Some t) = record {
    small = record {
      changes = (range m r.fits).0;
      slow = omega (arith, r.slow, (range m r.fits).1);
      short = omega (arith, r.short);
      few = omega (arith, r.few);
    };
    top = omega (arith, (range m r.fits).2);
  }

  kept_tick : (q : Panel) → Kept (tick m q ts w.motion)
  kept_tick q = by (todo ts w.motion) refl
    where
      by : (xs : List Target) → todo ts w.motion ≡ xs → Kept (tick m q ts w.motion)
      by [] e = rw (none m q ts w.motion e) (record { placed = placed; few = omega (arith, r.few); slow = omega (arith, r.slow) })
      by (t ∷ us) e =
          let n : Within 1000000000 t.to = near_in ts w.motion.behind t us r.close e in
          let l : long w.motion.from t.to ≤ 2 * 1000000000 = long_within 1000000000 w.motion.from t.to r.begins n in
          let u = no_more m.change (limit m q t.fast) (long w.motion.from t.to - w.motion.done) w.motion.speed (range m r.fits).0 in
          elim (cases_lt (w.motion.done + steps m.change (limit m q t.fast) w.motion t) (long w.motion.from t.to)) [
            | inl h ↦ rw (going m q ts w.motion t us e h) (record {
              placed = record { begins = r.begins; short = omega arith };
              few = omega (arith, r.few);
              slow = omega (arith, u, r.slow, (range m r.fits).1);
            })
            | inr h ↦ rw (ending m q ts w.motion t us e h) (record { placed = record { begins = n; short = omega arith }; few = omega (arith, r.few); slow = omega arith })
          ]

  kept : (e : Event) → Kept (happens m ts e w).motion
  kept Tick = kept_tick w.panel
  kept Hold = record { placed = placed; few = omega (arith, r.few); slow = omega (arith, r.slow) }
  kept Go = record { placed = placed; few = omega (arith, r.few); slow = omega (arith, r.slow) }
  kept (Knob n) = record { placed = placed; few = omega (arith, r.few); slow = omega (arith, r.slow) }

  pub next_near : (e : Event) (v : Work) → v ≡ happens m ts e w → (next : Option Target) → next ≡ slice_get ts v.motion.behind → Near v.motion next
  next_near e v h next i = near_next ts v.motion next r.close (rw h (kept e).placed) i

  pub before_near : Within 4000000000 (place ts w.motion)
  before_near = place_near ts w.motion placed

  pub after_near : (e : Event) (v : Work) → v ≡ happens m ts e w → Within 4000000000 (place ts v.motion)
  after_near e v h = place_near ts v.motion (rw h (kept e).placed)

  -- so that memory's numbers fit an i64
  pub after_fits : (e : Event) (v : Work) → v ≡ happens m ts e w → (v.motion.behind < 2 ^ 63) × (v.motion.done < 2 ^ 63) × (v.motion.speed < 2 ^ 63)
  after_fits e v h = rw h (omega (arith, (kept e).few), omega (arith, (kept e).placed.short), omega (arith, (kept e).slow))
