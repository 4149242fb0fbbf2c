-- Turned and mirrored, a walk is a walk; and a place has one next place.
use Rattle.std.proofs.Common.{◌≡◌, ℕ, zero, suc, Bool, true, false, not, ℤ, pos, negsuc, ◌-ℤ◌, ◌*ℤ◌, nat_abs, ◌<ℤ◌, sym, refl, ap, ◌∙◌, subst, inl, inr, add_comm, arith}
use lib.IntN.{*ℤ_comm}
use Rattle.std.proofs.lemmas.Int.{ints}
use Rattle.geometry.specs.declared.place.Place.{Place}
use Rattle.geometry.specs.Places.{moved, less, turned, turned_back, mirrored}
use Rattle.geometry.specs.Frames.{sided}
use Rattle.geometry.proofs.Acts.{same_place}
use Rattle.circle.specs.Circles.{turns, square, reach}
use Rattle.circle.specs.Laws.{On, ahead, Onward, Next}
use Rattle.circle.proofs.Near.{not_both}

back_times : (a b : ℤ) → (pos 0 -ℤ a) *ℤ b ≡ pos 0 -ℤ a *ℤ b
back_times (pos zero) (pos n) = omega (arith, ints)
back_times (pos zero) (negsuc n) = omega (arith, ints)
back_times (pos (suc m)) (pos n) =
    let e : pos 0 -ℤ pos (suc m) ≡ negsuc m = omega (arith, ints) in rw e (omega (arith, ints))
back_times (pos (suc m)) (negsuc n) =
    let e : pos 0 -ℤ pos (suc m) ≡ negsuc m = omega (arith, ints) in rw e (omega (arith, ints))
back_times (negsuc m) (pos n) =
    let e : pos 0 -ℤ negsuc m ≡ pos (suc m) = omega (arith, ints) in ap (λ z. z *ℤ pos n) e ∙ omega (arith, ints)
back_times (negsuc m) (negsuc n) =
    let e : pos 0 -ℤ negsuc m ≡ pos (suc m) = omega (arith, ints) in ap (λ z. z *ℤ negsuc n) e ∙ omega (arith, ints)

times_back : (a b : ℤ) → a *ℤ (pos 0 -ℤ b) ≡ pos 0 -ℤ a *ℤ b
times_back a b = *ℤ_comm a (pos 0 -ℤ b) ∙ back_times b a ∙ ap (λ (z : ℤ). pos 0 -ℤ z) (*ℤ_comm b a)

size_back : (z : ℤ) → nat_abs (pos 0 -ℤ z) ≡ nat_abs z
size_back z = omega (arith, ints)

square_turned : (p : Place) → square (turned p) ≡ square p
unfolding square
square_turned p = rw (size_back p.y) (add_comm _ _)

square_mirrored : (p : Place) → square (mirrored p) ≡ square p
unfolding square
square_mirrored p = rw (size_back p.x)

on_turned : (R : ℕ) (p : Place) → On R p → On R (turned p)
on_turned R p h =
    let e : reach (turned p) ≡ reach p = omega (arith, size_back p.y) in
    record { inside = omega (arith, square_turned p, h.inside); outside = omega (arith, square_turned p, h.outside) }

pub on_turns : (R n : ℕ) (p : Place) → On R p → On R (turns n p)
unfolding turns
on_turns R zero p h = h
on_turns R (suc n) p h = on_turned R (turns n p) (on_turns R n p h)

-- a step seen in a turned or mirrored frame
module _ (p d : Place) where
  ahead_turned : ahead (turned p) d ≡ ahead p (turned_back d)
  ahead_turned = omega (arith, ints, back_times p.y d.y, times_back p.x d.x)

  ahead_mirrored : ahead (mirrored p) d ≡ pos 0 -ℤ ahead p (mirrored d)
  ahead_mirrored = omega (arith, ints, back_times p.x d.y, times_back p.y d.x)

sided_other : (b : Bool) (z : ℤ) → sided (not b) (pos 0 -ℤ z) ≡ sided b z
sided_other true z = refl
sided_other false z = omega (arith, ints)

-- a next place, taken along by f, where g takes steps back
module _ (R : ℕ) (b c : Bool) (f g : Place → Place) (p q : Place) where
  next_along :
      ((z : Place) → square (f z) ≡ square z) → ((d : Place) → moved d (f p) ≡ f (moved (g d) p)) →
      ((d : Place) → Onward c (f p) d → Onward b p (g d)) → Onward c (f p) (less (f q) (f p)) →
      Next b R p q → Next c R (f p) (f q)
  next_along same goes back step h = record {
    step = step;
    nearest = λ d o.
        elim (h.nearest (g d) (back d o)) [
          | inl e ↦ inl (goes d ∙ ap f e)
          | inr k ↦ inr (rw (goes d, same q, same (moved (g d) p)) k)
        ];
  }

pub next_turned : (b : Bool) (R : ℕ) (p q : Place) → Next b R p q → Next b R (turned p) (turned q)
next_turned b R p q h =
    next_along R b b turned turned_back p q square_turned
    (λ d. same_place (omega (arith, ints)) refl)
    (λ d o. record { across = o.along; along = omega (arith, size_back d.x, o.across); onward = rw (← ahead_turned p d) o.onward })
    (record {
      across = omega (arith, ints, h.step.along);
      along = h.step.across;
      onward =
          subst (λ (z : ℤ). pos 0 <ℤ sided b z) (sym (ahead_turned p (less (turned q) (turned p)) ∙ ap (ahead p) e)) h.step.onward;
    })
    h
  where
    e : turned_back (less (turned q) (turned p)) ≡ less q p
    e = same_place refl (omega (arith, ints))

pub next_mirrored : (b : Bool) (R : ℕ) (p q : Place) → Next b R p q → Next (not b) R (mirrored p) (mirrored q)
next_mirrored b R p q h =
    next_along R b (not b) mirrored mirrored p q square_mirrored
    (λ d. same_place (omega (arith, ints)) refl)
    (λ d o. record {
      across = omega (arith, size_back d.x, o.across);
      along = o.along;
      onward = rw (← sided_other b (ahead p (mirrored d)), ← ahead_mirrored p d) o.onward;
    })
    (record {
      across = omega (arith, ints, h.step.across);
      along = h.step.along;
      onward =
          subst (λ (z : ℤ). pos 0 <ℤ z)
          (sym (ap (sided (not b)) (ahead_mirrored p (less (mirrored q) (mirrored p)) ∙ ap (λ (s : Place). pos 0 -ℤ ahead p s) e) ∙ sided_other b (ahead p (less q p))))
          h.step.onward;
    })
    h
  where
    e : mirrored (less (mirrored q) (mirrored p)) ≡ less q p
    e = same_place (omega (arith, ints)) refl

pub next_turns : (b : Bool) (R n : ℕ) (p q : Place) → Next b R p q → Next b R (turns n p) (turns n q)
unfolding turns
next_turns b R zero p q h = h
next_turns b R (suc n) p q h = next_turned b R (turns n p) (turns n q) (next_turns b R n p q h)

there_again : (p q : Place) → moved (less q p) p ≡ q
there_again p q = same_place (omega (arith, ints)) (omega (arith, ints))

pub next_only : (b : Bool) (R : ℕ) (p q r : Place) → Next b R p q → Next b R p r → q ≡ r
next_only b R p q r h k =
    elim (h.nearest (less r p) k.step) [
      | inl e ↦ sym e ∙ there_again p r
      | inr s ↦ elim (k.nearest (less q p) h.step) [
        | inl e ↦ sym (there_again p q) ∙ e
        | inr t ↦ absurd (not_both R (square q) (square r) (rw (there_again p r) at s) (rw (there_again p q) at t))
      ]
    ]
