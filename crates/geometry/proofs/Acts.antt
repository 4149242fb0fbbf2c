-- Frames act as the composition of what they are made of, the inner first: one axis at a time, then a place.
use Rattle.std.proofs.Common.{◌≡◌, ℕ, ◌+◌, Bool, true, false, not, leb, ℤ, pos, ◌+ℤ◌, ◌-ℤ◌, nat_abs, refl, ap, arith}
use Rattle.std.proofs.lemmas.Int.{ints}
use Rattle.std.proofs.lemmas.Bool.{and_parts, leb-true}
use Rattle.geometry.specs.Places.{moved, less, turned, turned_back, mirrored, within, Within}
use Rattle.geometry.specs.Frames.{sided, exchanged, way, put, seen, in_moved, in_turned, in_mirrored, Inside, FramesAct}
use Rattle.geometry.specs.declared.place.Place.{Place}
use Rattle.geometry.specs.declared.frame.Frame.{Frame}

pub same_place : {p q : Place} → p.x ≡ q.x → p.y ≡ q.y → p ≡ q
same_place e f = λ i. record { x = e i; y = f i }

sided_back : (b : Bool) (z o : ℤ) → sided b ((sided b z +ℤ o) -ℤ o) ≡ z
sided_back true z o = omega (arith, ints)
sided_back false z o = omega (arith, ints)

sided_there : (b : Bool) (z o : ℤ) → sided b (sided b (z -ℤ o)) +ℤ o ≡ z
sided_there true z o = omega (arith, ints)
sided_there false z o = omega (arith, ints)

sided_goes : (b : Bool) (z d o : ℤ) → sided b (sided b (z -ℤ o) +ℤ d) +ℤ o ≡ z +ℤ sided b d
sided_goes true z d o = omega (arith, ints)
sided_goes false z d o = omega (arith, ints)

sided_moves : (b : Bool) (z d o : ℤ) → sided b z +ℤ (sided b d +ℤ o) ≡ sided b (z +ℤ d) +ℤ o
sided_moves true z d o = omega (arith, ints)
sided_moves false z d o = omega (arith, ints)

sided_sees : (b : Bool) (z d o : ℤ) → sided b (z -ℤ (sided b d +ℤ o)) ≡ sided b (z -ℤ o) -ℤ d
sided_sees true z d o = omega (arith, ints)
sided_sees false z d o = omega (arith, ints)

sided_not : (b : Bool) (z : ℤ) → sided (not b) z ≡ sided b (pos 0 -ℤ z)
sided_not true z = omega (arith, ints)
sided_not false z = refl

not_sided : (b : Bool) (z : ℤ) → sided (not b) z ≡ pos 0 -ℤ sided b z
not_sided true z = omega (arith, ints)
not_sided false z = refl

sided_within : (b : Bool) (z : ℤ) → nat_abs (sided b z) ≡ nat_abs z
sided_within true z = omega (arith, ints)
sided_within false z = refl

seen_put : (s l d : Bool) (o p : Place) → let f : Frame = record { swap = s; left = l; down = d; origin = o } in seen f (put f p) ≡ p
seen_put true l d o p = same_place (sided_back d p.x o.y) (sided_back l p.y o.x)
seen_put false l d o p = same_place (sided_back l p.x o.x) (sided_back d p.y o.y)

put_seen : (s l d : Bool) (o q : Place) → let f : Frame = record { swap = s; left = l; down = d; origin = o } in put f (seen f q) ≡ q
put_seen true l d o q = same_place (sided_there l q.x o.x) (sided_there d q.y o.y)
put_seen false l d o q = same_place (sided_there l q.x o.x) (sided_there d q.y o.y)

goes : (s l d : Bool) (o w q : Place) → let f : Frame = record { swap = s; left = l; down = d; origin = o } in
    put f (moved w (seen f q)) ≡ moved (way f w) q
goes true l d o w q = same_place (sided_goes l q.x w.y o.x) (sided_goes d q.y w.x o.y)
goes false l d o w q = same_place (sided_goes l q.x w.x o.x) (sided_goes d q.y w.y o.y)

moves : (s l d : Bool) (o w : Place) → let f : Frame = record { swap = s; left = l; down = d; origin = o } in
    Inside f (in_moved f w) (moved w) (λ q. less q w)
moves true l d o w = record {
  puts = λ p. same_place (sided_moves l p.y w.y o.x) (sided_moves d p.x w.x o.y);
  sees = λ q. same_place (sided_sees d q.y w.x o.y) (sided_sees l q.x w.y o.x);
}
moves false l d o w = record {
  puts = λ p. same_place (sided_moves l p.x w.x o.x) (sided_moves d p.y w.y o.y);
  sees = λ q. same_place (sided_sees l q.x w.x o.x) (sided_sees d q.y w.y o.y);
}

turns : (s l d : Bool) (o : Place) → let f : Frame = record { swap = s; left = l; down = d; origin = o } in
    Inside f (in_turned f) turned turned_back
turns true l d o = record {
  puts = λ p. same_place refl (ap (λ (z : ℤ). z +ℤ o.y) (sided_not d p.y));
  sees = λ q. same_place refl (not_sided d (q.y -ℤ o.y));
}
turns false l d o = record {
  puts = λ p. same_place (ap (λ (z : ℤ). z +ℤ o.x) (sided_not l p.y)) refl;
  sees = λ q. same_place refl (not_sided l (q.x -ℤ o.x));
}

mirrors : (s l d : Bool) (o : Place) → let f : Frame = record { swap = s; left = l; down = d; origin = o } in
    Inside f (in_mirrored f) mirrored mirrored
mirrors true l d o = record {
  puts = λ p. same_place refl (ap (λ (z : ℤ). z +ℤ o.y) (sided_not d p.x));
  sees = λ q. same_place (not_sided d (q.y -ℤ o.y)) refl;
}
mirrors false l d o = record {
  puts = λ p. same_place (ap (λ (z : ℤ). z +ℤ o.x) (sided_not l p.x)) refl;
  sees = λ q. same_place (not_sided l (q.x -ℤ o.x)) refl;
}

pub frames_act : FramesAct
frames_act = record {
  seen_put = λ f. seen_put f.swap f.left f.down f.origin;
  put_seen = λ f. put_seen f.swap f.left f.down f.origin;
  goes = λ f. goes f.swap f.left f.down f.origin;
  moves = λ f. moves f.swap f.left f.down f.origin;
  turns = λ f. turns f.swap f.left f.down f.origin;
  mirrors = λ f. mirrors f.swap f.left f.down f.origin;
}

exchanged_within : (n : ℕ) (s : Bool) (p : Place) → Within n p → Within n (exchanged s p)
exchanged_within n true p h = record { across = h.along; along = h.across }
exchanged_within n false p h = h

-- a way is as long seen from outside as from inside
pub way_within : (n : ℕ) (f : Frame) (d : Place) → Within n d → Within n (way f d)
way_within n f d h =
    let e = exchanged_within n f.swap d h in
    record { across = rw sided_within e.across; along = rw sided_within e.along }

pub moved_within : (m n : ℕ) (d p : Place) → Within m d → Within n p → Within (n + m) (moved d p)
moved_within m n d p h k = record {
  across = omega (arith, ints, h.across, k.across);
  along = omega (arith, ints, h.along, k.along);
}

pub within_true : (n : ℕ) (p : Place) → within n p ≡ true → Within n p
within_true n p e =
    let h = and_parts (leb (nat_abs p.x) n) (leb (nat_abs p.y) n) e in
    record { across = leb-true _ _ h.0; along = leb-true _ _ h.1 }
