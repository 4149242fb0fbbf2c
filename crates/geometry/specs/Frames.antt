-- What the contracts of frames cite. Assumes nothing.
--   sided other z      z, or as much the other way
--   exchanged swap p   p, or with its axes exchanged
--   way f d            the way d of the frame f, seen from outside
--   put f p            the place p of the frame f, seen from outside
--   seen f q           the place q, seen from inside the frame f
--   in_moved f d       the frame inside f whose 0, 0 lies at d
--   in_turned f        the frame inside f that is turned a quarter to the left
--   in_mirrored f      the frame inside f with left and right exchanged
--   Inside f g there back   g stands in f as there puts it: g acts as there first and then f, and back undoes it
--   FramesAct         all that programs need of frames
use Rattle.std.specs.Prelude.{◌≡◌, Bool, true, false, not, ℤ, pos, ◌-ℤ◌}
use Rattle.geometry.specs.Places.{moved, less, turned, turned_back, mirrored}
use Rattle.geometry.specs.declared.place.Place.{Place}
use Rattle.geometry.specs.declared.frame.Frame.{Frame}

abbrev pub sided : Bool → ℤ → ℤ
sided true z = pos 0 -ℤ z
sided false z = z

abbrev pub exchanged : Bool → Place → Place
exchanged true p = record { x = p.y; y = p.x }
exchanged false p = p

abbrev pub way : Frame → Place → Place
way f d = record { x = sided f.left (exchanged f.swap d).x; y = sided f.down (exchanged f.swap d).y }

abbrev pub put : Frame → Place → Place
put f p = moved f.origin (way f p)

abbrev pub seen : Frame → Place → Place
seen f q =
    exchanged f.swap (record { x = sided f.left (less q f.origin).x; y = sided f.down (less q f.origin).y })

abbrev pub in_moved : Frame → Place → Frame
in_moved f d = record { swap = f.swap; left = f.left; down = f.down; origin = put f d }

abbrev pub toggled : Bool → Bool → Bool
toggled true b = not b
toggled false b = b

abbrev pub in_turned : Frame → Frame
in_turned f = record {
  swap = not f.swap;
  left = toggled (not f.swap) f.left;
  down = toggled f.swap f.down;
  origin = f.origin;
}

abbrev pub in_mirrored : Frame → Frame
in_mirrored f = record {
  swap = f.swap;
  left = toggled (not f.swap) f.left;
  down = toggled f.swap f.down;
  origin = f.origin;
}

pub record Inside (f g : Frame) (there back : Place → Place) : Type 0 where
  pub puts : (p : Place) → put g p ≡ put f (there p)
  pub sees : (q : Place) → seen g q ≡ back (seen f q)

pub record FramesAct : Type 0 where
  pub seen_put : (f : Frame) (p : Place) → seen f (put f p) ≡ p
  pub put_seen : (f : Frame) (q : Place) → put f (seen f q) ≡ q
  -- a way goes by the frame's axes from where it is, seen from the frame
  pub goes : (f : Frame) (d q : Place) → put f (moved d (seen f q)) ≡ moved (way f d) q
  pub moves : (f : Frame) (d : Place) → Inside f (in_moved f d) (moved d) (λ q. less q d)
  pub turns : (f : Frame) → Inside f (in_turned f) turned turned_back
  pub mirrors : (f : Frame) → Inside f (in_mirrored f) mirrored mirrored
