-- What the evaluator asks for and ensures. Assumes nothing.
--   went_in f a      what the program a says in the frame f, begun at a place seen from outside
--   Ready            what a walk over the node n asks for: a frame and a place near enough, and room for what it says
--   Whole            the walk w was gone to its end, from the teller s to the teller t, and all it says was written
--   Walked           a walk ended so, or stands before the first target out of reach
--   Ran              a program's targets were all written from the room's beginning, or one is out of reach
--   Checked          the program in these numbers, where nothing is refused, or the first check that fails
use Rattle.std.specs.Prelude.{◌≡◌, ℕ, ◌+◌, ◌-◌, ◌*◌, ◌^◌, ◌<◌, ◌≤◌, List, length, ℤ, Some, None, Ok, Err, Result}
use Rattle.std.specs.List.{flat_map}
use Rattle.std.specs.Option.{option_map}
use Rattle.geometry.specs.Frames.{put, seen}
use Rattle.geometry.specs.Places.{Within}
use Rattle.geometry.specs.declared.frame.Frame.{Frame}
use Rattle.geometry.specs.declared.place.Place.{Place}
use Rattle.refusal.specs.declared.Refusal.{Refusal}
use Rattle.refusal.specs.declared.Refusal.TheVariants.{Reach}
use Rattle.program.specs.Answers.{first_in, reached, refusal_of, said}
use Rattle.program.specs.Nodes.{nodes}
use Rattle.program.specs.Programs.{Program, Went, framed, went, count}
use Rattle.program.specs.Rooms.{over}
use Rattle.program.specs.Sound.{meant}
use Rattle.program.specs.declared.program.Program.{Program as Lent}
use Rattle.program.specs.declared.target.Target.{Target}
use Rattle.program.specs.declared.walk.OutOfReach.{OutOfReach}
use Rattle.program.specs.declared.walk.Teller.{Teller}

abbrev pub went_in : Frame → Program → Place → Went
went_in f a p = framed (put f) (seen f) (went a) p

pub record Ready {T : Type 0} (p : Lent) (n : ℕ) (f : Frame) (s : Teller T) (width : ℕ) : Type 0 where
  pub here : n < nodes p.nodes.now
  pub near : Within (1000000 * (1024 - n)) f.origin
  pub within : Within 1000000000 s.at
  pub roomy : width * (s.said + count (meant p.nodes.now n)) ≤ length s.room.now
  pub fits : s.said + count (meant p.nodes.now n) < 2 ^ 64

pub record Whole {T : Type 0} (slots : Target → List T) (width : ℕ) (s : Teller T) (w : Went) (t : Teller T) : Type 0 where
  pub reach : first_in reached s.said w.says ≡ None
  pub ends : t.at ≡ w.ends
  pub said : t.said ≡ s.said + length w.says
  pub written : t.room.now ≡ over s.room.now (width * s.said) (flat_map slots w.says)
  pub within : Within 1000000000 t.at

abbrev pub Walked : {T : Type 0} (slots : Target → List T) (width : ℕ) (s : Teller T) (w : Went) → Result Unit OutOfReach → (t : Teller T) → Type 0
Walked slots width s w (Ok _) t = Whole slots width s w t
Walked slots width s w (Err _) t = first_in reached s.said w.says ≡ Some t.said

abbrev pub Ran : {T : Type 0} (slots : Target → List T) (room : List T) (ts : List Target) → Result ℕ Refusal → List T → Type 0
Ran slots room ts (Ok n) room₁ = (first_in reached 0 ts ≡ None) × (n ≡ length ts) × (room₁ ≡ over room 0 (flat_map slots ts))
Ran slots room ts (Err e) room₁ = option_map Reach (first_in reached 0 ts) ≡ Some e

pub record Passed (xs : List ℤ) (most : ℕ) (p : Lent) : Type 0 where
  pub same : p.nodes.now ≡ xs
  pub none : refusal_of xs most ≡ None
  pub fits : length (said xs) ≤ most

abbrev pub Checked : (xs : List ℤ) (most : ℕ) → Result Lent Refusal → Type 0
Checked xs most (Ok p) = Passed xs most p
Checked xs most (Err e) = refusal_of xs most ≡ Some e
