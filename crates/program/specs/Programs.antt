-- What a program means: the targets that it says, begun at a place, and where it ends. Assumes nothing.
--   Program       lines, repetitions, frames and uses of sub-programs
--   Went          the targets that were said, and where it is then
--   stay          says nothing, and stays where it is
--   going t       says the target t, and is there then
--   followed w v  w, and then v from where w ended
--   again n w     w, n times, one after the other
--   carried f t   the target t, with its place put by f
--   placed f w    w, with all its places put by f
--   framed there back w   w in a frame: there puts a place of the frame outside, back sees one from inside
--   went a        what the program a says, begun at a place
--   count a       how many targets a says
use Rattle.std.specs.Prelude.{ℕ, zero, suc, ◌+◌, ◌*◌, List, [], ◌∷◌, ◌++◌, map}
use Rattle.geometry.specs.Places.{moved, less, turned, turned_back, mirrored}
use Rattle.geometry.specs.declared.place.Place.{Place}
use Rattle.program.specs.declared.target.Target.{Target}

pub data Program : Type 0 where
  nothing : Program
  to : Place → ℕ → Program
  by : Place → ℕ → Program
  next : Program → Program → Program
  times : ℕ → Program → Program
  at : Place → Program → Program
  turn : Program → Program
  mirror : Program → Program
  sub : Program → Program

pub record Went : Type 0 where
  pub says : List Target
  pub ends : Place

abbrev pub stay : Place → Went
stay p = record { says = []; ends = p }

abbrev pub going : Target → Went
going t = record { says = t ∷ []; ends = t.to }

abbrev pub followed : (Place → Went) → (Place → Went) → Place → Went
followed w v p = record { says = (w p).says ++ (v (w p).ends).says; ends = (v (w p).ends).ends }

unfoldable pub again : ℕ → (Place → Went) → Place → Went
again zero w p = stay p
again (suc n) w p = followed w (again n w) p

abbrev pub carried : (Place → Place) → Target → Target
carried f t = record { to = f t.to; fast = t.fast }

abbrev pub placed : (Place → Place) → Went → Went
placed f w = record { says = map (carried f) w.says; ends = f w.ends }

abbrev pub framed : (there back : Place → Place) → (Place → Went) → Place → Went
framed there back w p = placed there (w (back p))

unfoldable pub went : Program → Place → Went
went nothing p = stay p
went (to q f) p = going (record { to = q; fast = f })
went (by d f) p = going (record { to = moved d p; fast = f })
went (next a b) p = followed (went a) (went b) p
went (times n a) p = again n (went a) p
went (at d a) p = framed (moved d) (λ q. less q d) (went a) p
went (turn a) p = framed turned turned_back (went a) p
went (mirror a) p = framed mirrored mirrored (went a) p
went (sub a) p = went a p

unfoldable pub count : Program → ℕ
count nothing = 0
count (to q f) = 1
count (by d f) = 1
count (next a b) = count a + count b
count (times n a) = n * count a
count (at d a) = count a
count (turn a) = count a
count (mirror a) = count a
count (sub a) = count a
