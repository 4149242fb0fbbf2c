-- What holds of every line. Assumes nothing.
--   Nearest n m d s  s is the whole number nearest to n over m of d; of two as near, the one farther from 0
--   first p q n      the places of a line from p to q before its first step and after each of its first n
--   path p q         all its places, in their order
--   at a b           the place a, b
--   LineLaws        the laws of lines, as one record
use Rattle.std.specs.Prelude.{◌≡◌, ℕ, zero, suc, ◌+◌, ◌*◌, ◌<◌, ◌≤◌, List, [], ◌∷◌, ◌++◌, ℤ, pos, negsuc, ◌-ℤ◌, ◌*ℤ◌, unsigned_abs}
use Rattle.geometry.specs.declared.place.Place.{Place}
use Rattle.geometry.specs.Places.{moved, turned, mirrored}
use Rattle.line.specs.Lines.{long, on_line}

pub record Nearest (n m : ℕ) (d s : ℤ) : Type 0 where
  pub half : 2 * unsigned_abs (pos m *ℤ s -ℤ pos n *ℤ d) ≤ m
  pub tie : 2 * unsigned_abs (pos m *ℤ s -ℤ pos n *ℤ d) ≡ m → n * unsigned_abs d < m * unsigned_abs s

unfoldable pub first : Place → Place → ℕ → List Place
first p q zero = on_line p q 0 ∷ []
first p q (suc n) = first p q n ++ (on_line p q (suc n) ∷ [])

unfoldable pub path : Place → Place → List Place
path p q = first p q (long p q)

abbrev pub at : ℤ → ℤ → Place
at a b = record { x = a; y = b }

pub record LineLaws : Type 0 where
  -- it begins at the one place and ends at the other
  pub starts : (p q : Place) → on_line p q 0 ≡ p
  pub ends : (p q : Place) → on_line p q (long p q) ≡ q
  -- u steps more move no axis by more than u
  pub steps_x : (p q : Place) (n u : ℕ) → n + u ≤ long p q → unsigned_abs ((on_line p q (n + u)).x -ℤ (on_line p q n).x) ≤ u
  pub steps_y : (p q : Place) (n u : ℕ) → n + u ≤ long p q → unsigned_abs ((on_line p q (n + u)).y -ℤ (on_line p q n).y) ≤ u
  -- each axis is on the step nearest to the line itself
  pub nearest_x : (p q : Place) (n : ℕ) → 0 < long p q → Nearest n (long p q) (q.x -ℤ p.x) ((on_line p q n).x -ℤ p.x)
  pub nearest_y : (p q : Place) (n : ℕ) → 0 < long p q → Nearest n (long p q) (q.y -ℤ p.y) ((on_line p q n).y -ℤ p.y)
  -- a line in a moved, turned or mirrored frame is the line moved, turned or mirrored, step by step
  pub moved_long : (d p q : Place) → long (moved d p) (moved d q) ≡ long p q
  pub turned_long : (p q : Place) → long (turned p) (turned q) ≡ long p q
  pub mirrored_long : (p q : Place) → long (mirrored p) (mirrored q) ≡ long p q
  pub moved_line : (d p q : Place) (n : ℕ) → on_line (moved d p) (moved d q) n ≡ moved d (on_line p q n)
  pub turned_line : (p q : Place) (n : ℕ) → on_line (turned p) (turned q) n ≡ turned (on_line p q n)
  pub mirrored_line : (p q : Place) (n : ℕ) → on_line (mirrored p) (mirrored q) n ≡ mirrored (on_line p q n)
  -- two lines, place by place
  pub right_up :
      path (at (pos 0) (pos 0)) (at (pos 5) (pos 2))
      ≡ at (pos 0) (pos 0) ∷ (at (pos 1) (pos 0) ∷ (at (pos 2) (pos 1) ∷ (at (pos 3) (pos 1) ∷ (at (pos 4) (pos 2) ∷ (at (pos 5) (pos 2) ∷ [])))))
  pub left_up :
      path (at (pos 0) (pos 0)) (at (negsuc 3) (pos 2))
      ≡ at (pos 0) (pos 0) ∷ (at (negsuc 0) (pos 1) ∷ (at (negsuc 1) (pos 1) ∷ (at (negsuc 2) (pos 2) ∷ (at (negsuc 3) (pos 2) ∷ []))))
