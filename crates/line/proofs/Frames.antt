-- A line in a moved, turned or mirrored frame is the line moved, turned or mirrored.
use Rattle.std.proofs.Common.{◌≡◌, ℕ, refl, arith}
use Rattle.std.proofs.lemmas.Int.{ints}
use Rattle.geometry.proofs.Acts.{same_place}
use Rattle.geometry.specs.declared.place.Place.{Place}
use Rattle.geometry.specs.Places.{moved, turned, mirrored}
use Rattle.line.specs.Lines.{long, on_line}
use Rattle.line.proofs.Shares.{moved_axis, back_axis}

pub moved_long : (d p q : Place) → long (moved d p) (moved d q) ≡ long p q
unfolding long
moved_long d p q = omega (arith, ints)

pub turned_long : (p q : Place) → long (turned p) (turned q) ≡ long p q
unfolding long
turned_long p q = omega (arith, ints)

pub mirrored_long : (p q : Place) → long (mirrored p) (mirrored q) ≡ long p q
unfolding long
mirrored_long p q = omega (arith, ints)

pub moved_line : (d p q : Place) (n : ℕ) → on_line (moved d p) (moved d q) n ≡ moved d (on_line p q n)
unfolding on_line
moved_line d p q n =
    rw (moved_long d p q)
    (same_place (moved_axis p.x q.x (long p q) d.x n) (moved_axis p.y q.y (long p q) d.y n))

pub turned_line : (p q : Place) (n : ℕ) → on_line (turned p) (turned q) n ≡ turned (on_line p q n)
unfolding on_line
turned_line p q n = rw (turned_long p q) (same_place (back_axis p.y q.y (long p q) n) refl)

pub mirrored_line : (p q : Place) (n : ℕ) → on_line (mirrored p) (mirrored q) n ≡ mirrored (on_line p q n)
unfolding on_line
mirrored_line p q n = rw (mirrored_long p q) (same_place (back_axis p.x q.x (long p q) n) refl)
