-- A line is a walk: its two ends, and how far apart its places are.
use Rattle.std.proofs.Common.{◌≡◌, ℕ, ◌+◌, ◌*◌, ◌<◌, ◌≤◌, ℤ, ◌+ℤ◌, ◌-ℤ◌, nat_abs, arith}
use Rattle.std.proofs.lemmas.Int.{ints}
use Rattle.geometry.proofs.Acts.{same_place}
use Rattle.geometry.specs.declared.place.Place.{Place}
use Rattle.geometry.specs.Places.{Within}
use Rattle.line.specs.Laws.{Nearest}
use Rattle.line.specs.Lines.{share, long, on_line}
use Rattle.line.proofs.Shares.{share_by, share_none, starts_axis, ends_axis, steps_axis, nearest_axis}

-- no axis has more steps to make than the line
pub long_x : (p q : Place) → nat_abs (q.x -ℤ p.x) ≤ long p q
unfolding long
long_x p q = omega arith

pub long_y : (p q : Place) → nat_abs (q.y -ℤ p.y) ≤ long p q
unfolding long
long_y p q = omega arith

-- between places that are near 0, 0 it is not long
pub long_within : (n : ℕ) (p q : Place) → Within n p → Within n q → long p q ≤ 2 * n
unfolding long
long_within n p q f g = omega (arith, ints)

pub starts : (p q : Place) → on_line p q 0 ≡ p
unfolding on_line
starts p q =
    same_place (starts_axis p.x q.x (long p q) (long_x p q)) (starts_axis p.y q.y (long p q) (long_y p q))

pub ends : (p q : Place) → on_line p q (long p q) ≡ q
unfolding on_line
ends p q = same_place (ends_axis p.x q.x (long p q)) (ends_axis p.y q.y (long p q))

pub steps :
    (p q : Place) (n u : ℕ) → n + u ≤ long p q →
    (nat_abs ((on_line p q (n + u)).x -ℤ (on_line p q n).x) ≤ u) × (nat_abs ((on_line p q (n + u)).y -ℤ (on_line p q n).y) ≤ u)
unfolding on_line
steps p q n u h =
    (steps_axis p.x q.x (long p q) n u (long_x p q), steps_axis p.y q.y (long p q) n u (long_y p q))

pub nearest_x : (p q : Place) (n : ℕ) → 0 < long p q → Nearest n (long p q) (q.x -ℤ p.x) ((on_line p q n).x -ℤ p.x)
unfolding on_line
nearest_x p q n h = nearest_axis p.x q.x (long p q) n h

pub nearest_y : (p q : Place) (n : ℕ) → 0 < long p q → Nearest n (long p q) (q.y -ℤ p.y) ((on_line p q n).y -ℤ p.y)
unfolding on_line
nearest_y p q n h = nearest_axis p.y q.y (long p q) n h

-- after n steps no axis is farther than n from where it began
pub strays : (p q : Place) (n : ℕ) → (nat_abs ((on_line p q n).x -ℤ p.x) ≤ n) × (nat_abs ((on_line p q n).y -ℤ p.y) ≤ n)
unfolding on_line
strays p q n = (by_axis p.x q.x (long_x p q), by_axis p.y q.y (long_y p q))
  where
    by_axis : (a b : ℤ) → nat_abs (b -ℤ a) ≤ long p q → nat_abs (a +ℤ share n (long p q) (b -ℤ a) -ℤ a) ≤ n
    by_axis a b h =
        let e : 0 + n ≡ n = omega arith in
        omega (arith, ints, rw e at (share_by 0 n (long p q) (b -ℤ a) h), share_none (long p q) (b -ℤ a) h)
