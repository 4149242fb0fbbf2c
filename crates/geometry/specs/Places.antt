-- What contracts say of places in steps, and of a place seen from outside a frame. Assumes nothing.
--   moved d p        p, seen from outside a frame whose 0, 0 lies at d
--   less p d         p, seen from inside that frame
--   turned p         p, seen from outside a frame turned a quarter to the left; turned_back undoes it
--   mirrored p       p, seen from outside a frame with left and right exchanged; it undoes itself
--   within n p       no axis is past n either way
use Rattle.std.specs.Prelude.{ℕ, ◌≤◌, Bool, ◌&&◌, pos, ◌+ℤ◌, ◌-ℤ◌, nat_le, unsigned_abs}
use Rattle.geometry.specs.declared.place.Place.{Place}

abbrev pub moved : Place → Place → Place
moved d p = record { x = p.x +ℤ d.x; y = p.y +ℤ d.y }

abbrev pub less : Place → Place → Place
less p d = record { x = p.x -ℤ d.x; y = p.y -ℤ d.y }

abbrev pub turned : Place → Place
turned p = record { x = pos 0 -ℤ p.y; y = p.x }

abbrev pub turned_back : Place → Place
turned_back p = record { x = p.y; y = pos 0 -ℤ p.x }

abbrev pub mirrored : Place → Place
mirrored p = record { x = pos 0 -ℤ p.x; y = p.y }

abbrev pub within : ℕ → Place → Bool
within n p = nat_le (unsigned_abs p.x) n && nat_le (unsigned_abs p.y) n

-- the same, as a fact
pub record Within (n : ℕ) (p : Place) : Type 0 where
  pub across : unsigned_abs p.x ≤ n
  pub along : unsigned_abs p.y ≤ n
