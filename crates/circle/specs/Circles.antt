-- What the contracts of circles cite, about a middle at 0, 0; R is the square of the radius. Assumes nothing.
-- A circle of radius 0 has no walk: its quarter has no steps, and no place is on it.
--   root n          the greatest whole number whose square is at most n
--   grown n r       r, or one more if its square is at most n still
--   nearest_root n  the whole number nearest to the square root of n
--   quarter R       how many steps a quarter of the walk has
--   best R k        how far along the one axis the circle is, to the nearest step, where it is k along the other
--   corner R j      the place after j steps of the first quarter: a row each up to the diagonal, then a column each
--   turns n p       p, turned by n quarters to the left
--   after R k       the place after k steps to the left from the x axis
--   square p        the square of a place's distance from the middle
--   reach p         how far it is from the middle on the axis where it is farther
--   on R p          whether p is a place of the walk
--   into q a b      how many steps into the first quarter, of q steps, the place a, b is
--   index R p       how many steps along the walk to the left, from the x axis, p is
use Rattle.std.specs.Prelude.{ℕ, zero, suc, ◌+◌, ◌-◌, ◌*◌, ◌/◌, ◌%◌, max, Bool, cond, ◌&&◌, pos, int_le, int_lt, nat_le, nat_lt, unsigned_abs}
use Rattle.geometry.specs.declared.place.Place.{Place}
use Rattle.geometry.specs.Places.{turned}

abbrev pub grown : ℕ → ℕ → ℕ
grown n r = cond (nat_le (suc r * suc r) n) (suc r) r

unfoldable pub root : ℕ → ℕ
root zero = 0
root (suc n) = grown (suc n) (root n)

unfoldable pub nearest_root : ℕ → ℕ
nearest_root n = (root (4 * n) + 1) / 2

unfoldable pub quarter : ℕ → ℕ
quarter R = nearest_root (2 * R)

unfoldable pub best : ℕ → ℕ → ℕ
best R k = nearest_root (R - k * k)

abbrev pub at : ℕ → ℕ → Place
at a b = record { x = pos a; y = pos b }

unfoldable pub corner : ℕ → ℕ → Place
corner R j = cond (nat_le (2 * j) (quarter R)) (at (best R j) j) (at (quarter R - j) (best R (quarter R - j)))

unfoldable pub turns : ℕ → Place → Place
turns zero p = p
turns (suc n) p = turned (turns n p)

unfoldable pub after : ℕ → ℕ → Place
after R k = turns (k / quarter R) (corner R (k % quarter R))

unfoldable pub square : Place → ℕ
square p = unsigned_abs p.x * unsigned_abs p.x + unsigned_abs p.y * unsigned_abs p.y

abbrev pub reach : Place → ℕ
reach p = max (unsigned_abs p.x) (unsigned_abs p.y)

unfoldable pub on : ℕ → Place → Bool
on R p = nat_le R (square p + reach p) && nat_lt (square p) (R + reach p)

unfoldable pub into : ℕ → ℕ → ℕ → ℕ
into q a b = cond (nat_le b a) b (q - a)

unfoldable pub index : ℕ → Place → ℕ
index R p =
    cond (int_lt (pos 0) p.x && int_le (pos 0) p.y) (into (quarter R) (unsigned_abs p.x) (unsigned_abs p.y))
    (cond (int_lt (pos 0) p.y) (quarter R + into (quarter R) (unsigned_abs p.y) (unsigned_abs p.x))
    (cond (int_lt p.x (pos 0)) (2 * quarter R + into (quarter R) (unsigned_abs p.x) (unsigned_abs p.y))
    (3 * quarter R + into (quarter R) (unsigned_abs p.y) (unsigned_abs p.x))))
