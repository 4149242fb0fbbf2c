-- What the contracts of lines cite. Assumes nothing.
--   part n m d     n over m of d steps, rounded to nearest, halves up; all of them where m is 0
--   share n m d    n over m of a way d of either sign, rounded to nearest, halves away from where it began
--   long p q       how long a line from p to q is: as many steps as its longer axis makes
--   on_line p q n  the place after n of the steps of the line from p to q
use Rattle.std.specs.Prelude.{ℕ, zero, suc, ◌+◌, ◌*◌, ◌/◌, max, ℤ, pos, negsuc, ◌+ℤ◌, ◌-ℤ◌, unsigned_abs}
use Rattle.geometry.specs.declared.place.Place.{Place}

unfoldable pub part : ℕ → ℕ → ℕ → ℕ
part n zero d = d
part n (suc m) d = (2 * (d * n) + suc m) / (2 * suc m)

unfoldable pub share : ℕ → ℕ → ℤ → ℤ
share n m (pos d) = pos (part n m d)
share n m (negsuc d) = pos 0 -ℤ pos (part n m (suc d))

unfoldable pub long : Place → Place → ℕ
long p q = max (unsigned_abs (q.x -ℤ p.x)) (unsigned_abs (q.y -ℤ p.y))

unfoldable pub on_line : Place → Place → ℕ → Place
on_line p q n = record {
  x = p.x +ℤ share n (long p q) (q.x -ℤ p.x);
  y = p.y +ℤ share n (long p q) (q.y -ℤ p.y);
}
