-- What the contract of a number that counts cites. Assumes nothing.
--   size z    z, or 0 if it is below 0
use Rattle.std.specs.Prelude.{ℕ, ℤ, pos, negsuc}

abbrev pub size : ℤ → ℕ
size (pos n) = n
size (negsuc n) = 0
