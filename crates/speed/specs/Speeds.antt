-- What the contracts of speeds cite. Assumes nothing.
--   stopping a v          how far it still goes if from speed v on it is slowed by a in each tick: (v - a) + (v - 2a) + .. as long as these are above 0
--   fastest a left u      the largest speed up to u with which it can still stop within left
--   next_speed a c left v the speed of the next tick at speed v, under the cap c
--   pace a c l x v n      where it is and how fast, n ticks on from x and v, along a line l long under the cap c
use Rattle.std.specs.Prelude.{ℕ, zero, suc, ◌+◌, ◌-◌, min, max, cond, nat_le}

-- the same sum with at most n terms
unfoldable pub slowed : (n a v : ℕ) → ℕ
slowed zero a v = 0
slowed (suc n) a v = (v - a) + slowed n a (v - a)

unfoldable pub stopping : (a v : ℕ) → ℕ
stopping a v = slowed v a v

unfoldable pub fastest : (a left u : ℕ) → ℕ
fastest a left zero = 0
fastest a left (suc u) = cond (nat_le (suc u + stopping a (suc u)) left) (suc u) (fastest a left u)

unfoldable pub next_speed : (a c left v : ℕ) → ℕ
next_speed a c left v = max (v - a) (min (fastest a left (v + a)) c)

pub record Pace : Type 0 where
  pub at : ℕ
  pub speed : ℕ

unfoldable pub pace : (a c l x v n : ℕ) → Pace
pace a c l x v zero = record { at = x; speed = v }
pace a c l x v (suc n) = onward (pace a c l x v n)
  where
    onward : Pace → Pace
    onward p = record { at = p.at + next_speed a c (l - p.at) p.speed; speed = next_speed a c (l - p.at) p.speed }
