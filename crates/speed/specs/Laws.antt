-- What is promised of speeds, on numbers alone. Assumes nothing.
--   Next          what holds of the next speed n after v: by how much it changes, when it is above the cap, and that it can still stop
--   Run           a row of speeds, the last one outermost, that keeps the limits: n ticks from x and v to y and w
--   SpeedLaws    the statements, proved of the definitions
use Rattle.std.specs.Prelude.{◌≡◌, ℕ, suc, ◌+◌, ◌-◌, ◌≤◌, ◌⊎◌}
use Rattle.speed.specs.Speeds.{stopping, next_speed, pace}

pub record Next (a c left v n : ℕ) : Type 0 where
  pub up : n ≤ v + a
  pub down : v ≤ n + a
  pub capped : (n ≤ c) ⊎ (n ≡ v - a)
  pub fits : n + stopping a n ≤ left
  -- with a cap of at least 1 and something left it moves
  pub moves : 1 ≤ c → 1 ≤ left → 1 ≤ n

-- a tick makes u after w: it changes by no more than a, and is above the cap only while slowed as much as may be
pub record Lawful (a c w u : ℕ) : Type 0 where
  pub up : u ≤ w + a
  pub down : w ≤ u + a
  pub capped : (u ≤ c) ⊎ (u ≡ w - a)

pub data Run (a c x v : ℕ) : ℕ → ℕ → ℕ → Type 0 where
  begin : Run a c x v 0 x v
  further : (n y w u : ℕ) → Run a c x v n y w → Lawful a c w u → Run a c x v (suc n) (y + u) u

pub record SpeedLaws : Type 0 where
  -- from every speed with which it can stop within what is left
  pub next : (a c left v : ℕ) → 1 ≤ a → stopping a v ≤ left → Next a c left v (next_speed a c left v)
  -- slowed as much as may be, it makes its stopping distance
  pub slows : (a v : ℕ) → 1 ≤ a → stopping a v ≡ (v - a) + stopping a (v - a)
  -- a slow machine stands after one tick more
  pub slow : (a v : ℕ) → v ≤ a → stopping a v ≡ 0
  -- no run that keeps the limits comes to the end l, slow enough to stop there, in fewer ticks
  pub fewest : (a c l x v n w : ℕ) → 1 ≤ a → x + stopping a v ≤ l → Run a c x v n l w → w ≤ a → (pace a c l x v n).at ≡ l
