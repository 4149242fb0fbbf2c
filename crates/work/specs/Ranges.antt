-- The ranges of numbers that work's code asks for, so that its sums and products fit their types. Assumes nothing.
--   Small a w       speed, steps and targets behind that a tick with the change a can add to
--   Near w next     places within 10^9 and steps within 2 * 10^9, on the way to a target or with none left
--   Ready m w next  with a target left: Small, and a top speed that the percent can be multiplied with
use Rattle.std.specs.Prelude.{ℕ, ◌+◌, ◌^◌, ◌<◌, ◌≤◌, Some, None, Option}
use Rattle.geometry.specs.Places.{Within}
use Rattle.program.specs.declared.target.Target.{Target}
use Rattle.work.specs.declared.machine.Machine.{Machine}
use Rattle.work.specs.declared.motion.Motion.{Motion}

pub record Small (a : ℕ) (w : Motion) : Type 0 where
  pub changes : 1 ≤ a
  pub slow : w.speed + a < 2 ^ 32
  pub short : w.done < 2 ^ 32
  pub few : w.behind + 1 < 2 ^ 64

pub record NearLine (w : Motion) (t : Target) : Type 0 where
  pub begins : Within 1000000000 w.from
  pub ends : Within 1000000000 t.to
  pub short : w.done ≤ 2000000000

abbrev pub Near : Motion → Option Target → Type 0
Near w None = Unit {0}
Near w (Some t) = NearLine w t

pub record Slow (m : Machine) (w : Motion) : Type 0 where
  pub small : Small m.change w
  pub top : m.top < 2 ^ 32

abbrev pub Ready : Machine → Motion → Option Target → Type 0
Ready m w None = Unit {0}
Ready m w (Some t) = Slow m w
