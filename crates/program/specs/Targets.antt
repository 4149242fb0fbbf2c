-- A target that numbers say. Assumes nothing.
--   target_of x y f   the target x, y at the speed f, or 0 if that is below 0
--   target_in xs      the target that three numbers say
use Rattle.std.specs.Prelude.{List, ℤ, pos, slice_index_or}
use Rattle.count.specs.Counts.{size}
use Rattle.program.specs.declared.target.Target.{Target}

abbrev pub target_of : ℤ → ℤ → ℤ → Target
target_of x y f = record { to = record { x = x; y = y }; fast = size f }

abbrev pub target_in : List ℤ → Target
target_in xs = target_of (slice_index_or xs 0 (pos 0)) (slice_index_or xs 1 (pos 0)) (slice_index_or xs 2 (pos 0))
