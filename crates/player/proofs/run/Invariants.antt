use Rattle.std.proofs.Common.{ℕ, ◌-◌, List, vec_items}
use Rattle.control.specs.Controls.{State}
use Rattle.player.specs.Plays.{Ran}
use Rattle.player.proofs.run.Given as goal

-- what the ticks that are left make of it, all ticks make of it from the beginning
abbrev pub invariant-loop-made : goal.invariant-loop-made
invariant-loop-made l =
    (left : ℕ) (c : State) (out : List ℕ) → Ran 65536 (l.n - l.made) left l.control (vec_items l.out) c out → Ran 65536 l.n left l.initial.control (vec_items l.initial.out) c out
