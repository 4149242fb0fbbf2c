-- What the contracts of the player cite. Assumes nothing.
--   ticked m ts n w   the lines that n ticks print, from the work w on
--   left_over         how many of n ticks are left to make once there are `full` bytes to write out
--   Ran               what a run of up to n ticks leaves, with so many left to make
use Rattle.std.specs.Prelude.{◌≡◌, ℕ, zero, suc, ◌-◌, ◌<◌, ◌≤◌, cond, List, [], ◌++◌, length, nat_le}
use Rattle.program.specs.declared.target.Target.{Target}
use Rattle.work.specs.declared.machine.Machine.{Machine}
use Rattle.work.specs.declared.work.Work.{Work}
use Rattle.work.specs.declared.event.Event.TheVariants.{Tick}
use Rattle.work.specs.Works.{happens, row, ticks}
use Rattle.pulses.specs.Motors.{pulses}
use Rattle.control.specs.Controls.{State}
use Rattle.decimal.specs.Lines.{pulses_line}

unfoldable pub ticked : Machine → List Target → ℕ → Work → List ℕ
ticked m ts zero w = []
ticked m ts (suc n) w = pulses_line (pulses m ts Tick w) ++ ticked m ts n (happens m ts Tick w)

unfoldable pub left_over : ℕ → Machine → List Target → ℕ → Work → List ℕ → ℕ
left_over full m ts zero w out = zero
left_over full m ts (suc n) w out =
    cond (nat_le full (length out)) (suc n) (left_over full m ts n (happens m ts Tick w) (out ++ pulses_line (pulses m ts Tick w)))

pub record Ran (full n left : ℕ) (c : State) (out : List ℕ) (d : State) (out' : List ℕ) : Type 0 where
  pub some : left ≤ n
  pub machine : d.machine ≡ c.machine
  pub targets : d.targets ≡ c.targets
  -- so many ticks were made, and each one's pulses were put
  pub work : d.work ≡ row c.machine c.targets (ticks (n - left)) c.work
  pub lines : out' ≡ out ++ ticked c.machine c.targets (n - left) c.work
  -- it ends with the last tick, or with the first line that makes it enough
  pub stops : left ≡ left_over full c.machine c.targets n c.work out
  -- it gets on, unless the lines were too many before
  pub onward : length out < full → 1 ≤ n → left < n
