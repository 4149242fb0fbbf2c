use Rattle.std.proofs.Common.{ℕ, ◌^◌, ◌-◌, min, ap, ◌∙◌}
use Rattle.program.proofs.Checking.{whole_count}
use Rattle.program.specs.Programs.{count}
use Rattle.program.specs.Sound.{meant}
use Rattle.program.proofs.program.Program.targets.Goals as goal

pub returns : goal.returns
returns c =
    c.count.ensures
    ∙ ap (λ (n : ℕ). min n (2 ^ 64 - 1))
    (ap (λ (k : ℕ). count (meant c.args.self.now.nodes.now k)) c.last.ensures ∙ whole_count c.args.self.now.nodes.now c.args.self.now.sound)
