-- A run of ticks: none, or one before the others.
use Rattle.std.proofs.Common.{◌≡◌, ℕ, zero, suc, ◌-◌, ◌<◌, ◌≤◌, true, false, leb, List, ◌++◌, length, sym, refl, ◌∙◌, append_assoc, append-nil, ◌⊎◌, inl, inr, arith}
use Rattle.std.proofs.lemmas.Bool.{le-leb, lt-leb}
use Rattle.program.specs.declared.target.Target.{Target}
use Rattle.work.specs.declared.machine.Machine.{Machine}
use Rattle.work.specs.declared.work.Work.{Work}
use Rattle.work.specs.declared.event.Event.TheVariants.{Tick}
use Rattle.work.specs.Works.{row, ticks}
use Rattle.work.proofs.Arrival.{tick_first}
use Rattle.control.specs.Controls.{State, Happened}
use Rattle.pulses.specs.declared.Pulses.{Pulses}
use Rattle.pulses.specs.Motors.{pulses}
use Rattle.decimal.specs.Lines.{pulses_line}
use Rattle.player.specs.Plays.{ticked, left_over, Ran}

-- no tick is left to make, or there is enough to write out
stopped : (full k : ℕ) (m : Machine) (ts : List Target) (w : Work) (out : List ℕ) → (k ≡ 0) ⊎ (full ≤ length out) → k ≡ left_over full m ts k w out
unfolding left_over
stopped full zero m ts w out h = refl
stopped full (suc k) m ts w out (inl e) = absurd (omega arith)
stopped full (suc k) m ts w out (inr h) = let t : leb full (length out) ≡ true = le-leb full (length out) h in rw t refl

pub none : (full k : ℕ) (c : State) (out : List ℕ) → (k ≡ 0) ⊎ (full ≤ length out) → Ran full k k c out c out
unfolding row ticks ticked
none full k c out h =
    let z : k - k ≡ 0 = omega arith in
    record {
      some = omega arith;
      machine = refl;
      targets = refl;
      work = rw z refl;
      lines = rw z (sym (append-nil out));
      stops = stopped full k c.machine c.targets c.work out h;
      onward = λ short some. omega arith;
    }

pub another : {c d e : State} {full n left : ℕ} {out more out1 : List ℕ} {g : Pulses} → Happened c Tick d → length out < full → g ≡ pulses c.machine c.targets Tick c.work
    → more ≡ out ++ pulses_line g → Ran full n left d more e out1 → Ran full (suc n) left c out e out1
unfolding ticked left_over
another {c} {d} {e} {full} {n} {left} {out} h short i j r =
    let t : leb full (length out) ≡ false = lt-leb full (length out) short in
    let k : suc n - left ≡ suc (n - left) = omega (arith, r.some) in
    record {
      some = omega (arith, r.some);
      machine = r.machine ∙ h.machine;
      targets = r.targets ∙ h.targets;
      work = rw k ((rw (h.machine, h.targets, h.work) at r.work) ∙ sym (tick_first c.machine c.targets (n - left) c.work));
      lines = rw k ((rw (j, i, h.machine, h.targets, h.work) at r.lines) ∙ append_assoc out _ _);
      stops = rw t (rw (j, i, h.machine, h.targets, h.work) at r.stops);
      onward = λ short some. omega (arith, r.some);
    }
