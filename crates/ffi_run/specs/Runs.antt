-- What the contract of a whole run for C cites. Assumes nothing.
--   run_refusal a t xs most   the first check of a run that fails: of the program xs, then of its machine
--   end_of a t xs n    where the run of the program xs is after n ticks
--   end_from c n       where the control c is after n ticks more
--   Ran                what a run answers: its end, its refusal, or that memory was wanting
--   RunTold           the same as a code, the sum of the pulses and the place
use Rattle.std.specs.Prelude.{◌≡◌, ℕ, ◌⊎◌, List, ℤ, Some, None, Ok, Err, Option, Result}
use Rattle.refusal.specs.declared.Refusal.{Refusal}
use Rattle.refusal.specs.declared.failed.Failed.{Failed}
use Rattle.refusal.specs.declared.failed.Failed.TheVariants.{Refused, Memory}
use Rattle.geometry.specs.declared.place.Place.{Place}
use Rattle.program.specs.Answers.{refusal_of, else_by, said}
use Rattle.work.specs.declared.machine.Machine.{Machine}
use Rattle.work.specs.Works as works
use Rattle.control.specs.Controls.{load_of, origin, State}
use Rattle.ffi.specs.Calls.{code_of, place_after, moved_after}

abbrev pub fault_of : Result Machine Refusal → Option Refusal
fault_of (Ok m) = None
fault_of (Err e) = Some e

abbrev pub run_refusal : (a t : ℕ) → List ℤ → (most : ℕ) → Option Refusal
run_refusal a t xs most = else_by (refusal_of xs most) (fault_of (load_of a t (said xs)))

abbrev pub end_of : (a t : ℕ) → List ℤ → (n : ℕ) → Place
end_of a t xs n = works.place (said xs) (works.after (record { change = a; top = t }) (said xs) origin (works.ticks n)).motion

abbrev pub end_from : State → (n : ℕ) → Place
end_from c n = works.place c.targets (works.row c.machine c.targets (works.ticks n) c.work).motion

-- memory may be wanting only where the program is not refused
abbrev pub Ran : (a t : ℕ) → List ℤ → (most n : ℕ) → Result Place (Failed Refusal) → Type 0
Ran a t xs most n (Ok p) = (run_refusal a t xs most ≡ None) × (p ≡ end_of a t xs n)
Ran a t xs most n (Err (Refused e)) = run_refusal a t xs most ≡ Some e
Ran a t xs most n (Err Memory) = refusal_of xs most ≡ None

abbrev pub RunTold : (a t : ℕ) → List ℤ → (most n : ℕ) → (moved : List ℤ) → (place : List ℕ) → (code : ℕ) → (moved1 : List ℤ) → (place1 : List ℕ) → Type 0
RunTold a t xs most n moved place code moved1 place1 =
    ((code ≡ code_of (run_refusal a t xs most)) × (moved1 ≡ moved_after (run_refusal a t xs most) (end_of a t xs n).x (end_of a t xs n).y moved)
    × (place1 ≡ place_after (run_refusal a t xs most) place))
    ⊎ ((code ≡ 18446744073709551615) × (refusal_of xs most ≡ None) × (moved1 ≡ moved) × (place1 ≡ place))
