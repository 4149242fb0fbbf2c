-- The whole way from a text to its targets. Assumes nothing.
--   Says x most r   of a text that is read as x, with room for so many targets: its targets; or the word that can't stand where
--                   it stands; or the first check of the program's numbers that fails; or want of memory
--   LoadsNodes, LoadsText   the same on the way to a loaded control: its targets, its machine, its work at the beginning; or
--                   the first refusal, of the text, of the program's numbers, or of the machine
--   failure_of e    a text that can't be read, as a failure
--   refusal_in f    the refusal that a failure is, none for want of memory
use Rattle.std.specs.Prelude.{◌≡◌, ℕ, ◌⊎◌, List, ℤ, Some, None, Ok, Err, vec_items, Option, Result, Vec}
use Rattle.std.specs.declared.alloc.Global.{Global}
use Rattle.refusal.specs.declared.Refusal as refusal
use Rattle.refusal.specs.declared.Refusal.TheVariants.{Text}
use Rattle.refusal.specs.declared.failed.Failed.{Failed}
use Rattle.refusal.specs.declared.failed.Failed.TheVariants as failed
use Rattle.program.specs.Answers.{refusal_of, said}
use Rattle.program.specs.declared.target.Target.{Target}
use Rattle.work.specs.Works.{begun}
use Rattle.control.specs.Controls.{load_of, origin}
use Rattle.control.specs.declared.control.Control.{Control}
use Rattle.text.specs.declared.error.Unreadable as unreadable
use Rattle.loader.specs.declared.failure.Failure.{Failure}
use Rattle.loader.specs.declared.failure.Failure.TheVariants.{Unreadable, Refused, Memory}

abbrev pub Says : Result (List ℤ) unreadable.Unreadable → ℕ → Result (Vec Target Global) Failure → Type 0
Says x most (Ok v) = (xs : List ℤ) × (x ≡ Ok xs) × (refusal_of xs most ≡ None) × (vec_items v ≡ said xs)
Says x most (Err (Unreadable u)) = x ≡ Err u
Says x most (Err (Refused e v)) = (x ≡ Ok (vec_items v)) × (refusal_of (vec_items v) most ≡ Some e)
Says x most (Err Memory) = Unit {0}

abbrev pub failure_of : Failed unreadable.Unreadable → Failure
failure_of (failed.Refused u) = Unreadable u
failure_of failed.Memory = Memory

abbrev pub refusal_in : Failure → Option refusal.Refusal
refusal_in (Unreadable u) = Some (Text u.line)
refusal_in (Refused e v) = Some e
refusal_in Memory = None

-- a control loaded with what numbers say: at the beginning, with that machine and those targets
pub record LoadsWith (xs : List ℤ) (most a t : ℕ) (c : Control) : Type 0 where
  pub says : refusal_of xs most ≡ None
  pub targets : c.targets ≡ said xs
  pub machine : load_of a t (said xs) ≡ Ok c.machine
  pub work : c.work ≡ begun origin

-- the refusal of numbers: of the program first, and then of the machine
pub record TurnsAway (xs : List ℤ) (most a t : ℕ) (e : refusal.Refusal) : Type 0 where
  pub first : (refusal_of xs most ≡ Some e) ⊎ ((refusal_of xs most ≡ None) × (load_of a t (said xs) ≡ Err e))

abbrev pub LoadsNodes : List ℤ → (most a t : ℕ) → Result Control (Failed refusal.Refusal) → Type 0
LoadsNodes xs most a t (Ok c) = LoadsWith xs most a t c
LoadsNodes xs most a t (Err (failed.Refused e)) = TurnsAway xs most a t e
LoadsNodes xs most a t (Err failed.Memory) = Unit {0}

abbrev pub LoadsText : Result (List ℤ) unreadable.Unreadable → (most a t : ℕ) → Result Control Failure → Type 0
LoadsText x most a t (Ok c) = (xs : List ℤ) × (x ≡ Ok xs) × LoadsWith xs most a t c
LoadsText x most a t (Err (Unreadable u)) = x ≡ Err u
LoadsText x most a t (Err (Refused e v)) = (xs : List ℤ) × (x ≡ Ok xs) × TurnsAway xs most a t e
LoadsText x most a t (Err Memory) = Unit {0}
