-- What the contracts of the entries over lent numbers cite. Assumes nothing.
--   targets_in xs    the targets that numbers say, three each: x, y, fast
--   work_in xs       the work that seven numbers say: how many targets are behind it, where the line began, how far it has
--                    come, how fast, 1 if held, the percent
--   memory_of w      those seven numbers, in their normal form
--   sound xs         memory that is taken: seven numbers within 2 * 10^9, a percent of at most 100, a line that began within 10^9
--   InRange         numbers that an event can work on
--   event_of k n     the event of kind k: 0 tick, 1 hold, 2 go, 3 the knob turned to n
--   first cs         the refusal of the first check that fails
--   machine_checks, targets_checks, memory_checks, event_checks   the checks of each part of what is lent, in the order of the list
--   checks, refusal_of   all checks of an event on lent numbers, in that order, and the first that fails
--   Checked cs r P   a part with the checks cs is read as r: of what is read P holds, or the first check fails
--   DoneSays        what the entry answers and what memory holds then
use Rattle.std.specs.Prelude.{◌≡◌, ℕ, ◌%◌, ◌≤◌, Bool, true, cond, ◌&&◌, List, [], ◌∷◌, ◌++◌, length, ℤ, pos, Some, None, Option, Result, MatchResult, ◌==◌, nat_le, slice_index_or, unsigned_abs}
use Rattle.std.specs.List.{list_all}
use Rattle.refusal.specs.declared.Refusal.{Refusal}
use Rattle.refusal.specs.declared.EventPart.TheVariants.{Kind, Number}
use Rattle.refusal.specs.declared.LentPart.TheVariants.{Targets, Place as far, Memory}
use Rattle.refusal.specs.declared.MachinePart.TheVariants.{Change, Top}
use Rattle.refusal.specs.declared.Refusal.TheVariants.{Machine as Unfit, Lent, Event as Unknown}
use Rattle.geometry.specs.Places.{within, Within}
use Rattle.count.specs.Counts.{size}
use Rattle.program.specs.Targets.{target_of}
use Rattle.program.specs.declared.target.Target.{Target}
use Rattle.work.specs.declared.machine.Machine.{Machine}
use Rattle.work.specs.declared.work.Work.{Work}
use Rattle.work.specs.declared.event.Event.{Event}
use Rattle.work.specs.declared.event.Event.TheVariants.{Tick, Hold, Go, Knob}
use Rattle.work.specs.Works.{happens}
use Rattle.pulses.specs.declared.Pulses.{Pulses}
use Rattle.pulses.specs.Motors.{pulses}
use Rattle.control.specs.Controls.{in_range, fit, near}
use Rattle.entry.specs.declared.done.Done.{Done}
use Rattle.entry.specs.declared.done.Done.TheVariants.{Moved, Turned}

unfoldable pub targets_in : List ℤ → List Target
targets_in [] = []
targets_in (x ∷ []) = []
targets_in (x ∷ (y ∷ [])) = []
targets_in (x ∷ (y ∷ (f ∷ xs))) = target_of x y f ∷ targets_in xs

abbrev pub nth : List ℤ → ℕ → ℤ
nth xs i = slice_index_or xs i (pos 0)

abbrev pub work_in : List ℤ → Work
work_in xs = record {
  motion = record { behind = size (nth xs 0); from = record { x = nth xs 1; y = nth xs 2 }; done = size (nth xs 3); speed = size (nth xs 4) };
  panel = record { held = (size (nth xs 5) == 1); percent = size (nth xs 6) };
}

abbrev pub memory_of : Work → List ℤ
memory_of w =
    pos w.motion.behind ∷ (w.motion.from.x ∷ (w.motion.from.y ∷ (pos w.motion.done ∷ (pos w.motion.speed
    ∷ (pos (cond w.panel.held 1 0) ∷ (pos w.panel.percent ∷ []))))))

abbrev pub all_within : ℕ → List ℤ → Bool
all_within m xs = list_all (λ x. nat_le (unsigned_abs x) m) xs

abbrev pub sound : List ℤ → Bool
sound xs =
    (length xs == 7)
    && (all_within 2000000000 xs && (nat_le (size (nth xs 6)) 100 && within 1000000000 (record { x = nth xs 1; y = nth xs 2 })))

-- work whose numbers are in the ranges that its code asks for, also work that no row of events leads to
pub record InRange (m : Machine) (ts : List Target) (w : Work) : Type 0 where
  pub fits : fit m ≡ true
  pub close : near ts ≡ true
  pub begins : Within 1000000000 w.motion.from
  pub few : w.motion.behind ≤ 2000000000
  pub short : w.motion.done ≤ 2000000000
  pub slow : w.motion.speed ≤ 2000000000

abbrev pub event_of : (kind number : ℕ) → Event
event_of k n = cond (k == 0) Tick (cond (k == 1) Hold (cond (k == 2) Go (Knob n)))

-- a check, and the refusal where it fails
pub record Check : Type 0 where
  pub passes : Bool
  pub «else» : Refusal

abbrev pub first : List Check → Option Refusal
first [] = None
first (c ∷ cs) = cond c.passes (first cs) (Some c.«else»)

abbrev pub machine_checks : (a t : ℕ) → List Check
machine_checks a t = record { passes = in_range a; «else» = Unfit Change } ∷ (record { passes = in_range t; «else» = Unfit Top } ∷ [])

abbrev pub targets_checks : List ℤ → List Check
targets_checks xs =
    record { passes = (length xs % 3 == 0); «else» = Lent Targets } ∷ (record { passes = near (targets_in xs); «else» = Lent far } ∷ [])

abbrev pub memory_checks : List ℤ → List Check
memory_checks xs = record { passes = sound xs; «else» = Lent Memory } ∷ []

abbrev pub event_checks : (kind number : ℕ) → List Check
event_checks k n = record { passes = nat_le k 3; «else» = Unknown Kind } ∷ (record { passes = nat_le n 1000; «else» = Unknown Number } ∷ [])

abbrev pub checks : (a t : ℕ) → (targets memory : List ℤ) → (kind number : ℕ) → List Check
checks a t targets memory kind number = machine_checks a t ++ (targets_checks targets ++ (memory_checks memory ++ event_checks kind number))

abbrev pub refusal_of : (a t : ℕ) → (targets memory : List ℤ) → (kind number : ℕ) → Option Refusal
refusal_of a t targets memory kind number = first (checks a t targets memory kind number)

abbrev pub Checked : {A : Type 0} → List Check → Result A Refusal → (A → Type 0) → Type 0
Checked cs r P = MatchResult r (λ x. (first cs ≡ None) × P x) (λ e. first cs ≡ Some e)

abbrev pub moved_by : Pulses → Done
moved_by d = Moved d.x d.y

abbrev pub DoneSays : Option Refusal → Machine → (targets memory : List ℤ) → Event → Done → (left : List ℤ) → Type 0
DoneSays (Some e) m targets memory x r left = (r ≡ Turned e) × (left ≡ memory)
DoneSays None m targets memory x r left =
    (r ≡ moved_by (pulses m (targets_in targets) x (work_in memory))) × (left ≡ memory_of (happens m (targets_in targets) x (work_in memory)))
