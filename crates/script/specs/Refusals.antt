-- What contracts say of a script that is turned away. Assumes nothing.
--   refusal e        the refusal of an error
--   unread n w       the line n and the word of it that can't stand where it stands
--   told s           what a script that was read says
--   goes_on e n s ls what a script says whose first n lines said s, and whose others are ls; line e where none has a word
--   has_machine s ls whether a script that began so, and goes on with ls, has a machine: ls say it, if s doesn't
--   Adds n s l t     t is what the first n lines said, s, and then the line l
--   Stops n s l f    f is why that line can't be read, or, behind a machine, the want of memory
--   Said n s l t r   r says that t is what the first n lines said, s, and then the line l: or why that line stops it
--   Reading s r      r is what a script says, or the line that can't be read and why, or the want of memory
--   Behind ls r      where r is the want of memory, the first of the lines ls with a word says a machine
--   Unfit s f        f is the first number out of its limits of a script that says s
--   Answers s r      r is what reading a script comes to that says s: the script, the line that can't be read, the first
--                    number out of its limits, or the want of memory
use Rattle.std.specs.Prelude.{◌≡◌, ℕ, ◌+◌, List, ◌∷◌, Some, None, Ok, Err, vec_items, Option, Result, IsSome, Bool, true}
use Rattle.refusal.specs.declared.Refusal.{Refusal}
use Rattle.refusal.specs.declared.EventPart.TheVariants as event
use Rattle.refusal.specs.declared.LentPart.TheVariants as lent
use Rattle.refusal.specs.declared.MachinePart.TheVariants as machine
use Rattle.refusal.specs.declared.Refusal.TheVariants as refused
use Rattle.refusal.specs.declared.failed.Failed.{Failed}
use Rattle.refusal.specs.declared.failed.Failed.TheVariants.{Refused, Memory}
use Rattle.script.specs.declared.script.Script.{Script}
use Rattle.script.specs.declared.fault.Fault.{Fault}
use Rattle.script.specs.declared.fault.Fault.TheVariants.{Change, Top, Far, Knob}
use Rattle.script.specs.declared.fault.Wrong.{Wrong}
use Rattle.script.specs.declared.fault.ScriptError.{ScriptError}
use Rattle.script.specs.declared.fault.ScriptError.TheVariants.{Text, Number}
use Rattle.script.specs.Orders.{misread}
use Rattle.script.specs.Scripts.{Told, Unread, orders_from, told_by, script_from, says_machine, unfit}

abbrev pub refusal : ScriptError → Refusal
refusal (Text line wrong) = refused.Text line
refusal (Number (Change n)) = refused.Machine machine.Change
refusal (Number (Top n)) = refused.Machine machine.Top
refusal (Number (Far p)) = refused.Lent lent.Place
refusal (Number (Knob n)) = refused.Event event.Number

abbrev pub unread : ℕ → Wrong → Unread
unread n w = record { line = n; word = misread w }

abbrev pub told : Script → Told
told s = record { machine = s.machine; orders = vec_items s.orders }

abbrev pub goes_on : ℕ → ℕ → Option Script → List (List ℕ) → Result Told Unread
goes_on e n None ls = script_from e n ls
goes_on e n (Some s) ls = told_by s.machine (orders_from n (vec_items s.orders) ls)

abbrev pub has_machine : Option Script → List (List ℕ) → Bool
has_machine None ls = says_machine ls
has_machine (Some s) ls = true

pub record Adds (n : ℕ) (s : Option Script) (l : List ℕ) (t : Option Script) : Type 0 where
  pub says : (e : ℕ) (ls : List (List ℕ)) → goes_on e n s (l ∷ ls) ≡ goes_on e (n + 1) t ls
  pub machine : (ls : List (List ℕ)) → has_machine s (l ∷ ls) ≡ has_machine t ls

abbrev pub Stops : ℕ → Option Script → List ℕ → Failed ScriptError → Type 0
Stops n s l (Refused (Text line wrong)) = (e : ℕ) (ls : List (List ℕ)) → goes_on e n s (l ∷ ls) ≡ Err (unread line wrong)
Stops n s l (Refused (Number f)) = ⊥
Stops n s l Memory = IsSome s

abbrev pub Said : ℕ → Option Script → List ℕ → Option Script → Result (Unit {0}) (Failed ScriptError) → Type 0
Said n s l t (Ok u) = Adds n s l t
Said n s l t (Err f) = Stops n s l f

abbrev pub Reading : Result Told Unread → Result Script (Failed ScriptError) → Type 0
Reading s (Ok r) = s ≡ Ok (told r)
Reading s (Err (Refused (Text line wrong))) = s ≡ Err (unread line wrong)
Reading s (Err (Refused (Number f))) = ⊥
Reading s (Err Memory) = Unit {0}

abbrev pub Behind : List (List ℕ) → Result Script (Failed ScriptError) → Type 0
Behind ls (Ok r) = Unit {0}
Behind ls (Err (Refused e)) = Unit {0}
Behind ls (Err Memory) = says_machine ls ≡ true

abbrev pub Unfit : Result Told Unread → Fault → Type 0
Unfit (Ok t) f = unfit t ≡ Some f
Unfit (Err n) f = ⊥

abbrev pub Answers : Result Told Unread → Result Script (Failed ScriptError) → Type 0
Answers s (Ok r) = (s ≡ Ok (told r)) × (unfit (told r) ≡ None)
Answers s (Err (Refused (Text line wrong))) = s ≡ Err (unread line wrong)
Answers s (Err (Refused (Number f))) = Unfit s f
Answers s (Err Memory) = Unit {0}
