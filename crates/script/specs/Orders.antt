-- What the contracts of reading an order cite: what the words of a line say. Assumes nothing.
--   Misread          a word that can't stand where it stands, and what may: no word where the line ends too early
--   misread w        the same, as code tells it
--   Reads s r        r is what s says: a value, or the word that can't stand there
--   instead k e      the word k, where e may stand; or none
--   next r f         f of the value in r, if there is one
--   or_instead o k e the value in o, or the word k where e may stand
--   numbered ws      the number that the words begin with, and the words behind it
--   ended ws a       a, if there are no words left
--   last_of ws       one number and no more
--   speed_of ws      `fast`, a number and no more
--   target_of ws     what stands behind `to`: a place, and how fast
--   named_of k       the order that is the word k alone
--   plain_of k ws    the same, with no words behind it
--   order_of k ws    the order of a line whose first word is k
--   machine_of k ws  the machine of such a line: by how much its speed may change, and the highest
use Rattle.std.specs.Prelude.{◌≡◌, ℕ, cond, List, [], ◌∷◌, ℤ, Some, None, Ok, Err, codes, Option, Result}
use Rattle.std.specs.Option.{option_copied}
use Rattle.std.specs.Str.{bytes_eq}
use Rattle.program.specs.declared.target.Target.{Target}
use Rattle.script.specs.declared.fault.Expected.{Expected}
use Rattle.script.specs.declared.fault.Expected.TheVariants as expected
use Rattle.script.specs.declared.fault.Wrong.{Wrong}
use Rattle.script.specs.declared.script.Machine.{Machine}
use Rattle.script.specs.declared.script.Order.{Order}
use Rattle.script.specs.declared.script.Order.TheVariants.{To, Tick, Hold, Go, Knob, Where}
use Rattle.count.specs.Counts.{size}
use Rattle.word.specs.Numbers.{number_of}

pub record Misread : Type 0 where
  pub found : Option (List ℕ)
  pub expects : Expected

abbrev pub misread : Wrong → Misread
misread w = record { found = option_copied w.found; expects = w.expected }

abbrev pub Reads : {A : Type 0} → Result A Misread → Result A Wrong → Type 0
Reads s (Ok a) = s ≡ Ok a
Reads s (Err w) = s ≡ Err (misread w)

abbrev pub instead : {A : Type 0} → Option (List ℕ) → Expected → Result A Misread
instead k e = Err (record { found = k; expects = e })

abbrev pub next : {A B : Type 0} → Result A Misread → (A → Result B Misread) → Result B Misread
next (Ok a) f = f a
next (Err e) f = Err e

abbrev pub or_instead : {A : Type 0} → Option A → List ℕ → Expected → Result A Misread
or_instead (Some a) k e = Ok a
or_instead None k e = instead (Some k) e

abbrev pub numbered : List (List ℕ) → Result (ℤ × List (List ℕ)) Misread
numbered [] = instead None expected.Number
numbered (w ∷ ws) = next (or_instead (number_of w) w expected.Number) (λ n. Ok (n, ws))

abbrev pub ended : {A : Type 0} → List (List ℕ) → A → Result A Misread
ended [] a = Ok a
ended (w ∷ ws) a = instead (Some w) expected.End

abbrev pub last_of : List (List ℕ) → Result ℤ Misread
last_of ws = next (numbered ws) (λ n. ended n.1 n.0)

abbrev pub speed_of : List (List ℕ) → Result ℤ Misread
speed_of [] = instead None expected.Fast
speed_of (w ∷ ws) = cond (bytes_eq w (codes "fast")) (last_of ws) (instead (Some w) expected.Fast)

abbrev pub target_of : List (List ℕ) → Result Target Misread
target_of ws =
    next (numbered ws) (λ x. next (numbered x.1) (λ y. next (speed_of y.1) (λ f.
    Ok (record { to = record { x = x.0; y = y.0 }; fast = size f }))))

abbrev pub named_of : List ℕ → Option Order
named_of k =
    cond (bytes_eq k (codes "hold")) (Some Hold)
    (cond (bytes_eq k (codes "go")) (Some Go)
    (cond (bytes_eq k (codes "where")) (Some Where) None))

abbrev pub plain_of : List ℕ → List (List ℕ) → Result Order Misread
plain_of k ws = next (or_instead (named_of k) k expected.Order) (ended ws)

abbrev pub order_of : List ℕ → List (List ℕ) → Result Order Misread
order_of k ws =
    cond (bytes_eq k (codes "to")) (next (target_of ws) (λ t. Ok (To t)))
    (cond (bytes_eq k (codes "tick")) (next (last_of ws) (λ n. Ok (Tick (size n))))
    (cond (bytes_eq k (codes "knob")) (next (last_of ws) (λ n. Ok (Knob (size n))))
    (plain_of k ws)))

abbrev pub machine_of : List ℕ → List (List ℕ) → Result Machine Misread
machine_of k ws =
    cond (bytes_eq k (codes "machine"))
    (next (numbered ws) (λ a. next (last_of a.1) (λ b. Ok (record { change = size a.0; top = size b }))))
    (instead (Some k) expected.Machine)
