-- What the contract of reading a script cites: what its lines say, and which of its numbers is out of its limits. Assumes nothing.
--   Unread                a line that can't be read, and the word of it that can't stand where it stands
--   Told                  what a script says: a machine, and orders
--   by_words ws a f       a for a blank line, else f of its first word and the others
--   or_line r n f         f of the value in r; the line n can't be read where there is none
--   orders_from n os ls   the orders os, with those of the lines ls behind them, of which the first is line n
--   told_by m os          the script of a machine and its orders
--   script_from e n ls    the script of such lines, the first with a word being the machine's; line e where none has
--   says_machine ls       whether the first line with a word says a machine; not where none has one
--   reads bs              what a script says, or the line that can't be read, and why
--   or_else a b           the fault a, or b where there is none
--   unless b f            the fault f where b does not hold
--   far o, beyond o       the fault of an order: a target past 10^9 on an axis, a knob above 1,000
--   first f os            the first fault that f finds in the orders os
--   in_limits n           whether a change or a top speed is from 1 to 1,000,000
--   unfit t               the first number out of its limits: the change, the top speed, a place, the knob
use Rattle.std.specs.Prelude.{ℕ, ◌+◌, Bool, cond, ◌&&◌, List, [], ◌∷◌, ◌++◌, Some, None, Ok, Err, Option, Result, nat_le, false, is_ok}
use Rattle.geometry.specs.Places.{within}
use Rattle.script.specs.declared.script.Machine.{Machine}
use Rattle.script.specs.declared.script.Order.{Order}
use Rattle.script.specs.declared.script.Order.TheVariants.{To, Tick, Hold, Go, Knob, Where}
use Rattle.script.specs.declared.fault.Expected.TheVariants as expected
use Rattle.script.specs.declared.fault.Fault.{Fault}
use Rattle.script.specs.declared.fault.Fault.TheVariants as fault
use Rattle.script.specs.Words.{words, lines}
use Rattle.script.specs.Orders.{Misread, order_of, machine_of}
use Rattle.word.specs.Lines.{feeds}

pub record Unread : Type 0 where
  pub line : ℕ
  pub word : Misread

pub record Told : Type 0 where
  pub machine : Machine
  pub orders : List Order

abbrev pub by_words : {A : Type 0} → List (List ℕ) → A → (List ℕ → List (List ℕ) → A) → A
by_words [] a f = a
by_words (k ∷ ws) a f = f k ws

abbrev pub or_line : {A B : Type 0} → Result A Misread → ℕ → (A → Result B Unread) → Result B Unread
or_line (Err w) n f = Err (record { line = n; word = w })
or_line (Ok a) n f = f a

unfoldable pub orders_from : ℕ → List Order → List (List ℕ) → Result (List Order) Unread
orders_from n os [] = Ok os
orders_from n os (l ∷ ls) =
    by_words (words l) (orders_from (n + 1) os ls)
    (λ k ws. or_line (order_of k ws) n (λ o. orders_from (n + 1) (os ++ o ∷ []) ls))

abbrev pub told_by : Machine → Result (List Order) Unread → Result Told Unread
told_by m (Ok os) = Ok (record { machine = m; orders = os })
told_by m (Err u) = Err u

unfoldable pub script_from : ℕ → ℕ → List (List ℕ) → Result Told Unread
script_from e n [] = Err (record { line = e; word = record { found = None; expects = expected.Machine } })
script_from e n (l ∷ ls) =
    by_words (words l) (script_from e (n + 1) ls)
    (λ k ws. or_line (machine_of k ws) n (λ m. told_by m (orders_from (n + 1) [] ls)))

unfoldable pub says_machine : List (List ℕ) → Bool
says_machine [] = false
says_machine (l ∷ ls) = by_words (words l) (says_machine ls) (λ k ws. is_ok (machine_of k ws))

abbrev pub reads : List ℕ → Result Told Unread
reads bs = script_from (feeds bs) 0 (lines bs)

abbrev pub or_else : Option Fault → Option Fault → Option Fault
or_else None b = b
or_else (Some a) b = Some a

abbrev pub unless : Bool → Fault → Option Fault
unless b f = cond b None (Some f)

abbrev pub far : Order → Option Fault
far (To t) = unless (within 1000000000 t.to) (fault.Far t.to)
far (Tick n) = None
far Hold = None
far Go = None
far (Knob n) = None
far Where = None

abbrev pub beyond : Order → Option Fault
beyond (To t) = None
beyond (Tick n) = None
beyond Hold = None
beyond Go = None
beyond (Knob n) = unless (nat_le n 1000) (fault.Knob n)
beyond Where = None

unfoldable pub first : (Order → Option Fault) → List Order → Option Fault
first f [] = None
first f (o ∷ os) = or_else (f o) (first f os)

abbrev pub in_limits : ℕ → Bool
in_limits n = nat_le 1 n && nat_le n 1000000

abbrev pub unfit : Told → Option Fault
unfit t =
    or_else (unless (in_limits t.machine.change) (fault.Change t.machine.change))
    (or_else (unless (in_limits t.machine.top) (fault.Top t.machine.top))
    (or_else (first far t.orders) (first beyond t.orders)))
