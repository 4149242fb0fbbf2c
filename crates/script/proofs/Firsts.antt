-- The first fault of the orders that are left.
use Rattle.std.proofs.Common.{◌≡◌, ℕ, ◌+◌, ◌<◌, ◌≤◌, List, length, get_or, drop, None, Option, refl}
use Rattle.std.proofs.lemmas.List.{drop_more, drop_all}
use Rattle.script.specs.declared.script.Order.{Order}
use Rattle.script.specs.declared.fault.Fault.{Fault}
use Rattle.script.specs.Scripts.{or_else, first}

pub first_drop : (f : Order → Option Fault) (os : List Order) (i : ℕ) (d : Order) (a : Option Fault) → i < length os → f (get_or os i d) ≡ a → first f (drop i os) ≡ or_else a (first f (drop (i + 1) os))
unfolding first
first_drop f os i d a h e = rw (drop_more os i d h, e) refl

pub first_end : (f : Order → Option Fault) (os : List Order) (i : ℕ) → length os ≤ i → first f (drop i os) ≡ None
unfolding first
first_end f os i h = rw (drop_all i os h) refl
