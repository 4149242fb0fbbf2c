-- What is answered to a program in numbers, for all numbers. Assumes nothing.
--   said xs            the targets that the program in numbers says, begun at 0, 0
--   first_in test n xs the place of the first of xs that fails the test, counted from n
--   first_failing test n l  the first of the l numbers from n on that fails the test
--   names_below n v    the names that the node v uses are below n
--   well_named xs n    the node n has a kind, and names only earlier ones
--   well_shaped, small, reached   what the numbers, each number and each target must be
--   else_by a b        the first of two refusals that applies
--   refusal_of xs most the first check that fails, where there is room for so many targets. It is a function of
--                      the numbers and the room, so exactly one answer applies
--   answer, room_after what say answers, and what the room holds then
use Rattle.std.specs.Prelude.{ℕ, zero, suc, ◌*◌, ◌^◌, min, Bool, true, cond, ◌&&◌, List, [], ◌∷◌, length, ℤ, pos, Some, None, Option, ◌==◌, nat_le, nat_lt, unsigned_abs}
use Rattle.std.specs.List.{flat_map}
use Rattle.std.specs.Option.{option_map}
use Rattle.geometry.specs.Places.{within}
use Rattle.refusal.specs.declared.Refusal.{Refusal}
use Rattle.refusal.specs.declared.Refusal.TheVariants.{Shape, Number, Node, Room, Reach}
use Rattle.program.specs.Programs.{went}
use Rattle.count.specs.Counts.{size}
use Rattle.program.specs.Nodes.{number, nodes, node_in, whole}
use Rattle.program.specs.Rooms.{over, in_numbers}
use Rattle.program.specs.declared.node.Node as node
use Rattle.program.specs.declared.node.Node.TheVariants.{Nothing, To, By, Next, Times, At, Turn, Mirror, Sub}
use Rattle.program.specs.declared.target.Target.{Target}
use Rattle.program.specs.declared.entry.Said.{Said}
use Rattle.program.specs.declared.entry.Said.TheVariants.{Says, Refused}

abbrev pub said : List ℤ → List Target
said xs = (went (whole xs) (record { x = pos 0; y = pos 0 })).says

unfoldable pub first_in : {A : Type 0} → (A → Bool) → ℕ → List A → Option ℕ
first_in test n [] = None
first_in test n (x ∷ xs) = cond (test x) (first_in test (suc n) xs) (Some n)

unfoldable pub first_failing : (ℕ → Bool) → ℕ → ℕ → Option ℕ
first_failing test n zero = None
first_failing test n (suc l) = cond (test n) (first_failing test (suc n) l) (Some n)

abbrev pub names_below : ℕ → node.Node → Bool
names_below n Nothing = true
names_below n (To p v) = true
names_below n (By d v) = true
names_below n (Next a b) = nat_lt a n && nat_lt b n
names_below n (Times m a) = nat_lt a n
names_below n (At d a) = nat_lt a n
names_below n (Turn a) = nat_lt a n
names_below n (Mirror a) = nat_lt a n
names_below n (Sub a) = nat_lt a n

abbrev pub well_named : List ℤ → ℕ → Bool
well_named xs n = nat_le (size (number xs n 0)) 8 && names_below n (node_in xs n)

abbrev pub well_shaped : List ℤ → Bool
well_shaped xs = length xs == 4 * nodes xs && (nat_le 1 (nodes xs) && nat_le (nodes xs) 1024)

abbrev pub small : ℤ → Bool
small z = nat_le (unsigned_abs z) 1000000

abbrev pub reached : Target → Bool
reached t = within 1000000000 t.to

abbrev pub else_by : Option Refusal → Option Refusal → Option Refusal
else_by None b = b
else_by (Some e) b = Some e

abbrev pub refusal_of : List ℤ → ℕ → Option Refusal
refusal_of xs most =
    else_by (cond (well_shaped xs) None (Some (Shape (length xs))))
    (else_by (option_map Number (first_in small 0 xs))
    (else_by (option_map Node (first_failing (well_named xs) 0 (nodes xs)))
    (else_by (cond (nat_le (length (said xs)) most) None (Some (Room (min (length (said xs)) (2 ^ 40)))))
    (option_map Reach (first_in reached 0 (said xs))))))

abbrev pub answer : Option Refusal → List Target → Said
answer None ts = Says (length ts)
answer (Some e) ts = Refused e

abbrev pub room_after : Option Refusal → List Target → List ℤ → List ℤ
room_after None ts room = over room 0 (flat_map in_numbers ts)
room_after (Some e) ts room = room
