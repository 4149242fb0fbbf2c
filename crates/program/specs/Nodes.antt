-- A program in numbers: nodes of four numbers, each naming only earlier ones. Assumes nothing.
--   number xs n j   the number j of the node n
--   nodes xs        how many nodes the numbers make
--   node_of k a b c the node of kind k with the numbers a b c; a kind above 8 is refused before it is looked at
--   decoded q       the node of the four numbers q, if there is its kind
--   node_in xs n    the node n
--   program f v     what the node v means, where f k is what the node k means
--   programs xs n   what each of the first n nodes means; a node from n on means nothing
--   whole xs        the program: the last node
use Rattle.std.specs.Prelude.{ℕ, zero, suc, ◌+◌, ◌-◌, ◌*◌, ◌/◌, cond, List, length, ℤ, pos, Some, None, Option, ◌==◌, nat_le, nat_lt, slice_index_or}
use Rattle.count.specs.Counts.{size}
use Rattle.program.specs.Programs.{Program, nothing, to, by, next, times, at, turn, mirror, sub}
use Rattle.program.specs.declared.node.Node.{Node}
use Rattle.program.specs.declared.node.Node.TheVariants.{Nothing, To, By, Next, Times, At, Turn, Mirror, Sub}

abbrev pub number : List ℤ → ℕ → ℕ → ℤ
number xs n j = slice_index_or xs (4 * n + j) (pos 0)

abbrev pub nodes : List ℤ → ℕ
nodes xs = length xs / 4

abbrev pub node_of : ℕ → ℤ → ℤ → ℤ → Node
node_of k a b c =
    cond (k == 0) Nothing
    (cond (k == 1) (To (record { x = a; y = b }) (size c))
    (cond (k == 2) (By (record { x = a; y = b }) (size c))
    (cond (k == 3) (Next (size a) (size b))
    (cond (k == 4) (Times (size a) (size b))
    (cond (k == 5) (At (record { x = a; y = b }) (size c))
    (cond (k == 6) (Turn (size a))
    (cond (k == 7) (Mirror (size a)) (Sub (size a)))))))))

abbrev pub decoded : List ℤ → Option Node
decoded q =
    cond (nat_le (size (slice_index_or q 0 (pos 0))) 8)
    (Some (node_of (size (slice_index_or q 0 (pos 0))) (slice_index_or q 1 (pos 0)) (slice_index_or q 2 (pos 0)) (slice_index_or q 3 (pos 0)))) None

unfoldable pub node_in : List ℤ → ℕ → Node
node_in xs n = node_of (size (number xs n 0)) (number xs n 1) (number xs n 2) (number xs n 3)

abbrev pub program : (ℕ → Program) → Node → Program
program f Nothing = nothing
program f (To p v) = to p v
program f (By d v) = by d v
program f (Next a b) = next (f a) (f b)
program f (Times n a) = times n (f a)
program f (At d a) = at d (f a)
program f (Turn a) = turn (f a)
program f (Mirror a) = mirror (f a)
program f (Sub a) = sub (f a)

unfoldable pub programs : List ℤ → ℕ → ℕ → Program
programs xs zero k = nothing
programs xs (suc n) k = cond (nat_lt k n) (programs xs n k) (program (programs xs n) (node_in xs n))

abbrev pub whole : List ℤ → Program
whole xs = programs xs (nodes xs) (nodes xs - 1)
