-- What contracts say of a program's nodes: how lines are laid out, four numbers to a node. Assumes nothing.
--   next_node ns          the number of the node that comes behind the nodes ns
--   move_kind             the kind of a line `to` or `by`
--   with_line             a line's node put behind the lines before it
--   body_of, body_nodes   the node of all lines of a block, where there are none a node of kind 0, and the nodes then
--   block_node            the node of a block, around the node of its lines
--   numbers_of            the four numbers of a node in code
use Rattle.std.specs.Prelude.{◌/◌, List, [], ◌∷◌, ◌++◌, length, ℤ, pos, Some, None, Option}
use Rattle.text.specs.declared.node.Node.{Node}
use Rattle.text.specs.declared.node.Node.TheVariants.{Nothing, Go, Next, Lines, Use}
use Rattle.text.specs.declared.phase.Block.{Block}
use Rattle.text.specs.declared.phase.Block.TheVariants.{Repeat, Offset, Turned, Mirrored}
use Rattle.text.specs.declared.phase.Move.{Move}
use Rattle.text.specs.declared.phase.Move.TheVariants.{Absolute, Incremental}

abbrev pub next_node : List ℤ → ℤ
next_node ns = pos (length ns / 4)

abbrev pub move_kind : Move → ℤ
move_kind Absolute = pos 1
move_kind Incremental = pos 2

abbrev pub node : ℤ → ℤ → ℤ → ℤ → List ℤ
node k a b c = k ∷ a ∷ b ∷ c ∷ []

-- the nodes so far, and the node of the lines of this block so far
pub record Laid : Type 0 where
  pub nodes : List ℤ
  pub last : Option ℤ

-- from the second line on, a node joins the lines so far and this one
abbrev pub joined : Option ℤ → List ℤ → List ℤ → Laid
joined None ns line = record { nodes = ns ++ line; last = Some (next_node ns) }
joined (Some so_far) ns line = record { nodes = (ns ++ line) ++ node (pos 3) so_far (next_node ns) (pos 0); last = Some (next_node (ns ++ line)) }

abbrev pub with_line : List ℤ → Laid → Laid
with_line line l = joined l.last l.nodes line

-- a block has a node of its own, also where it has no lines
abbrev pub body_named : Option ℤ → List ℤ → ℤ
body_named None ns = next_node ns
body_named (Some n) ns = n

abbrev pub body_filled : Option ℤ → List ℤ → List ℤ
body_filled None ns = ns ++ node (pos 0) (pos 0) (pos 0) (pos 0)
body_filled (Some n) ns = ns

abbrev pub body_of : Laid → ℤ
body_of l = body_named l.last l.nodes

abbrev pub body_nodes : Laid → List ℤ
body_nodes l = body_filled l.last l.nodes

-- the line of a block, whose lines have the node body
abbrev pub block_node : Block → ℤ → List ℤ
block_node (Repeat n) body = node (pos 4) n body (pos 0)
block_node (Offset x y) body = node (pos 5) x y body
block_node Turned body = node (pos 6) body (pos 0) (pos 0)
block_node Mirrored body = node (pos 7) body (pos 0) (pos 0)

abbrev pub numbers_of : Node → List ℤ
numbers_of Nothing = node (pos 0) (pos 0) (pos 0) (pos 0)
numbers_of (Go m x y speed) = node (move_kind m) x y speed
numbers_of (Next so_far this) = node (pos 3) so_far this (pos 0)
numbers_of (Lines b body) = block_node b body
numbers_of (Use body) = node (pos 8) body (pos 0) (pos 0)
