-- Programs as trees of lines: how they are written line by line, and their nodes. Assumes nothing.
--   Tree             lines one after another: a move, the use of a sub-program, a block with lines of its own
--   Program          the sub-programs' lines, by number, and the program's own
--   Proper           its numbers fit 64 bits, and a sub-program uses only those before it
--   program_lines    the lines of its text
--   lay              a tree's nodes, behind those that are there, with the node of each sub-program's body
--   nodes_of         a program's nodes
use Rattle.std.specs.Prelude.{ℕ, ◌+◌, ◌^◌, ◌<◌, List, [], ◌∷◌, ◌++◌, length, ℤ, pos, None, slice_index_or}
use Rattle.std.specs.Int.Signed.{mag}
use Rattle.listing.specs.declared.Line.{Line}
use Rattle.listing.specs.declared.Line.TheVariants.{Go, Use, Begin, BeginSub, End}
use Rattle.text.specs.declared.phase.Block.{Block}
use Rattle.text.specs.declared.phase.Block.TheVariants.{Repeat, Offset, Turned, Mirrored}
use Rattle.text.specs.declared.phase.Move.{Move}
use Rattle.text.specs.Nodes.{Laid, node, move_kind, with_line, body_of, body_nodes, block_node}

-- each kind of line has the lines behind it as its last part
pub data Tree : Type 0 where
  done : Tree
  go : Move → ℤ → ℤ → ℤ → Tree → Tree
  call : ℕ → Tree → Tree
  block : Block → Tree → Tree → Tree

pub record Program : Type 0 where
  pub subs : List Tree
  pub main : Tree

-- a number of 64 bits with its sign
abbrev pub Small : ℤ → Type 0
Small z = mag z < 2 ^ 63

abbrev pub SmallBlock : Block → Type 0
SmallBlock (Repeat n) = Small n
SmallBlock (Offset x y) = Small x × Small y
SmallBlock Turned = Unit {0}
SmallBlock Mirrored = Unit {0}

-- n sub-programs may be used
abbrev pub ProperTree : ℕ → Tree → Type 0
ProperTree n done = Unit {0}
ProperTree n (go m x y speed t) = Small x × Small y × Small speed × ProperTree n t
ProperTree n (call k t) = (k < n) × ProperTree n t
ProperTree n (block b body t) = SmallBlock b × ProperTree n body × ProperTree n t

abbrev pub ProperSubs : ℕ → List Tree → Type 0
ProperSubs n [] = Unit {0}
ProperSubs n (t ∷ ts) = ProperTree n t × ProperSubs (n + 1) ts

pub record Proper (p : Program) : Type 0 where
  pub few : length p.subs < 2 ^ 63
  pub subs_proper : ProperSubs 0 p.subs
  pub main_proper : ProperTree (length p.subs) p.main

-- a tree's lines, before those that follow
unfoldable pub tree_lines : Tree → List Line → List Line
tree_lines done ls = ls
tree_lines (go m x y speed t) ls = Go m x y speed ∷ tree_lines t ls
tree_lines (call k t) ls = Use (pos k) ∷ tree_lines t ls
tree_lines (block b body t) ls = Begin b ∷ tree_lines body (End ∷ tree_lines t ls)

unfoldable pub sub_lines : ℕ → List Tree → List Line → List Line
sub_lines k [] ls = ls
sub_lines k (t ∷ ts) ls = BeginSub (pos k) ∷ tree_lines t (End ∷ sub_lines (k + 1) ts ls)

abbrev pub program_lines : Program → List Line
program_lines p = sub_lines 0 p.subs (tree_lines p.main [])

-- the lines of a block begin anew, behind the nodes that are there
abbrev pub anew : List ℤ → Laid
anew ns = record { nodes = ns; last = None }

-- the body of a block is complete, and its line comes behind the lines before it
abbrev pub with_block : Block → (body before : Laid) → Laid
with_block b body before = with_line (block_node b (body_of body)) (record before { nodes = body_nodes body })

unfoldable pub lay : List ℤ → Tree → Laid → Laid
lay subs done l = l
lay subs (go m x y speed t) l = lay subs t (with_line (node (move_kind m) x y speed) l)
lay subs (call k t) l = lay subs t (with_line (node (pos 8) (slice_index_or subs k (pos 0)) (pos 0) (pos 0)) l)
lay subs (block b body t) l = lay subs t (with_block b (lay subs body (anew l.nodes)) l)

-- the sub-programs come first
pub record Told : Type 0 where
  pub nodes : List ℤ
  pub subs : List ℤ

abbrev pub tell : List ℤ → Laid → Told
tell subs body = record { nodes = body_nodes body; subs = subs ++ body_of body ∷ [] }

unfoldable pub tell_all : List Tree → Told → Told
tell_all [] s = s
tell_all (t ∷ ts) s = tell_all ts (tell s.subs (lay s.subs t (anew s.nodes)))

abbrev pub told : Program → Told
told p = tell_all p.subs (record { nodes = []; subs = [] })

abbrev pub nodes_of : Program → List ℤ
nodes_of p = body_nodes (lay (told p).subs p.main (anew (told p).nodes))
