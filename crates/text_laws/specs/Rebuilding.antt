-- From nodes back to the program: each node is built from those before it, which it must name rightly. Assumes nothing.
--   Part             a part that is built: its node, and its lines
--   then t u         lines, and more lines behind them
--   place_of a ps    the first place of a node's part
--   push_node        a node's part, on those that wait to be used, the newest first; none where it names others
--   rebuilt          the same for all nodes; what waits at last is the program's lines, and below it its sub-programs
--   program_of       the program of nodes in reading order
use Rattle.std.specs.Prelude.{ℕ, ◌+◌, cond, ◌&&◌, List, [], ◌∷◌, map, reverse, ℤ, pos, Some, None, Option}
use Rattle.text.specs.declared.phase.Block.TheVariants.{Repeat, Offset, Turned, Mirrored}
use Rattle.text.specs.declared.phase.Move.TheVariants.{Absolute, Incremental}
use Rattle.text_laws.specs.Trees.{Tree, done, go, call, block, Program}
use Rattle.std.specs.Option.{option_map, option_and_then}
use Rattle.std.specs.Ordering.{int_eq}

pub record Part : Type 0 where
  pub name : ℤ
  pub lines : Tree

abbrev pub part : ℤ → Tree → Part
part n t = record { name = n; lines = t }

unfoldable pub then : Tree → Tree → Tree
then done u = u
then (go m x y speed t) u = go m x y speed (then t u)
then (call k t) u = call k (then t u)
then (block b body t) u = block b body (then t u)

unfoldable pub place_of : ℤ → List Part → Option ℕ
place_of a [] = None
place_of a (p ∷ ps) = cond (int_eq p.name a) (Some 0) (option_map (λ k. k + 1) (place_of a ps))

-- the newest part, or the newest two, if they are so named
abbrev pub newest : ℤ → List Part → (Tree → Tree) → ℤ → Option (List Part)
newest a [] f n = None
newest a (p ∷ ps) f n = cond (int_eq p.name a) (Some (part n (f p.lines) ∷ ps)) None

abbrev pub newest_two : ℤ → ℤ → List Part → ℤ → Option (List Part)
newest_two a b [] n = None
newest_two a b (q ∷ []) n = None
newest_two a b (q ∷ p ∷ ps) n = cond (int_eq p.name a && int_eq q.name b) (Some (part n (then p.lines q.lines) ∷ ps)) None

abbrev pub push_node : ℤ → ℤ → ℤ → ℤ → ℤ → List Part → Option (List Part)
push_node n k a b c ps =
    cond (int_eq k (pos 0)) (Some (part n done ∷ ps))
    (cond (int_eq k (pos 1)) (Some (part n (go Absolute a b c done) ∷ ps))
    (cond (int_eq k (pos 2)) (Some (part n (go Incremental a b c done) ∷ ps))
    (cond (int_eq k (pos 3)) (newest_two a b ps n)
    (cond (int_eq k (pos 4)) (newest b ps (λ t. block (Repeat a) t done) n)
    (cond (int_eq k (pos 5)) (newest c ps (λ t. block (Offset a b) t done) n)
    (cond (int_eq k (pos 6)) (newest a ps (λ t. block Turned t done) n)
    (cond (int_eq k (pos 7)) (newest a ps (λ t. block Mirrored t done) n)
    (cond (int_eq k (pos 8)) (option_map (λ i. part n (call i done) ∷ ps) (place_of a (reverse ps)))
    None))))))))

abbrev pub whole : List Part → Option Program
whole [] = None
whole (p ∷ ps) = Some (record { subs = map (λ (q : Part). q.lines) (reverse ps); main = p.lines })

unfoldable pub rebuilt : ℕ → List ℤ → List Part → Option Program
rebuilt n [] ps = whole ps
rebuilt n (k ∷ []) ps = None
rebuilt n (k ∷ a ∷ []) ps = None
rebuilt n (k ∷ a ∷ b ∷ []) ps = None
rebuilt n (k ∷ a ∷ b ∷ c ∷ ns) ps = option_and_then (λ qs. rebuilt (n + 1) ns qs) (push_node (pos n) k a b c ps)

abbrev pub program_of : List ℤ → Option Program
program_of ns = rebuilt 0 ns []
