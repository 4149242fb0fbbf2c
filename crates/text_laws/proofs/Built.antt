-- The words of a tree are read as that tree's nodes. Assumes nothing.
use Rattle.std.proofs.Common.{◌≡◌, ℕ, ◌+◌, ◌^◌, ◌<◌, List, [], ◌∷◌, length, pos, Ok, sym, refl, ap, ◌∙◌, subst, arith}
use Rattle.std.proofs.lemmas.List.{length_push}
use Rattle.std.proofs.lemmas.Bool.{lt-ltb, le-ltb, eq-eqb}
use Rattle.listing.specs.declared.Line.{Line}
use Rattle.listing.specs.declared.Line.TheVariants.{Begin, End}
use Rattle.text.specs.declared.phase.Block.{Block}
use Rattle.text.specs.declared.phase.Block.TheVariants.{Repeat, Offset, Turned, Mirrored}
use Rattle.text.specs.declared.phase.Head.TheVariants.{Lines, SubProgram}
use Rattle.text.specs.declared.phase.Move.TheVariants.{Absolute, Incremental}
use Rattle.text.specs.declared.phase.Phase.TheVariants.{Line as at_line}
use Rattle.text.specs.Nodes.{Laid, node}
use Rattle.text.specs.Reading.{Held, empty, put_line, begun, read}
use Rattle.text_laws.specs.Trees.{Tree, done, go, call, block, Program, ProperTree, ProperSubs, Proper, tree_lines, sub_lines, program_lines, anew, with_block, lay, Told, tell, tell_all, told, nodes_of}
use Rattle.listing.specs.Writing.{written}
use Rattle.text_laws.proofs.Alone.{runs, tokens_toks, read_from_runs}
use Rattle.text_laws.proofs.Spelled.{all_tokens, SmallLines, toks_written}

abbrev with_laid : Laid → Held → Held
with_laid l h = record h { laid = l }

-- a block's head, and its end
block_begins : (b : Block) (h : Held) (ls : List Line) → runs at_line h (all_tokens (Begin b ∷ ls)) ≡ runs at_line (begun (Lines b) h) (all_tokens ls)
unfolding runs all_tokens
block_begins (Repeat n) h ls = refl
block_begins (Offset x y) h ls = refl
block_begins Turned h ls = refl
block_begins Mirrored h ls = refl

pub takes_tree : (t : Tree) (h : Held) (ls : List Line) → ProperTree (length h.subs) t → runs at_line h (all_tokens (tree_lines t ls)) ≡ runs at_line (with_laid (lay h.subs t h.laid) h) (all_tokens ls)
unfolding runs all_tokens tree_lines lay
takes_tree done h ls ok = refl
takes_tree (go Absolute x y speed t) h ls ok = takes_tree t (put_line (node (pos 1) x y speed) h) ls ok.3
takes_tree (go Incremental x y speed t) h ls ok = takes_tree t (put_line (node (pos 2) x y speed) h) ls ok.3
takes_tree (call k t) h ls ok = rw (lt-ltb k (length h.subs) ok.0) (takes_tree t (put_line (node (pos 8) _ (pos 0) (pos 0)) h) ls ok.1)
takes_tree (block b body t) h ls ok =
    block_begins b h (tree_lines body (End ∷ tree_lines t ls))
    ∙ takes_tree body (begun (Lines b) h) (End ∷ tree_lines t ls) ok.1
    ∙ takes_tree t (with_laid (with_block b (lay h.subs body (anew h.laid.nodes)) h.laid) h) ls ok.2

-- between sub-programs no block is open, and no line has begun
abbrev between : Told → Held
between s = record { laid = anew s.nodes; blocks = []; subs = s.subs }

takes_subs : (k : ℕ) (ts : List Tree) (s : Told) (ls : List Line) → k ≡ length s.subs → ProperSubs k ts → runs at_line (between s) (all_tokens (sub_lines k ts ls)) ≡ runs at_line (between (tell_all ts s)) (all_tokens ls)
unfolding runs all_tokens sub_lines tell_all
takes_subs k [] s ls e ok = refl
takes_subs k (t ∷ ts) s ls e ok =
    rw (le-ltb k (length s.subs) (omega arith), eq-eqb k (length s.subs) e)
    (takes_tree t (begun SubProgram (between s)) (End ∷ sub_lines (k + 1) ts ls) (subst (λ (n : ℕ). ProperTree n t) e ok.0)
    ∙ takes_subs (k + 1) ts (tell s.subs (lay s.subs t (anew s.nodes))) ls (ap (λ (n : ℕ). n + 1) e ∙ sym (length_push s.subs _)) ok.1)

-- the numbers of its lines fit
small_tree : (n : ℕ) (t : Tree) (ls : List Line) → n < 2 ^ 63 → ProperTree n t → SmallLines ls → SmallLines (tree_lines t ls)
unfolding tree_lines
small_tree n done ls h ok rest = rest
small_tree n (go m x y speed t) ls h ok rest = ((ok.0, ok.1, ok.2), small_tree n t ls h ok.3 rest)
small_tree n (call k t) ls h ok rest = (omega (arith, ok.0), small_tree n t ls h ok.1 rest)
small_tree n (block b body t) ls h ok rest = (ok.0, small_tree n body (End ∷ tree_lines t ls) h ok.1 (tt, small_tree n t ls h ok.2 rest))

small_subs : (k : ℕ) (ts : List Tree) (ls : List Line) → k + length ts < 2 ^ 63 → ProperSubs k ts → SmallLines ls → SmallLines (sub_lines k ts ls)
unfolding sub_lines
small_subs k [] ls h ok rest = rest
small_subs k (t ∷ ts) ls h ok rest =
    (omega arith, small_tree k t (End ∷ sub_lines (k + 1) ts ls) (omega arith) ok.0 (tt, small_subs (k + 1) ts ls (omega arith) ok.1 rest))

pub length_told : (ts : List Tree) (s : Told) → length (tell_all ts s).subs ≡ length s.subs + length ts
unfolding tell_all
length_told [] s = omega arith
length_told (t ∷ ts) s =
    let next : Told = tell s.subs (lay s.subs t (anew s.nodes)) in
    let more : length next.subs ≡ length s.subs + 1 = length_push s.subs _ in
    length_told ts next ∙ omega arith

pub read_written : (p : Program) → Proper p → read (written 0 (program_lines p)) ≡ Ok (nodes_of p)
unfolding runs all_tokens
read_written p ok =
    let main : List Line = tree_lines p.main [] in
    let small = small_subs 0 p.subs main (omega (arith, ok.few)) ok.subs_proper (small_tree (length p.subs) p.main [] ok.few ok.main_proper tt) in
    let long : length p.subs ≡ length (told p).subs = omega (arith, length_told p.subs (record { nodes = []; subs = [] })) in
    read_from_runs (written 0 (program_lines p)) (nodes_of p)
    (ap (runs at_line empty) (tokens_toks (written 0 (program_lines p)) ∙ toks_written 0 (program_lines p) small)
    ∙ takes_subs 0 p.subs (record { nodes = []; subs = [] }) main refl ok.subs_proper
    ∙ takes_tree p.main (between (told p)) [] (subst (λ (n : ℕ). ProperTree n p.main) long ok.main_proper))
