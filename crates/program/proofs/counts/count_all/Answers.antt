use Rattle.std.proofs.Common.{◌≡◌, ◌<◌, false, true, sym, ap, ◌∙◌, arith}
use Rattle.std.specs.Option.{option_map}
use Rattle.refusal.specs.declared.Refusal.TheVariants.{Node}
use Rattle.program.proofs.Checking.{first_of_more, first_of_here, first_of_none}
use Rattle.program.proofs.Counting.{counts_more}
use Rattle.program.proofs.Decoding.{read_is, read_names, unread}
use Rattle.program.specs.Answers.{well_named, names_below}
use Rattle.program.specs.Nodes.{nodes}
use Rattle.program.proofs.counts.count_all.Goals as goal

pub returns-in_default : goal.returns-in_default
returns-in_default c =
    let xs = c.args.nodes.now in
    let n = c.loop-n.n in
    let l : n < nodes xs = omega (arith, c.as_chunks.ensures.front_len) in
    let e : well_named xs n ≡ false =
    read_names xs c.as_chunks.result.0.now n c.as_chunks.ensures.front l c.in-Some.node c.in-Some.ensures ∙ sym c.if-names_below.ensures in
    ap (option_map Node) (sym c.loop-n.invariant.left ∙ first_of_here (well_named xs) n (nodes xs) l e)

pub returns-in_default-2 : goal.returns-in_default-2
returns-in_default-2 c =
    let xs = c.args.nodes.now in
    let n = c.loop-n.n in
    let l : n < nodes xs = omega (arith, c.as_chunks.ensures.front_len) in
    let e : well_named xs n ≡ false = unread xs c.as_chunks.result.0.now n c.as_chunks.ensures.front l c.in_default.ensures in
    ap (option_map Node) (sym c.loop-n.invariant.left ∙ first_of_here (well_named xs) n (nodes xs) l e)

pub loop-n-preserved : goal.loop-n-preserved
loop-n-preserved c =
    let xs = c.args.nodes.now in
    let n = c.loop-n.n in
    let l : n < nodes xs = omega (arith, c.as_chunks.ensures.front_len) in
    let is = read_is xs c.as_chunks.result.0.now n c.as_chunks.ensures.front l c.in-Some.node c.in-Some.ensures in
    let e : well_named xs n ≡ true =
    read_names xs c.as_chunks.result.0.now n c.as_chunks.ensures.front l c.in-Some.node c.in-Some.ensures ∙ sym c.if-names_below.ensures in
    record {
      counted = counts_more xs c.loop-n.counts n c.count.result (omega (arith, c.requires)) (ap (names_below n) (sym is) ∙ sym c.if-names_below.ensures) c.loop-n.invariant.counted (rw is at c.count.ensures);
      left = sym (first_of_more (well_named xs) n (nodes xs) l e) ∙ c.loop-n.invariant.left;
    }

pub returns : goal.returns
returns c =
    let xs = c.args.nodes.now in
    let n = c.loop-n.n in
    let l : n ≡ nodes xs = omega (arith, c.as_chunks.ensures.front_len) in (
      sym c.loop-n.invariant.left ∙ first_of_none (well_named xs) n (nodes xs) (omega arith),
      rw l at c.loop-n.invariant.counted,
    )
