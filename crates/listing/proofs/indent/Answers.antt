use Rattle.std.proofs.Common.{◌≡◌, ℕ, List, ◌++◌, string_bytes, codes, sym, ap, ◌∙◌, arith}
use Rattle.std.proofs.lemmas.List.{append-nil, append_assoc}
use Rattle.listing.specs.Writing.{indented}
use Rattle.listing.proofs.Written.{indented_more}
use Rattle.listing.proofs.indent.Goals as goal

pub loop-init : goal.loop-init
unfolding indented
loop-init c = sym (append-nil (string_bytes c.args.text.now))

pub loop-preserved : goal.loop-preserved
loop-preserved c =
    c.in_ok-push_str.ensures.bytes
    ∙ ap (λ (bs : List ℕ). bs ++ codes "  ") c.loop.invariant
    ∙ append_assoc (string_bytes c.args.text.now) (indented c.loop.counter) (codes "  ")
    ∙ ap (λ (bs : List ℕ). string_bytes c.args.text.now ++ bs) (sym (indented_more c.loop.counter))

pub returns : goal.returns
returns c =
    let e : c.loop.counter ≡ c.args.levels = omega arith in
    c.loop.invariant ∙ ap (λ (n : ℕ). string_bytes c.args.text.now ++ indented n) e
