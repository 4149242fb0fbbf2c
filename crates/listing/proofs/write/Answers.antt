use Rattle.std.proofs.Common.{ℕ, ◌+◌, ◌++◌, get_or, drop, pos, string_bytes, sym, ap, ◌∙◌, arith}
use Rattle.listing.specs.declared.Line.{Line}
use Rattle.listing.specs.declared.Line.TheVariants.{Go}
use Rattle.text.specs.declared.phase.Move.TheVariants.{Absolute}
use Rattle.listing.specs.Writing.{written}
use Rattle.listing.proofs.Written.{depth_after_le, written_more, written_all}
use Rattle.listing.proofs.write.Goals as goal

pub loop-line-preserved : goal.loop-line-preserved
loop-line-preserved c =
    let default : Line = Go Absolute (pos 0) (pos 0) (pos 0) in
    let i : ℕ = c.loop-line.line-index in (
      omega (arith, depth_after_le (get_or c.args.lines.now i default) c.loop-line.depth, c.after-depth.ensures),
      ap (λ (d : ℕ). string_bytes c.put.new.text ++ written d (drop (i + 1) c.args.lines.now)) c.after-depth.ensures
          ∙ written_more c.args.lines.now i default c.loop-line.depth (string_bytes c.loop-line.text) (string_bytes c.put.new.text) (omega arith) c.in_ok-put.ensures
          ∙ c.loop-line.invariant.1,
    )

pub returns : goal.returns
returns c = sym (written_all _ _ _ _ c.loop-line-test.false) ∙ c.loop-line.invariant.1
