use Rattle.std.proofs.Common.{◌≡◌, ℕ, ◌/◌, ◌%◌, [], ◌∷◌, Some, false, sym, ap, arith}
use Rattle.std.proofs.lemmas.Fmt.{hex_byte}
use Rattle.std.specs.Fmt.{styled_digits_output, digit_glyph}
use Rattle.text_message.proofs.ByteDisplay.fmt.Goals as goal

pub returns-else-prints-clause-writes : goal.returns-else-prints-clause-writes
returns-else-prints-clause-writes g c =
    let b : ℕ = c.args.self.now.0 in
    let hex : styled_digits_output c.in_radix.result c.laid_out.result ≡ Some (digit_glyph false (b / 16) ∷ digit_glyph false (b % 16) ∷ []) = rw (c.laid_out.ensures, c.in_radix.ensures) (ap Some (hex_byte false b (omega arith))) in
    let w = rw hex at c.write.ensures.writes in
    rw (sym c.if-prints.ensures) w
