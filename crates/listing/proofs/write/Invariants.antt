use Rattle.std.proofs.Common.{◌≡◌, ◌≤◌, ◌++◌, drop, string_bytes}
use Rattle.listing.specs.Writing.{written}
use Rattle.listing.proofs.write.Given as goal

abbrev pub invariant-loop-line : goal.invariant-loop-line
invariant-loop-line l = (l.depth ≤ l.line-index) × (string_bytes l.text ++ written l.depth (drop l.line-index l.lines) ≡ written 0 l.lines)
