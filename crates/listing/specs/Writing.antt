-- What the contracts of writing cite: the bytes of each line. Assumes nothing.
--   line_text    a line as it is written
use Rattle.std.specs.Prelude.{ℕ, zero, suc, ◌+◌, ◌-◌, min, List, [], ◌∷◌, ◌++◌, codes}
use Rattle.std.specs.Fmt.{signed_decimal}
use Rattle.listing.specs.declared.Line.{Line}
use Rattle.listing.specs.declared.Line.TheVariants.{Go, Use, Begin, BeginSub, End}
use Rattle.text.specs.declared.phase.Block.TheVariants.{Repeat, Offset, Turned, Mirrored}
use Rattle.text.specs.declared.phase.Move.{Move}
use Rattle.text.specs.declared.phase.Move.TheVariants.{Absolute, Incremental}

abbrev pub move_text : Move → List ℕ
move_text Absolute = codes "to "
move_text Incremental = codes "by "

abbrev pub line_text : Line → List ℕ
line_text (Go m x y speed) = move_text m ++ (signed_decimal x ++ (codes " " ++ (signed_decimal y ++ (codes " fast " ++ (signed_decimal speed ++ codes ";")))))
line_text (Use name) = codes "sub " ++ (signed_decimal name ++ codes ";")
line_text (Begin (Repeat n)) = signed_decimal n ++ codes " times {"
line_text (Begin (Offset x y)) = codes "at " ++ (signed_decimal x ++ (codes " " ++ (signed_decimal y ++ codes " {")))
line_text (Begin Turned) = codes "turn {"
line_text (Begin Mirrored) = codes "mirror {"
line_text (BeginSub name) = codes "sub " ++ (signed_decimal name ++ codes " {")
line_text End = codes "}"

-- how deep a line stands behind lines that left off at a depth, and how deep it leaves off
abbrev pub depth_of : Line → ℕ → ℕ
depth_of (Go m x y speed) d = d
depth_of (Use name) d = d
depth_of (Begin b) d = d
depth_of (BeginSub name) d = d
depth_of End d = d - 1

abbrev pub depth_after : Line → ℕ → ℕ
depth_after (Go m x y speed) d = d
depth_after (Use name) d = d
depth_after (Begin b) d = d + 1
depth_after (BeginSub name) d = d + 1
depth_after End d = d - 1

unfoldable pub indented : ℕ → List ℕ
indented zero = []
indented (suc n) = codes "  " ++ indented n

abbrev pub whole_line : ℕ → Line → List ℕ
whole_line d l = indented (min (depth_of l d) 20) ++ (line_text l ++ codes "\n")

unfoldable pub written : ℕ → List Line → List ℕ
written d [] = []
written d (l ∷ ls) = whole_line d l ++ written (depth_after l d) ls
