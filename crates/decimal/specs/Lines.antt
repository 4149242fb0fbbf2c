-- What the contracts of printing cite: the bytes of a line. Assumes nothing.
--   pulse_text z     the pulses of an axis, with their sign: +2, 0, -1
--   pulses_line      a tick's pulses
--   place_line       a place
--   target_line      a target, as a program and a script write it
use Rattle.std.specs.Prelude.{ℕ, zero, suc, List, ◌++◌, ℤ, pos, negsuc, codes, decimal}
use Rattle.std.specs.Fmt.{signed_decimal}
use Rattle.geometry.specs.declared.place.Place.{Place}
use Rattle.program.specs.declared.target.Target.{Target}
use Rattle.pulses.specs.declared.Pulses.{Pulses}

abbrev pub pulse_text : ℤ → List ℕ
pulse_text (pos zero) = codes "0"
pulse_text (pos (suc n)) = codes "+" ++ decimal (suc n)
pulse_text (negsuc n) = codes "-" ++ decimal (suc n)

abbrev pub pulses_line : Pulses → List ℕ
pulses_line d = pulse_text d.x ++ (codes " " ++ (pulse_text d.y ++ codes "\n"))

abbrev pub place_line : Place → List ℕ
place_line p = signed_decimal p.x ++ (codes " " ++ (signed_decimal p.y ++ codes "\n"))

abbrev pub target_line : Target → List ℕ
target_line t = codes "to " ++ (signed_decimal t.to.x ++ (codes " " ++ (signed_decimal t.to.y ++ (codes " fast " ++ (decimal t.fast ++ codes "\n")))))
