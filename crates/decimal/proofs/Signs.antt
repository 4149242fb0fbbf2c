-- The pulses of an axis are the number, with a sign before it above 0 too.
use Rattle.std.proofs.Common.{◌≡◌, zero, suc, true, false, ◌∷◌, ℤ, pos, negsuc, refl, arith, ltb-false}
use lib.Signed.{lt_z}
use Rattle.std.specs.Fmt.{digits, signed_decimal}
use Rattle.decimal.specs.Lines.{pulse_text}

pub above : (z : ℤ) → lt_z (pos 0) z ≡ true → 43 ∷ signed_decimal z ≡ pulse_text z
above (pos zero) h = cc
above (pos (suc n)) h = refl
above (negsuc n) h = cc

pub not_above : (z : ℤ) → lt_z (pos 0) z ≡ false → signed_decimal z ≡ pulse_text z
unfolding digits
not_above (pos zero) h = refl
not_above (pos (suc n)) h = absurd (omega (arith, ltb-false 0 (suc n) h))
not_above (negsuc n) h = refl
