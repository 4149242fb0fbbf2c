-- What loading a program answers. Assumes nothing.
--   Loaded xs most r   its targets, or the first check that fails, or no memory for what no check fails
use Rattle.std.specs.Prelude.{◌≡◌, ℕ, List, ℤ, Some, None, Ok, Err, vec_items, Result, Vec}
use Rattle.std.specs.declared.alloc.Global.{Global}
use Rattle.refusal.specs.declared.Refusal.{Refusal}
use Rattle.refusal.specs.declared.failed.Failed.{Failed}
use Rattle.refusal.specs.declared.failed.Failed.TheVariants.{Refused, Memory}
use Rattle.program.specs.Answers.{refusal_of, said}
use Rattle.program.specs.declared.target.Target.{Target}

abbrev pub Loaded : List ℤ → ℕ → Result (Vec Target Global) (Failed Refusal) → Type 0
Loaded xs most (Ok v) = (refusal_of xs most ≡ None) × (vec_items v ≡ said xs)
Loaded xs most (Err (Refused e)) = refusal_of xs most ≡ Some e
Loaded xs most (Err Memory) = refusal_of xs most ≡ None
