-- What the contract of counting lines cites. Assumes nothing.
--   feeds bs    how many line feeds there are in bs
use Rattle.std.specs.Prelude.{ℕ, List, ◌==◌, count_by}

abbrev pub feeds : List ℕ → ℕ
feeds bs = count_by (λ b. b == 10) bs
