-- What the checks of the nodes find. Assumes nothing.
--   meant xs n       what the node n means
--   counted f v      how many targets the node v says, where f k is how many the node k says
--   Sound xs         what the first three checks found
--   Counts xs cs n   cs has the counts of the first n nodes, cut to 2^64 - 1
--   CountsOr xs r    every node has a kind and names only earlier ones, and these are the counts of all, or the first that
--                    does not is refused
use Rattle.std.specs.Prelude.{◌≡◌, ℕ, suc, ◌+◌, ◌-◌, ◌*◌, ◌^◌, ◌<◌, ◌≤◌, min, true, List, length, ℤ, pos, Some, None, Ok, Err, Result, slice_index, slice_index_or, unsigned_abs}
use Rattle.std.specs.Option.{option_map}
use Rattle.refusal.specs.declared.Refusal.{Refusal}
use Rattle.refusal.specs.declared.Refusal.TheVariants.{Node as Unnamed}
use Rattle.program.specs.Answers.{first_failing, well_named}
use Rattle.program.specs.Nodes.{nodes, programs}
use Rattle.program.specs.Programs.{Program, count}
use Rattle.program.specs.declared.node.Node.{Node}
use Rattle.program.specs.declared.node.Node.TheVariants.{Nothing, To, By, Next, Times, At, Turn, Mirror, Sub}

abbrev pub meant : List ℤ → ℕ → Program
meant xs n = programs xs (suc n) n

abbrev pub counted : (ℕ → ℕ) → Node → ℕ
counted f Nothing = 0
counted f (To p v) = 1
counted f (By d v) = 1
counted f (Next a b) = f a + f b
counted f (Times n a) = n * f a
counted f (At d a) = f a
counted f (Turn a) = f a
counted f (Mirror a) = f a
counted f (Sub a) = f a

pub record Sound (xs : List ℤ) : Type 0 where
  pub shaped : length xs ≡ 4 * nodes xs
  pub some : 1 ≤ nodes xs
  pub few : nodes xs ≤ 1024
  pub small : (k : ℕ) → unsigned_abs (slice_index_or xs k (pos 0)) ≤ 1000000
  pub named : (n : ℕ) → n < nodes xs → well_named xs n ≡ true

pub record Counts (xs : List ℤ) (cs : List ℕ) (n : ℕ) : Type 0 where
  pub long : length cs ≡ 1024
  pub each : (k : ℕ) → k < n → slice_index cs k ≡ min (count (meant xs k)) (2 ^ 64 - 1)

abbrev pub CountsOr : List ℤ → Result (List ℕ) Refusal → Type 0
CountsOr xs (Ok cs) = (first_failing (well_named xs) 0 (nodes xs) ≡ None) × Counts xs cs (nodes xs)
CountsOr xs (Err e) = option_map Unnamed (first_failing (well_named xs) 0 (nodes xs)) ≡ Some e
