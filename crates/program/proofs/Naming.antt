-- Nodes name only earlier ones, so what a node means does not depend on how many come after it.
use Rattle.std.proofs.Common.{◌≡◌, ℕ, zero, suc, ◌<◌, true, false, ltb, List, ℤ, refl, ap, inl, inr, arith}
use Rattle.std.proofs.lemmas.Bool.{ltb-true, lt-ltb, le-ltb, and_parts, cases_lt}
use Rattle.program.specs.Answers.{names_below}
use Rattle.program.specs.Nodes.{node_in, program, programs}
use Rattle.program.specs.Programs.{Program, next, times, at, turn, mirror, sub}
use Rattle.program.specs.Sound.{meant}
use Rattle.program.specs.declared.node.Node.{Node}
use Rattle.program.specs.declared.node.Node.TheVariants.{Nothing, To, By, Next, Times, At, Turn, Mirror, Sub}

-- a node's name, once it is in the table, stays
pub staged : (xs : List ℤ) (n k : ℕ) → k < n → programs xs n k ≡ meant xs k
unfolding programs
staged xs zero k l = absurd (omega arith)
staged xs (suc n) k l =
    elim (cases_lt k n) [
      | inl h ↦ rw (lt-ltb k n h) (staged xs n k h)
      | inr h ↦ let e : k ≡ n = omega arith in rw e
    ]

program_same : (f g : ℕ → Program) (n : ℕ) (v : Node) → ((k : ℕ) → k < n → f k ≡ g k) → names_below n v ≡ true → program f v ≡ program g v
program_same f g n Nothing e h = refl
program_same f g n (To p v) e h = refl
program_same f g n (By d v) e h = refl
program_same f g n (Next a b) e h =
    let x = e a (ltb-true a n (and_parts (ltb a n) (ltb b n) h).0) in
    let y = e b (ltb-true b n (and_parts (ltb a n) (ltb b n) h).1) in λ i. next (x i) (y i)
program_same f g n (Times m a) e h = ap (times m) (e a (ltb-true a n h))
program_same f g n (At d a) e h = ap (at d) (e a (ltb-true a n h))
program_same f g n (Turn a) e h = ap turn (e a (ltb-true a n h))
program_same f g n (Mirror a) e h = ap mirror (e a (ltb-true a n h))
program_same f g n (Sub a) e h = ap sub (e a (ltb-true a n h))

-- a node means what its kind says of the nodes that it names
pub meant_step : (xs : List ℤ) (n : ℕ) → names_below n (node_in xs n) ≡ true → meant xs n ≡ program (meant xs) (node_in xs n)
unfolding programs
meant_step xs n h =
    let e : ltb n n ≡ false = le-ltb n n (omega arith) in
    rw e (program_same (programs xs n) (meant xs) n (node_in xs n) (staged xs n) h)
