-- What holds where no check fails.
use Rattle.std.proofs.Common.{◌≡◌, ℕ, zero, suc, ◌≤◌, true, List, [], ◌∷◌, length, ℤ, pos, negsuc, nat_abs, Some, None, Ok, arith, leb-true}
use Rattle.std.proofs.lemmas.Bool.{and_parts}
use Rattle.std.proofs.lemmas.Bool.Decides.{nat_tests}
use Rattle.refusal.specs.declared.Refusal.{Refusal}
use Rattle.work.specs.declared.machine.Machine.{Machine}
use Rattle.control.specs.Controls.{in_range, machine_of, near}
use Rattle.control.proofs.States.{taken}
use Rattle.entry.specs.Entries.{nth, targets_in, work_in, all_within, sound, first, targets_checks, memory_checks, event_checks, refusal_of, InRange}
use Rattle.count.specs.Counts.{size}

-- the refusal, where the machine is taken: of memory, or none
module _ (a t : ℕ) (targets memory : List ℤ) (kind number : ℕ) (m : Machine) (e : Ok m ≡ machine_of a t) (h : first (targets_checks targets) ≡ None) where
  pub memory_refused : (r : Refusal) → first (memory_checks memory) ≡ Some r → refusal_of a t targets memory kind number ≡ Some r
  memory_refused r i = let k = taken a t m e in rw (k.changes, k.moves) (grind arith)

  pub none_refused : first (memory_checks memory) ≡ None → first (event_checks kind number) ≡ None → None ≡ refusal_of a t targets memory kind number
  none_refused i j = let k = taken a t m e in rw (k.changes, k.moves) (grind arith)

small_at : (m : ℕ) (xs : List ℤ) (i : ℕ) → all_within m xs ≡ true → nat_abs (nth xs i) ≤ m
small_at m [] i h = omega arith
small_at m (x ∷ xs) zero h = leb-true _ _ (and_parts _ _ h).0
small_at m (x ∷ xs) (suc i) h = small_at m xs i (and_parts _ _ h).1

size_le : (z : ℤ) → size z ≤ nat_abs z
size_le (pos n) = omega arith
size_le (negsuc n) = omega arith

size_at : (m : ℕ) (xs : List ℤ) (i : ℕ) → all_within m xs ≡ true → size (nth xs i) ≤ m
size_at m xs i h = omega (arith, small_at m xs i h, size_le (nth xs i))

module _ (a t : ℕ) (targets memory : List ℤ) (kind number : ℕ) (e : None ≡ refusal_of a t targets memory kind number) where
  every : (in_range a ≡ true) × (in_range t ≡ true) × (near (targets_in targets) ≡ true) × (sound memory ≡ true)
  every = (grind arith, grind arith, grind arith, grind arith)

  pub seven : length memory ≡ 7
  seven = grind (arith, nat_tests, every)

  pub passed : InRange (record { change = a; top = t }) (targets_in targets) (work_in memory)
  passed =
      let w : all_within 2000000000 memory ≡ true = grind (arith, nat_tests, every) in
      record {
        fits = rw (every.0, every.1);
        close = every.2;
        begins = record { across = grind (arith, nat_tests, every); along = grind (arith, nat_tests, every) };
        few = size_at 2000000000 memory 0 w;
        short = size_at 2000000000 memory 3 w;
        slow = size_at 2000000000 memory 4 w;
      }
