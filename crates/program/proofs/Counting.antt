-- Counts that stop at a largest number: cutting the parts first changes nothing.
use Rattle.std.proofs.Common.{◌≡◌, ℕ, zero, suc, ◌+◌, ◌-◌, ◌*◌, ◌^◌, ◌<◌, min, true, ltb, List, length, get_or, set, ℤ, sym, refl, ap, ◌∙◌, inl, inr, arith}
use Rattle.std.proofs.lemmas.List.{length-set, get_or-set_same, get_or-set_other}
use Rattle.std.proofs.lemmas.Bool.{ltb-true, and_parts, cases_lt, cases_eq}
use Rattle.program.proofs.Naming.{meant_step}
use Rattle.program.specs.Answers.{names_below}
use Rattle.program.specs.Nodes.{node_in, program}
use Rattle.program.specs.Programs.{Program, count}
use Rattle.program.specs.Sound.{meant, counted, Counts}
use Rattle.program.specs.declared.node.Node.{Node}
use Rattle.program.specs.declared.node.Node.TheVariants.{Nothing, To, By, Next, Times, At, Turn, Mirror, Sub}

cut_times : (n c m : ℕ) → min (n * min c m) m ≡ min (n * c) m
cut_times zero c m = omega arith
cut_times (suc n) c m =
    elim (cases_lt c m) [
      | inl h ↦ let e : min c m ≡ c = omega arith in rw e
      | inr h ↦ let e : min c m ≡ m = omega arith in rw e (omega arith)
    ]

-- the count of a node, from counts that were cut
pub counted_cut : (f g : ℕ → ℕ) (m n : ℕ) (v : Node) → ((k : ℕ) → k < n → f k ≡ min (g k) m) → names_below n v ≡ true →
    min (counted f v) m ≡ min (counted g v) m
counted_cut f g m n Nothing e h = refl
counted_cut f g m n (To p v) e h = refl
counted_cut f g m n (By d v) e h = refl
counted_cut f g m n (Next a b) e h =
    let x = e a (ltb-true a n (and_parts (ltb a n) (ltb b n) h).0) in
    let y = e b (ltb-true b n (and_parts (ltb a n) (ltb b n) h).1) in omega arith
counted_cut f g m n (Times k a) e h = rw (e a (ltb-true a n h)) (cut_times k (g a) m)
counted_cut f g m n (At d a) e h = rw (e a (ltb-true a n h)) (omega arith)
counted_cut f g m n (Turn a) e h = rw (e a (ltb-true a n h)) (omega arith)
counted_cut f g m n (Mirror a) e h = rw (e a (ltb-true a n h)) (omega arith)
counted_cut f g m n (Sub a) e h = rw (e a (ltb-true a n h)) (omega arith)

count_program : (f : ℕ → Program) (v : Node) → count (program f v) ≡ counted (λ k. count (f k)) v
unfolding count
count_program f Nothing = refl
count_program f (To p v) = refl
count_program f (By d v) = refl
count_program f (Next a b) = refl
count_program f (Times n a) = refl
count_program f (At d a) = refl
count_program f (Turn a) = refl
count_program f (Mirror a) = refl
count_program f (Sub a) = refl

pub count_meant : (xs : List ℤ) (n : ℕ) → names_below n (node_in xs n) ≡ true →
    count (meant xs n) ≡ counted (λ k. count (meant xs k)) (node_in xs n)
count_meant xs n h = ap count (meant_step xs n h) ∙ count_program (meant xs) (node_in xs n)

-- one node more
pub counts_more : (xs : List ℤ) (cs : List ℕ) (n r : ℕ) → n < 1024 → names_below n (node_in xs n) ≡ true → Counts xs cs n →
    r ≡ min (counted (λ k. get_or cs k 0) (node_in xs n)) (2 ^ 64 - 1) → Counts xs (set cs n r) (n + 1)
counts_more xs cs n r l w h e =
    let z : r ≡ min (count (meant xs n)) (2 ^ 64 - 1) =
    e ∙ counted_cut (λ k. get_or cs k 0) (λ k. count (meant xs k)) (2 ^ 64 - 1) n (node_in xs n) h.each w
    ∙ ap (λ (c : ℕ). min c (2 ^ 64 - 1)) (sym (count_meant xs n w)) in
    let lt : n < length cs = omega (arith, h.long) in
    record {
      long = length-set cs n r ∙ h.long;
      each = λ k kl. elim (cases_eq k n) [
        | inl a ↦ rw (a, get_or-set_same cs n r 0 lt) z
        | inr a ↦ get_or-set_other cs n k r 0 a ∙ h.each k (omega (arith, kl, a))
      ];
    }
