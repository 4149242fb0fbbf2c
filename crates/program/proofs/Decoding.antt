-- A node is decoded from its own four numbers, which are taken from the numbers of all nodes.
use Rattle.std.proofs.Common.{◌≡◌, ℕ, zero, suc, ◌*◌, ◌<◌, Bool, true, false, cond, leb, List, [], get_or, take, drop, ℤ, pos, Some, None, refl, ap, ◌∙◌, arith}
use Rattle.std.proofs.lemmas.Bool.{and_parts}
use Rattle.std.proofs.lemmas.List.{drop-drop, get_or-take, get_or-drop}
use Rattle.std.specs.Simd.{first_chunks}
use Rattle.count.specs.Counts.{size}
use Rattle.program.specs.Answers.{names_below, well_named}
use Rattle.program.specs.Nodes.{number, nodes, node_in, decoded}
use Rattle.program.specs.declared.node.Node.{Node}

chunk_at : {X : Type 0} (k n : ℕ) (xs : List X) (i : ℕ) → i < n → get_or (first_chunks k n xs) i [] ≡ take k (drop (k * i) xs)
chunk_at k zero xs i l = absurd (omega arith)
chunk_at k (suc n) xs zero l = let e : k * 0 ≡ 0 = omega arith in rw e
chunk_at k (suc n) xs (suc i) l =
    chunk_at k n (drop k xs) i (omega arith)
    ∙ ap (take k) (drop-drop (k * i) k xs ∙ ap (λ (m : ℕ). drop m xs) (omega arith))

number_at : (xs : List ℤ) (n j : ℕ) → j < 4 → get_or (take 4 (drop (4 * n) xs)) j (pos 0) ≡ number xs n j
number_at xs n j l = get_or-take 4 (drop (4 * n) xs) j (pos 0) l ∙ get_or-drop (4 * n) xs j (pos 0)

some_if : (b : Bool) (v w : Node) → Some v ≡ cond b (Some w) None → (v ≡ w) × (b ≡ true)
some_if true v w e = (cc, refl)
some_if false v w e = let z : ◌≡◌ {A = ℕ} 0 1 = cc in absurd (omega arith)

none_if : (b : Bool) (w : Node) → None ≡ cond b (Some w) None → b ≡ false
none_if true w e = let z : ◌≡◌ {A = ℕ} 0 1 = cc in absurd (omega arith)
none_if false w e = refl

module _ (xs : List ℤ) (qs : List (List ℤ)) (n : ℕ) (e : qs ≡ first_chunks 4 (nodes xs) xs) (l : n < nodes xs) where
  row : get_or qs n [] ≡ take 4 (drop (4 * n) xs)
  row = ap (λ (q : List (List ℤ)). get_or q n []) e ∙ chunk_at 4 (nodes xs) xs n l

  decoded_at : decoded (get_or qs n []) ≡ cond (leb (size (number xs n 0)) 8) (Some (node_in xs n)) None
  unfolding node_in
  decoded_at =
      ap decoded row
      ∙ rw (number_at xs n 0 (omega arith), number_at xs n 1 (omega arith), number_at xs n 2 (omega arith), number_at xs n 3 (omega arith))

  -- a node that is well named is read
  pub read_named : well_named xs n ≡ true → decoded (get_or qs n []) ≡ Some (node_in xs n)
  read_named w = decoded_at ∙ rw (and_parts (leb (size (number xs n 0)) 8) (names_below n (node_in xs n)) w).0

  -- a node that is read has a kind
  pub read_is : (v : Node) → Some v ≡ decoded (get_or qs n []) → v ≡ node_in xs n
  read_is v h = (some_if (leb (size (number xs n 0)) 8) v (node_in xs n) (h ∙ decoded_at)).0

  pub read_names : (v : Node) → Some v ≡ decoded (get_or qs n []) → well_named xs n ≡ names_below n v
  read_names v h =
      let p = some_if (leb (size (number xs n 0)) 8) v (node_in xs n) (h ∙ decoded_at) in rw (p.1, p.0)

  pub unread : None ≡ decoded (get_or qs n []) → well_named xs n ≡ false
  unread h = rw (none_if (leb (size (number xs n 0)) 8) (node_in xs n) (h ∙ decoded_at))
