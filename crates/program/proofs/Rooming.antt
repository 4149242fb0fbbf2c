-- Writing one run of slots behind another is writing both at once.
use Rattle.std.proofs.Common.{◌≡◌, ℕ, ◌+◌, ◌*◌, ◌≤◌, List, [], ◌∷◌, ◌++◌, length, take, drop, sym, ap, ◌∙◌, append_assoc, append-nil, arith}
use Rattle.std.proofs.lemmas.List.{length-append, map-id, length-take-le, length-drop, take_at, drop_at, drop-drop, drop_all, take-append-drop}
use Rattle.std.proofs.lemmas.List.Concat.{flat_map_single}
use Rattle.std.specs.List.{flat_map}
use Rattle.program.specs.Rooms.{over}

module _ {A : Type 0} where
  pub over_none : (room : List A) (k : ℕ) → over room k [] ≡ room
  over_none room k = let e : k + 0 ≡ k = omega arith in rw e (take-append-drop k room)

  pub length_over : (room xs : List A) (k : ℕ) → k + length xs ≤ length room → length (over room k xs) ≡ length room
  length_over room xs k l = simp (length-append, length-take-le k room (omega arith), length-drop) (omega arith)

  pub over_over : (room xs ys : List A) (k n : ℕ) → k ≤ length room → n ≡ k + length xs → over (over room k xs) n ys ≡ over room k (xs ++ ys)
  over_over room xs ys k n l e =
      let front : List A = take k room ++ xs in
      let rest : List A = drop (k + length xs) room in
      let is : over room k xs ≡ front ++ rest = sym (append_assoc (take k room) xs rest) in
      let long : length front ≡ n = length-append (take k room) xs ∙ omega (arith, length-take-le k room l) in
      let head : take n (over room k xs) ≡ front = ap (take n) is ∙ take_at front rest n long in
      let tail : drop (n + length ys) (over room k xs) ≡ drop (k + length (xs ++ ys)) room =
      sym (drop-drop (length ys) n (over room k xs))
      ∙ ap (drop (length ys)) (ap (drop n) is ∙ drop_at front rest n long)
      ∙ drop-drop (length ys) (k + length xs) room
      ∙ ap (λ (j : ℕ). drop j room) (omega (arith, length-append xs ys)) in
      ap (λ (z : List A). z ++ (ys ++ drop (n + length ys) (over room k xs))) head
      ∙ ap (λ (z : List A). front ++ (ys ++ z)) tail
      ∙ append_assoc (take k room) xs (ys ++ drop (k + length (xs ++ ys)) room)
      ∙ ap (λ (z : List A). take k room ++ z) (sym (append_assoc xs ys (drop (k + length (xs ++ ys)) room)))

  pub over_all : (room xs : List A) → length room ≡ length xs → over room 0 xs ≡ xs
  over_all room xs e =
      let z : drop (0 + length xs) room ≡ [] = drop_all (0 + length xs) room (omega (arith, e)) in
      ap (λ (y : List A). xs ++ y) z ∙ append-nil xs

  pub length_joined : {X : Type 0} (f : X → List A) (w : ℕ) → ((x : X) → length (f x) ≡ w) → (xs : List X) → length (flat_map f xs) ≡ w * length xs
  length_joined f w e [] = omega arith
  length_joined f w e (x ∷ xs) =
      let rest : length (flat_map f xs) ≡ w * length xs = length_joined f w e xs in
      length-append (f x) (flat_map f xs) ∙ omega (arith, e x)

  -- a vector that was filled whole, as it is read back
  pub refilled_whole : (items room room₁ xs : List A) (n : ℕ) → room₁ ≡ over room 0 (flat_map (λ (x : A). x ∷ []) xs) → length room ≡ length xs → n ≡ length xs →
      take n (room₁ ++ drop (length room₁) items) ≡ xs
  refilled_whole items room room₁ xs n e l h =
      let is : room₁ ≡ xs = e ∙ ap (over room 0) (flat_map_single (λ (x : A). x) xs ∙ map-id xs) ∙ over_all room xs l in
      rw is (take_at xs (drop (length xs) items) n (sym h))
