-- Walks one after the other, and what each kind of node owes.
use Rattle.std.proofs.Common.{◌≡◌, ℕ, suc, ◌+◌, ◌-◌, ◌*◌, ◌<◌, ◌≤◌, Bool, true, false, cond, List, [], ◌∷◌, ◌++◌, length, Some, None, Ok, Err, Option, Result, sym, refl, ap, ◌∙◌, subst, append-nil, mul-add, arith}
use Rattle.std.proofs.lemmas.Grind.{flat_map-append}
use Rattle.std.proofs.lemmas.List.{length-append}
use Rattle.std.specs.List.{flat_map}
use Rattle.std.specs.Option.{option_or}
use Rattle.std.specs.Result.{IsErr, IsOk}
use Rattle.geometry.proofs.Acts.{within_true}
use Rattle.geometry.specs.Places.{Within}
use Rattle.geometry.specs.declared.place.Place.{Place}
use Rattle.program.proofs.Meanings.{again_split, again_last}
use Rattle.program.proofs.Rooming.{length_over, over_none, over_over, length_joined}
use Rattle.program.specs.Answers.{first_in, reached}
use Rattle.program.specs.Programs.{Went, stay, going, followed, again}
use Rattle.program.specs.Rooms.{over}
use Rattle.program.specs.Walks.{Whole, Walked}
use Rattle.program.specs.declared.target.Target.{Target}
use Rattle.program.specs.declared.walk.OutOfReach.{OutOfReach}
use Rattle.program.specs.declared.walk.Teller.{Teller}

cond_or : (b : Bool) (x y : Option ℕ) (n : ℕ) → cond b (option_or x y) (Some n) ≡ option_or (cond b x (Some n)) y
cond_or true x y n = refl
cond_or false x y n = refl

pub first_append : {A : Type 0} (test : A → Bool) (n : ℕ) (xs ys : List A) →
    first_in test n (xs ++ ys) ≡ option_or (first_in test n xs) (first_in test (n + length xs) ys)
unfolding first_in
first_append test n [] ys = let e : n + 0 ≡ n = omega arith in rw e
first_append test n (x ∷ xs) ys =
    let e : suc n + length xs ≡ n + suc (length xs) = omega arith in
    ap (λ (z : Option ℕ). cond (test x) z (Some n)) (first_append test (suc n) xs ys ∙ ap (λ (m : ℕ). option_or (first_in test (suc n) xs) (first_in test m ys)) e)
    ∙ cond_or (test x) (first_in test (suc n) xs) (first_in test (n + suc (length xs)) ys) n

some_or : (o p : Option ℕ) (k : ℕ) → o ≡ Some k → option_or o p ≡ Some k
some_or None p k h = let z : ◌≡◌ {A = ℕ} 0 1 = cc in absurd (omega arith)
some_or (Some j) p k h = h

pub stops_as : (n : ℕ) {w v : Went} {o : Option ℕ} → w ≡ v → first_in reached n v.says ≡ o → first_in reached n w.says ≡ o
stops_as n e h = ap (λ (w : Went). first_in reached n w.says) e ∙ h

-- one walk, and then another
abbrev pub joint : Went → Went → Went
joint w v = record { says = w.says ++ v.says; ends = v.ends }

module _ {T : Type 0} (slots : Target → List T) (width : ℕ) where
  pub whole_stay : (s : Teller T) (w : Went) → w ≡ stay s.at → Within 1000000000 s.at → Whole slots width s w s
  unfolding first_in
  whole_stay s w e h =
      subst (λ (v : Went). Whole slots width s v s) (sym e)
      (record { reach = refl; ends = refl; said = omega arith; written = sym (over_none s.room.now (width * s.said)); within = h })

  pub whole_one : (s : Teller T) (g : Target) (t : Teller T) → reached g ≡ true → t.at ≡ g.to → t.said ≡ s.said + 1 →
      t.room.now ≡ over s.room.now (width * s.said) (slots g) → Whole slots width s (going g) t
  unfolding first_in
  whole_one s g t e at said h = record {
    reach = rw e;
    ends = at;
    said = said;
    written = h ∙ ap (over s.room.now (width * s.said)) (sym (append-nil (slots g)));
    within = rw at (within_true 1000000000 g.to e);
  }

  pub walked_as : (s : Teller T) (w v : Went) (r : Result Unit OutOfReach) (t : Teller T) → w ≡ v →
      Walked slots width s v r t → Walked slots width s w r t
  walked_as s w v r t e h = subst (λ (u : Went). Walked slots width s u r t) (sym e) h

  pub walked_whole : (s : Teller T) (w : Went) (r : Result Unit OutOfReach) (t : Teller T) → IsOk r → Walked slots width s w r t → Whole slots width s w t
  walked_whole s w (Ok x) t i h = h
  walked_whole s w (Err e) t i h = let z : ◌≡◌ {A = ℕ} 0 1 = cc in absurd (omega arith)

  pub walked_off : (s : Teller T) (w : Went) (r : Result Unit OutOfReach) (t : Teller T) → IsErr r → Walked slots width s w r t →
      first_in reached s.said w.says ≡ Some t.said
  walked_off s w (Ok x) t i h = let z : ◌≡◌ {A = ℕ} 0 1 = cc in absurd (omega arith)
  walked_off s w (Err e) t i h = h

  pub walked_stops : (s t : Teller T) (w v : Went) → first_in reached s.said w.says ≡ Some t.said →
      first_in reached s.said (joint w v).says ≡ Some t.said
  walked_stops s t w v h =
      first_append reached s.said w.says v.says ∙ some_or (first_in reached s.said w.says) _ t.said h

  module _ (sized : (t : Target) → length (slots t) ≡ width) where
    -- a walk for which there is room leaves the room as long as it was
    pub whole_long : (s t : Teller T) (w : Went) → width * (s.said + length w.says) ≤ length s.room.now → Whole slots width s w t →
        length t.room.now ≡ length s.room.now
    whole_long s t w l h =
        ap length h.written
        ∙ length_over s.room.now (flat_map slots w.says) (width * s.said)
        (omega (arith, mul-add width s.said (length w.says), length_joined slots width sized w.says))

    pub walked_goes_on : (s t : Teller T) (w v : Went) (r : Result Unit OutOfReach) (u : Teller T) →
        width * s.said ≤ length s.room.now → Whole slots width s w t → Walked slots width t v r u →
        Walked slots width s (joint w v) r u
    walked_goes_on s t w v (Err e) u l h k =
        first_append reached s.said w.says v.says
        ∙ ap (λ (o : Option ℕ). option_or o (first_in reached (s.said + length w.says) v.says)) h.reach
        ∙ ap (λ (m : ℕ). first_in reached m v.says) (sym h.said) ∙ k
    walked_goes_on s t w v (Ok e) u l h k = record {
      reach = first_append reached s.said w.says v.says
          ∙ ap (λ (o : Option ℕ). option_or o (first_in reached (s.said + length w.says) v.says)) h.reach
          ∙ ap (λ (m : ℕ). first_in reached m v.says) (sym h.said) ∙ k.reach;
      ends = k.ends;
      said = k.said ∙ omega (arith, h.said, length-append w.says v.says);
      written = k.written
          ∙ ap (λ (z : List T). over z (width * t.said) (flat_map slots v.says)) h.written
          ∙ over_over s.room.now (flat_map slots w.says) (flat_map slots v.says) (width * s.said) (width * t.said) l
          (ap (λ (m : ℕ). width * m) h.said ∙ mul-add width s.said (length w.says) ∙ omega (arith, length_joined slots width sized w.says))
          ∙ ap (over s.room.now (width * s.said)) (sym (flat_map-append slots w.says v.says));
      within = k.within;
    }

    pub walked_followed : (s t : Teller T) (w v : Place → Went) (p : Place) (r : Result Unit OutOfReach) (u : Teller T) →
        width * s.said ≤ length s.room.now → Whole slots width s (w p) t → Walked slots width t (v t.at) r u →
        Walked slots width s (followed w v p) r u
    walked_followed s t w v p r u l h k =
        walked_goes_on s t (w p) (v (w p).ends) r u l h
        (subst (λ (q : Place). Walked slots width t (v q) r u) h.ends k)

    -- the turns of a repetition: one more, and one that is turned away
    pub turn_more : (s t : Teller T) (k : ℕ) (w : Place → Went) (r : Result Unit OutOfReach) (u : Teller T) →
        width * s.said ≤ length s.room.now → Whole slots width s (again k w s.at) t → Walked slots width t (w t.at) r u →
        Walked slots width s (again (k + 1) w s.at) r u
    turn_more s t k w r u l h j =
        walked_as s (again (k + 1) w s.at) (followed (again k w) w s.at) r u (again_last k w s.at)
        (walked_followed s t (again k w) w s.at r u l h j)

    pub turn_stops : (s t : Teller T) (k n : ℕ) (w : Place → Went) (e : OutOfReach) (u : Teller T) →
        k < n → width * s.said ≤ length s.room.now → Whole slots width s (again k w s.at) t → Walked slots width t (w t.at) (Err e) u →
        first_in reached s.said (again n w s.at).says ≡ Some u.said
    turn_stops s t k n w e u lt l h j =
        let m : ℕ = n - (k + 1) in
        let is : n ≡ (k + 1) + m = omega arith in
        ap (λ (x : Went). first_in reached s.said x.says) (ap (λ (i : ℕ). again i w s.at) is ∙ again_split (k + 1) m w s.at)
        ∙ walked_stops s u (again (k + 1) w s.at) (again m w (again (k + 1) w s.at).ends)
        (turn_more s t k w (Err e) u l h j)
