-- The checks one by one: the loops that look for a first place, and what the checks give once they are passed.
use Rattle.std.proofs.Common.{◌≡◌, ℕ, zero, suc, ◌+◌, ◌-◌, ◌*◌, ◌%◌, ◌^◌, ◌<◌, ◌≤◌, Bool, true, false, cond, not, List, [], ◌∷◌, length, get_or, ℤ, pos, nat_abs, Some, None, Ok, Option, sym, refl, ap, ◌∙◌, subst, inl, inr, add-one, arith}
use Rattle.std.proofs.lemmas.List.{get_or_past}
use Rattle.std.proofs.lemmas.Int.{ints}
use Rattle.std.proofs.lemmas.Bool.{leb-true, cases_lt}
use Rattle.std.specs.Borrow.{MutBor}
use Rattle.std.specs.List.{flat_map, position_from}
use Rattle.std.specs.Option.{option_map}
use Rattle.geometry.proofs.Acts.{same_place}
use Rattle.geometry.specs.Frames.{put, seen}
use Rattle.geometry.specs.declared.frame.Frame.{Frame}
use Rattle.geometry.specs.declared.place.Place.{Place}
use Rattle.refusal.specs.declared.Refusal.TheVariants.{Reach}
use Rattle.program.proofs.Meanings.{framed_same, says_count}
use Rattle.program.proofs.Naming.{staged}
use Rattle.program.specs.Answers.{first_in, first_failing, reached, said, small, well_named}
use Rattle.program.specs.Nodes.{nodes, whole}
use Rattle.program.specs.Programs.{Program, Went, went, count}
use Rattle.program.specs.Sound.{meant, Sound}
use Rattle.program.specs.Walks.{went_in, Ready, Whole, Ran}
use Rattle.program.specs.Rooms.{over}
use Rattle.program.specs.declared.program.Program.{Program as Lent}
use Rattle.program.specs.declared.walk.Teller.{Teller}
use Rattle.program.specs.declared.target.Target.{Target}

cond_not : (b : Bool) (x y : Option ℕ) → cond (not b) x y ≡ cond b y x
cond_not true x y = refl
cond_not false x y = refl

pub first_is : {A : Type 0} (test : A → Bool) (n : ℕ) (xs : List A) → position_from (λ x. not (test x)) n xs ≡ first_in test n xs
unfolding first_in
first_is test n [] = refl
first_is test n (x ∷ xs) =
    cond_not (test x) (Some n) (position_from (λ y. not (test y)) (n + 1) xs)
    ∙ ap (λ (z : Option ℕ). cond (test x) z (Some n)) (first_is test (n + 1) xs ∙ rw (add-one n))

module _ (test : ℕ → Bool) (n m : ℕ) where
  left : n < m → m - n ≡ suc (m - (n + 1))
  left l = omega arith

  pub first_of_more : n < m → test n ≡ true → first_failing test n (m - n) ≡ first_failing test (n + 1) (m - (n + 1))
  unfolding first_failing
  first_of_more l e = rw (left l, e, add-one n)

  pub first_of_here : n < m → test n ≡ false → first_failing test n (m - n) ≡ Some n
  unfolding first_failing
  first_of_here l e = rw (left l, e)

  pub first_of_none : m ≤ n → first_failing test n (m - n) ≡ None
  unfolding first_failing
  first_of_none l = let e : m - n ≡ 0 = omega arith in rw e

none_passes : (b : Bool) (rest : Option ℕ) (n : ℕ) → cond b rest (Some n) ≡ None → (b ≡ true) × (rest ≡ None)
none_passes true rest n e = (refl, e)
none_passes false rest n e = let z : ◌≡◌ {A = ℕ} 0 1 = cc in absurd (omega arith)

-- where no first one is found, all pass
pub all_in : {A : Type 0} (test : A → Bool) (n : ℕ) (xs : List A) → first_in test n xs ≡ None → (k : ℕ) (d : A) → k < length xs → test (get_or xs k d) ≡ true
unfolding first_in
all_in test n [] e k d l = absurd (omega arith)
all_in test n (x ∷ xs) e zero d l = (none_passes (test x) (first_in test (suc n) xs) n e).0
all_in test n (x ∷ xs) e (suc k) d l =
    all_in test (suc n) xs (none_passes (test x) (first_in test (suc n) xs) n e).1 k d (omega arith)

pub all_of : (test : ℕ → Bool) (n l : ℕ) → first_failing test n l ≡ None → (k : ℕ) → n ≤ k → k < n + l → test k ≡ true
unfolding first_failing
all_of test n zero e k a b = absurd (omega arith)
all_of test n (suc l) e k a b =
    let h = none_passes (test n) (first_failing test (suc n) l) n e in
    elim (cases_lt n k) [
      | inl lt ↦ all_of test (suc n) l h.1 k lt (omega arith)
      | inr ge ↦ let same : k ≡ n = omega arith in rw same h.0
    ]

pub small_all : (xs : List ℤ) → first_in small 0 xs ≡ None → (k : ℕ) → nat_abs (get_or xs k (pos 0)) ≤ 1000000
small_all xs e k =
    elim (cases_lt k (length xs)) [
      | inl l ↦ leb-true _ _ (all_in small 0 xs e k (pos 0) l)
      | inr l ↦ rw (get_or_past xs k (pos 0) l) (omega arith)
    ]

-- the first three checks are passed
pub sound_from : (xs : List ℤ) → length xs % 4 ≡ 0 → 1 ≤ length xs → length xs ≤ 4096 → first_in small 0 xs ≡ None →
    first_failing (well_named xs) 0 (nodes xs) ≡ None → Sound xs
sound_from xs whole some few numbers names = record {
  shaped = omega arith;
  some = omega arith;
  few = omega arith;
  small = small_all xs numbers;
  named = λ n l. all_of (well_named xs) 0 (nodes xs) names n (omega arith) (omega arith);
}

abbrev pub origin : Place
origin = record { x = pos 0; y = pos 0 }

abbrev pub outside : Frame
outside = record { swap = false; left = false; down = false; origin = origin }

put_outside : (p : Place) → put outside p ≡ p
put_outside p = same_place (omega (arith, ints)) (omega (arith, ints))

seen_outside : (p : Place) → seen outside p ≡ p
seen_outside p = same_place (omega (arith, ints)) (omega (arith, ints))

outside_went : (a : Program) (p : Place) → went_in outside a p ≡ went a p
outside_went a p = framed_same (put outside) (seen outside) put_outside seen_outside (went a) p

-- the last node, seen from outside, says what the program says
pub whole_went : (xs : List ℤ) → Sound xs → went_in outside (meant xs (nodes xs - 1)) origin ≡ went (whole xs) origin
whole_went xs s =
    outside_went (meant xs (nodes xs - 1)) origin
    ∙ ap (λ (a : Program). went a origin) (sym (staged xs (nodes xs) (nodes xs - 1) (omega (arith, s.some))))

pub whole_count : (xs : List ℤ) → Sound xs → count (meant xs (nodes xs - 1)) ≡ length (said xs)
whole_count xs s =
    ap count (sym (staged xs (nodes xs) (nodes xs - 1) (omega (arith, s.some)))) ∙ sym (says_count (whole xs) origin)

-- a teller before its first target
abbrev starting : {T : Type 0} → MutBor (List T) → Teller T
starting room = record { room = room; at = origin; said = 0 }

pub start_ready : {T : Type 0} (p : Lent) (s : Teller T) (room : MutBor (List T)) (width : ℕ) → s ≡ starting room → length (said p.nodes.now) < 2 ^ 64 →
    width * length (said p.nodes.now) ≤ length room.now → Ready p (nodes p.nodes.now - 1) outside s width
start_ready p s room width e fits roomy =
    let xs : List ℤ = p.nodes.now in
    let all : 0 + count (meant xs (nodes xs - 1)) ≡ length (said xs) = omega (arith, whole_count xs p.sound) in
    rw e (record {
      here = omega (arith, p.sound.some);
      near = record { across = omega arith; along = omega arith };
      within = record { across = omega arith; along = omega arith };
      roomy = rw all roomy;
      fits = omega arith;
    })

pub ran_whole : {T : Type 0} (slots : Target → List T) (width : ℕ) (xs : List ℤ) (s : Teller T) (room : MutBor (List T)) (t : Teller T) (room₁ : List T) →
    Sound xs → s ≡ starting room → room₁ ≡ t.room.now →
    Whole slots width s (went_in outside (meant xs (nodes xs - 1)) s.at) t → Ran slots room.now (said xs) (Ok t.said) room₁
ran_whole slots width xs s room t room₁ sound e same h =
    let k = subst (λ (w : Went). Whole slots width (starting room) w t) (whole_went xs sound)
    (subst (λ (z : Teller _). Whole slots width z (went_in outside (meant xs (nodes xs - 1)) z.at) t) e h) in
    let z : width * 0 ≡ 0 = omega arith in
    (k.reach, k.said ∙ omega arith, same ∙ k.written ∙ ap (λ (n : ℕ). over room.now n (flat_map slots (said xs))) z)

pub ran_off : {T : Type 0} (xs : List ℤ) (s : Teller T) (room : MutBor (List T)) (n : ℕ) → Sound xs → s ≡ starting room →
    first_in reached s.said (went_in outside (meant xs (nodes xs - 1)) s.at).says ≡ Some n → option_map Reach (first_in reached 0 (said xs)) ≡ Some (Reach n)
ran_off xs s room n sound e h =
    ap (option_map Reach)
    (ap (λ (w : Went). first_in reached 0 w.says) (sym (whole_went xs sound))
    ∙ subst (λ (z : Teller _). first_in reached z.said (went_in outside (meant xs (nodes xs - 1)) z.at).says ≡ Some n) e h)
