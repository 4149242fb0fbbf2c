-- What programs say in frames: a frame around a program is a frame around each of its parts.
use Rattle.std.proofs.Common.{◌≡◌, ℕ, zero, suc, ◌+◌, ◌*◌, ◌⊎◌, List, [], ◌∷◌, ◌++◌, map, length, sym, refl, ap, ◌∙◌, inl, inr, append_assoc, append-nil, arith}
use Rattle.std.proofs.lemmas.List.{map-append, length-append, length-map}
use Rattle.std.proofs.lemmas.Int.{ints}
use Rattle.geometry.proofs.Acts.{same_place, frames_act}
use Rattle.geometry.specs.Frames.{put, seen, way, Inside}
use Rattle.geometry.specs.Places.{moved, less, turned, turned_back, mirrored}
use Rattle.geometry.specs.declared.frame.Frame.{Frame}
use Rattle.geometry.specs.declared.place.Place.{Place}
use Rattle.program.specs.Programs.{Program, nothing, to, by, next, times, at, turn, mirror, sub, Went, stay, going, followed, again, carried, placed, framed, went, count}
use Rattle.program.specs.Walks.{went_in}
use Rattle.program.specs.declared.target.Target.{Target}

pub same_went : {w v : Went} → w.says ≡ v.says → w.ends ≡ v.ends → w ≡ v
same_went e f = λ i. record { says = e i; ends = f i }

pub less_moved : (d p : Place) → less (moved d p) d ≡ p
less_moved d p = same_place (omega (arith, ints)) (omega (arith, ints))

pub moved_less : (d p : Place) → moved d (less p d) ≡ p
moved_less d p = same_place (omega (arith, ints)) (omega (arith, ints))

pub back_turned : (p : Place) → turned_back (turned p) ≡ p
back_turned p = same_place refl (omega (arith, ints))

pub turned_there : (p : Place) → turned (turned_back p) ≡ p
turned_there p = same_place (omega (arith, ints)) refl

pub mirrored_twice : (p : Place) → mirrored (mirrored p) ≡ p
mirrored_twice p = same_place (omega (arith, ints)) refl

pub map_carried : (f g h : Place → Place) → ((p : Place) → h p ≡ f (g p)) → (ts : List Target) →
    map (carried f) (map (carried g) ts) ≡ map (carried h) ts
map_carried f g h e [] = refl
map_carried f g h e (t ∷ ts) =
    let rest = map_carried f g h e ts in λ i. record { to = sym (e t.to) i; fast = t.fast } ∷ rest i

-- two frames, one in the other, are one: the inner puts a place first
pub framed_framed : (f b g c h d : Place → Place) → ((p : Place) → h p ≡ f (g p)) → ((p : Place) → d p ≡ c (b p)) →
    (w : Place → Went) (p : Place) → framed f b (framed g c w) p ≡ framed h d w p
framed_framed f b g c h d e k w p =
    same_went (map_carried f g h e (w (c (b p))).says ∙ ap (λ (q : Place). map (carried h) (w q).says) (sym (k p)))
    (sym (e (w (c (b p))).ends) ∙ ap (λ (q : Place). h (w q).ends) (sym (k p)))

map_carried_same : (f : Place → Place) → ((p : Place) → f p ≡ p) → (ts : List Target) → map (carried f) ts ≡ ts
map_carried_same f e [] = refl
map_carried_same f e (t ∷ ts) =
    let rest = map_carried_same f e ts in λ i. record { to = e t.to i; fast = t.fast } ∷ rest i

-- a frame that leaves each place where it is
pub framed_same : (f b : Place → Place) → ((p : Place) → f p ≡ p) → ((p : Place) → b p ≡ p) → (w : Place → Went) (p : Place) →
    framed f b w p ≡ w p
framed_same f b e k w p = same_went (map_carried_same f e (w (b p)).says) (e (w (b p)).ends) ∙ ap w (k p)

pub in_nothing : (f : Frame) (p : Place) → went_in f nothing p ≡ stay p
unfolding went
in_nothing f p = same_went refl (frames_act.put_seen f p)

pub in_to : (f : Frame) (q : Place) (v : ℕ) (p : Place) → went_in f (to q v) p ≡ going (record { to = put f q; fast = v })
unfolding went
in_to f q v p = refl

pub in_by : (f : Frame) (d : Place) (v : ℕ) (p : Place) → went_in f (by d v) p ≡ going (record { to = moved (way f d) p; fast = v })
unfolding went
in_by f d v p = ap (λ (q : Place). going (record { to = q; fast = v })) (frames_act.goes f d p)

framed_followed : (f b : Place → Place) → ((p : Place) → b (f p) ≡ p) → (w v : Place → Went) (p : Place) →
    framed f b (followed w v) p ≡ followed (framed f b w) (framed f b v) p
framed_followed f b e w v p =
    same_went (map-append (carried f) (w (b p)).says (v (w (b p)).ends).says
    ∙ ap (λ (q : Place). map (carried f) (w (b p)).says ++ map (carried f) (v q).says) (sym (e (w (b p)).ends)))
    (ap (λ (q : Place). f (v q).ends) (sym (e (w (b p)).ends)))

pub in_next : (f : Frame) (a b : Program) (p : Place) → went_in f (next a b) p ≡ followed (went_in f a) (went_in f b) p
unfolding went
in_next f a b p = framed_followed (put f) (seen f) (frames_act.seen_put f) (went a) (went b) p

followed_same : (w v u : Place → Went) (p : Place) → ((q : Place) → v q ≡ u q) → followed w v p ≡ followed w u p
followed_same w v u p e = λ i. record { says = (w p).says ++ (e (w p).ends i).says; ends = (e (w p).ends i).ends }

framed_again : (f b : Place → Place) → ((p : Place) → b (f p) ≡ p) → ((p : Place) → f (b p) ≡ p) → (n : ℕ) (w : Place → Went) (p : Place) →
    framed f b (again n w) p ≡ again n (framed f b w) p
unfolding again
framed_again f b e k zero w p = same_went refl (k p)
framed_again f b e k (suc n) w p =
    framed_followed f b e w (again n w) p
    ∙ followed_same (framed f b w) (framed f b (again n w)) (again n (framed f b w)) p (framed_again f b e k n w)

pub in_times : (f : Frame) (n : ℕ) (a : Program) (p : Place) → went_in f (times n a) p ≡ again n (went_in f a) p
unfolding went
in_times f n a p = framed_again (put f) (seen f) (frames_act.seen_put f) (frames_act.put_seen f) n (went a) p

in_inside : (f g : Frame) (there back : Place → Place) → Inside f g there back → (w : Place → Went) (p : Place) →
    framed (put f) (seen f) (framed there back w) p ≡ framed (put g) (seen g) w p
in_inside f g there back h w p = framed_framed (put f) (seen f) there back (put g) (seen g) h.puts h.sees w p

pub in_at : (f g : Frame) (d : Place) (a : Program) (p : Place) → Inside f g (moved d) (λ q. less q d) → went_in f (at d a) p ≡ went_in g a p
unfolding went
in_at f g d a p h = in_inside f g (moved d) (λ q. less q d) h (went a) p

pub in_turn : (f g : Frame) (a : Program) (p : Place) → Inside f g turned turned_back → went_in f (turn a) p ≡ went_in g a p
unfolding went
in_turn f g a p h = in_inside f g turned turned_back h (went a) p

pub in_mirror : (f g : Frame) (a : Program) (p : Place) → Inside f g mirrored mirrored → went_in f (mirror a) p ≡ went_in g a p
unfolding went
in_mirror f g a p h = in_inside f g mirrored mirrored h (went a) p

pub in_sub : (f : Frame) (a : Program) (p : Place) → went_in f (sub a) p ≡ went_in f a p
unfolding went
in_sub f a p = refl

pub again_split : (m n : ℕ) (w : Place → Went) (p : Place) → again (m + n) w p ≡ followed (again m w) (again n w) p
unfolding again
again_split zero n w p = let e : 0 + n ≡ n = omega arith in rw e
again_split (suc m) n w p =
    let e : suc m + n ≡ suc (m + n) = omega arith in
    ap (λ (k : ℕ). again k w p) e
    ∙ followed_same w (again (m + n) w) (followed (again m w) (again n w)) p (again_split m n w)
    ∙ same_went (sym (append_assoc (w p).says (again m w (w p).ends).says (again n w (again m w (w p).ends).ends).says)) refl

pub again_last : (n : ℕ) (w : Place → Went) (p : Place) → again (n + 1) w p ≡ followed (again n w) w p
unfolding again
again_last n w p =
    again_split n 1 w p ∙ followed_same (again n w) (again 1 w) w p (λ q. same_went (append-nil (w q).says) refl)

pub again_length : (n c : ℕ) (w : Place → Went) → ((p : Place) → length (w p).says ≡ c) → (p : Place) → length (again n w p).says ≡ n * c
unfolding again
again_length zero c w e p = omega arith
again_length (suc n) c w e p =
    let rest : length (again n w (w p).ends).says ≡ n * c = again_length n c w e (w p).ends in
    length-append (w p).says (again n w (w p).ends).says ∙ omega (arith, e p)

-- how many targets a program says does not depend on where it begins
pub says_count : (a : Program) (p : Place) → length (went a p).says ≡ count a
unfolding went count
says_count nothing p = refl
says_count (to q v) p = refl
says_count (by d v) p = refl
says_count (next a b) p =
    let x : length (went a p).says ≡ count a = says_count a p in
    let y : length (went b (went a p).ends).says ≡ count b = says_count b (went a p).ends in
    length-append (went a p).says (went b (went a p).ends).says ∙ omega arith
says_count (times n a) p = again_length n (count a) (went a) (says_count a) p
says_count (at d a) p = length-map (went a (less p d)).says (carried (moved d)) ∙ says_count a (less p d)
says_count (turn a) p = length-map (went a (turned_back p)).says (carried turned) ∙ says_count a (turned_back p)
says_count (mirror a) p = length-map (went a (mirrored p)).says (carried mirrored) ∙ says_count a (mirrored p)
says_count (sub a) p = says_count a p

followed_stays : (w v : Place → Went) (p : Place) → w p ≡ stay p → ((q : Place) → v q ≡ stay q) → followed w v p ≡ stay p
followed_stays w v p e f = ap (λ (x : Went). record { says = x.says ++ (v x.ends).says; ends = (v x.ends).ends }) e ∙ f p

again_stays : (n : ℕ) (w : Place → Went) → ((p : Place) → w p ≡ stay p) → (p : Place) → again n w p ≡ stay p
unfolding again
again_stays zero w e p = refl
again_stays (suc n) w e p = followed_stays w (again n w) p (e p) (again_stays n w e)

framed_stays : (f b : Place → Place) → ((p : Place) → f (b p) ≡ p) → (w : Place → Went) → ((p : Place) → w p ≡ stay p) → (p : Place) →
    framed f b w p ≡ stay p
framed_stays f b k w e p =
    ap (placed f) (e (b p)) ∙ same_went refl (k p)

none_times : (n c : ℕ) → n * c ≡ 0 → (n ≡ 0) ⊎ (c ≡ 0)
none_times zero c e = inl refl
none_times (suc n) zero e = inr refl
none_times (suc n) (suc c) e = absurd (omega arith)

-- what says no targets stays where it is
pub none_said : (a : Program) → count a ≡ 0 → (p : Place) → went a p ≡ stay p
unfolding went count again
none_said nothing e p = refl
none_said (to q v) e p = absurd (omega arith)
none_said (by d v) e p = absurd (omega arith)
none_said (next a b) e p = followed_stays (went a) (went b) p (none_said a (omega arith) p) (none_said b (omega arith))
none_said (times n a) e p =
    elim (none_times n (count a) e) [
      | inl z ↦ ap (λ (m : ℕ). again m (went a) p) z
      | inr z ↦ again_stays n (went a) (none_said a z) p
    ]
none_said (at d a) e p = framed_stays (moved d) (λ q. less q d) (moved_less d) (went a) (none_said a e) p
none_said (turn a) e p = framed_stays turned turned_back turned_there (went a) (none_said a e) p
none_said (mirror a) e p = framed_stays mirrored mirrored mirrored_twice (went a) (none_said a e) p
none_said (sub a) e p = none_said a e p

pub in_none : (f : Frame) (a : Program) (p : Place) → count a ≡ 0 → went_in f a p ≡ stay p
in_none f a p e = framed_stays (put f) (seen f) (frames_act.put_seen f) (went a) (none_said a e) p

pub in_count : (f : Frame) (a : Program) (p : Place) → length (went_in f a p).says ≡ count a
in_count f a p = length-map (went a (seen f p)).says (carried (put f)) ∙ says_count a (seen f p)
