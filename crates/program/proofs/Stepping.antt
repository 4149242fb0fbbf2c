-- What each kind of node owes the evaluator: that a walk over it may go on to the nodes it names, and what it says.
use Rattle.std.proofs.Common.{◌≡◌, ℕ, suc, ◌+◌, ◌-◌, ◌*◌, ◌<◌, ◌≤◌, Bool, true, false, cond, eqb, leb, ltb, List, length, ℤ, pos, negsuc, nat_abs, sym, refl, ap, ◌∙◌, subst, arith}
use Rattle.std.proofs.lemmas.Nat.{mul-le}
use Rattle.std.proofs.lemmas.Bool.{ltb-true, and_parts}
use Rattle.geometry.proofs.Acts.{frames_act, way_within, moved_within}
use Rattle.geometry.specs.Frames.{put, way, in_moved, in_turned, in_mirrored}
use Rattle.geometry.specs.Places.{moved, Within}
use Rattle.geometry.specs.declared.frame.Frame.{Frame}
use Rattle.geometry.specs.declared.place.Place.{Place}
use Rattle.program.proofs.Counting.{count_meant}
use Rattle.program.proofs.Meanings.{in_none, in_count, in_nothing, in_to, in_by, in_next, in_times, in_at, in_turn, in_mirror, in_sub, again_length}
use Rattle.program.proofs.Naming.{meant_step}
use Rattle.program.proofs.Walking.{whole_long}
use Rattle.program.specs.Answers.{names_below}
use Rattle.count.specs.Counts.{size}
use Rattle.program.specs.Nodes.{number, node_of, node_in, program}
use Rattle.program.specs.Programs.{Program, Went, stay, going, followed, again, count}
use Rattle.program.specs.Sound.{meant, counted, Sound}
use Rattle.program.specs.Walks.{Ready, Whole, went_in}
use Rattle.program.specs.declared.node.Node.{Node}
use Rattle.program.specs.declared.node.Node.TheVariants.{Nothing, To, By, Next, Times, At, Turn, Mirror, Sub}
use Rattle.program.specs.declared.program.Program.{Program as Lent}
use Rattle.program.specs.declared.target.Target.{Target}
use Rattle.program.specs.declared.walk.Teller.{Teller}

within_more : {m : ℕ} {p : Place} (n : ℕ) → m ≤ n → Within m p → Within n p
within_more n l h = record { across = omega (arith, h.across); along = omega (arith, h.along) }

size_below : (z : ℤ) (n : ℕ) → nat_abs z ≤ n → size z ≤ n
size_below (pos a) n h = h
size_below (negsuc a) n h = omega arith

-- the numbers that a node holds are small
abbrev pub Small : Node → Type 0
Small Nothing = Unit {0}
Small (To p v) = Within 1000000 p × (v ≤ 1000000)
Small (By d v) = Within 1000000 d × (v ≤ 1000000)
Small (Next a b) = Unit {0}
Small (Times n a) = Unit {0}
Small (At d a) = Within 1000000 d
Small (Turn a) = Unit {0}
Small (Mirror a) = Unit {0}
Small (Sub a) = Unit {0}

small_either : (b : Bool) (x y : Node) → Small x → Small y → Small (cond b x y)
small_either true x y h k = h
small_either false x y h k = k

small_of : (k : ℕ) (a b c : ℤ) → nat_abs a ≤ 1000000 → nat_abs b ≤ 1000000 → nat_abs c ≤ 1000000 → Small (node_of k a b c)
small_of k a b c ha hb hc =
    let p : Place = record { x = a; y = b } in
    let w : Within 1000000 p = record { across = ha; along = hb } in
    small_either (eqb k 0) Nothing _ tt
    (small_either (eqb k 1) (To p (size c)) _ (w, size_below c _ hc)
    (small_either (eqb k 2) (By p (size c)) _ (w, size_below c _ hc)
    (small_either (eqb k 3) (Next (size a) (size b)) _ tt
    (small_either (eqb k 4) (Times (size a) (size b)) _ tt
    (small_either (eqb k 5) (At p (size c)) _ w
    (small_either (eqb k 6) (Turn (size a)) _ tt
    (small_either (eqb k 7) (Mirror (size a)) (Sub (size a)) tt tt)))))))

small_in : (xs : List ℤ) (n : ℕ) → Sound xs → Small (node_in xs n)
unfolding node_in
small_in xs n s =
    small_of (size (number xs n 0)) (number xs n 1) (number xs n 2) (number xs n 3) (s.small (4 * n + 1)) (s.small (4 * n + 2)) (s.small (4 * n + 3))

module _ {T : Type 0} {lent : Lent} {n : ℕ} {f : Frame} {s : Teller T} {width : ℕ} (h : Ready lent n f s width) where
  pub frame_within : Within 4000000000 f.origin
  frame_within = within_more 4000000000 (omega arith) h.near

  pub state_within : Within 4000000000 s.at
  state_within = within_more 4000000000 (omega arith) h.within

  pub leaves : count (meant lent.nodes.now n) ≡ 0 → went_in f (meant lent.nodes.now n) s.at ≡ stay s.at
  leaves e = in_none f (meant lent.nodes.now n) s.at e

  pub roomy_before : width * s.said ≤ length s.room.now
  roomy_before = omega (arith, mul-le width s.said width (s.said + count (meant lent.nodes.now n)) (omega arith) (omega arith), h.roomy)

  named : names_below n (node_in lent.nodes.now n) ≡ true
  named = (and_parts (leb (size (number lent.nodes.now n 0)) 8) (names_below n (node_in lent.nodes.now n)) (lent.sound.named n h.here)).1

  module _ (v : Node) (e : v ≡ node_in lent.nodes.now n) where
    names : names_below n v ≡ true
    names = ap (names_below n) e ∙ named

    means : meant lent.nodes.now n ≡ program (meant lent.nodes.now) v
    means = meant_step lent.nodes.now n named ∙ ap (program (meant lent.nodes.now)) (sym e)

    counts_as : count (meant lent.nodes.now n) ≡ counted (λ k. count (meant lent.nodes.now k)) v
    counts_as = count_meant lent.nodes.now n named ∙ ap (counted (λ k. count (meant lent.nodes.now k))) (sym e)

    smalls : Small v
    smalls = subst Small (sym e) (small_in lent.nodes.now n lent.sound)

    says_as : (p : Place) → went_in f (meant lent.nodes.now n) p ≡ went_in f (program (meant lent.nodes.now) v) p
    says_as p = ap (λ (a : Program). went_in f a p) means

  pub child : (k : ℕ) (g : Frame) (t : Teller T) → k < n → Within (1000000 * (1024 - k)) g.origin → Within 1000000000 t.at →
      length t.room.now ≡ length s.room.now → t.said + count (meant lent.nodes.now k) ≤ s.said + count (meant lent.nodes.now n) → Ready lent k g t width
  child k g t l near reach long le = record {
    here = omega (arith, h.here);
    near = near;
    within = reach;
    roomy = omega (arith, mul-le width (t.said + count (meant lent.nodes.now k)) width (s.said + count (meant lent.nodes.now n)) (omega arith) le, h.roomy);
    fits = omega (arith, h.fits);
  }

  -- a walk over a part of the node leaves the room as long as it was
  room_long : (slots : Target → List T) → ((x : Target) → length (slots x) ≡ width) → (w : Went) (t : Teller T) →
      length w.says ≤ count (meant lent.nodes.now n) → Whole slots width s w t → length t.room.now ≡ length s.room.now
  room_long slots sized w t le k =
      whole_long slots width sized s t w
      (omega (arith, mul-le width (s.said + length w.says) width (s.said + count (meant lent.nodes.now n)) (omega arith) (omega arith), h.roomy)) k

  nearer : (k : ℕ) → k < n → Within (1000000 * (1024 - k)) f.origin
  nearer k l = within_more _ (omega arith) h.near

  module _ {p : Place} {fast : ℕ} (e : To p fast ≡ node_in lent.nodes.now n) where
    pub to_within : Within 4000000000 p
    to_within = within_more 4000000000 (omega arith) (smalls (To p fast) e).0

    pub to_slow : fast ≤ 1000000
    to_slow = (smalls (To p fast) e).1

    pub says_to : {q : Place} → q ≡ put f p → went_in f (meant lent.nodes.now n) s.at ≡ going (record { to = q; fast = fast })
    says_to is =
        says_as (To p fast) e s.at ∙ in_to f p fast s.at ∙ ap (λ (z : Place). going (record { to = z; fast = fast })) (sym is)

  module _ {d : Place} {fast : ℕ} (e : By d fast ≡ node_in lent.nodes.now n) where
    pub by_within : Within 4000000000 d
    by_within = within_more 4000000000 (omega arith) (smalls (By d fast) e).0

    pub by_slow : fast ≤ 1000000
    by_slow = (smalls (By d fast) e).1

    pub way_is_within : {w : Place} → w ≡ way f d → Within 4000000000 w
    way_is_within is = subst (Within 4000000000) (sym is) (way_within 4000000000 f d by_within)

    pub says_by : {q w : Place} → q ≡ moved w s.at → w ≡ way f d → went_in f (meant lent.nodes.now n) s.at ≡ going (record { to = q; fast = fast })
    says_by is so =
        says_as (By d fast) e s.at ∙ in_by f d fast s.at
        ∙ ap (λ (z : Place). going (record { to = z; fast = fast })) (sym (is ∙ ap (λ (z : Place). moved z s.at) so))

  pub says_nothing : Nothing ≡ node_in lent.nodes.now n → went_in f (meant lent.nodes.now n) s.at ≡ stay s.at
  says_nothing e = says_as Nothing e s.at ∙ in_nothing f s.at

  module _ {a b : ℕ} (e : Next a b ≡ node_in lent.nodes.now n) where
    pub next_first : a < n
    next_first = ltb-true a n (and_parts (ltb a n) (ltb b n) (names (Next a b) e)).0

    pub next_second : b < n
    next_second = ltb-true b n (and_parts (ltb a n) (ltb b n) (names (Next a b) e)).1

    pub first_ready : Ready lent a f s width
    first_ready = child a f s next_first (nearer a next_first) h.within refl (omega (arith, counts_as (Next a b) e))

    pub second_ready : (slots : Target → List T) → ((x : Target) → length (slots x) ≡ width) → (t : Teller T) →
        Whole slots width s (went_in f (meant lent.nodes.now a) s.at) t → Ready lent b f t width
    second_ready slots sized t w =
        let said : length (went_in f (meant lent.nodes.now a) s.at).says ≡ count (meant lent.nodes.now a) = in_count f (meant lent.nodes.now a) s.at in
        let long = room_long slots sized (went_in f (meant lent.nodes.now a) s.at) t (omega (arith, counts_as (Next a b) e)) w in
        child b f t next_second (nearer b next_second) w.within long (omega (arith, counts_as (Next a b) e, w.said))

    pub says_next : went_in f (meant lent.nodes.now n) s.at ≡ followed (went_in f (meant lent.nodes.now a)) (went_in f (meant lent.nodes.now b)) s.at
    says_next = says_as (Next a b) e s.at ∙ in_next f (meant lent.nodes.now a) (meant lent.nodes.now b) s.at

  module _ {m k : ℕ} (e : Times m k ≡ node_in lent.nodes.now n) where
    pub times_body : k < n
    times_body = ltb-true k n (names (Times m k) e)

    pub turn_ready : (slots : Target → List T) → ((x : Target) → length (slots x) ≡ width) → (i : ℕ) (t : Teller T) → i < m →
        Whole slots width s (again i (went_in f (meant lent.nodes.now k)) s.at) t → Ready lent k f t width
    turn_ready slots sized i t l w =
        let c : ℕ = count (meant lent.nodes.now k) in
        let all : count (meant lent.nodes.now n) ≡ m * c = counts_as (Times m k) e in
        let so_far : length (again i (went_in f (meant lent.nodes.now k)) s.at).says ≡ i * c = again_length i c (went_in f (meant lent.nodes.now k)) (in_count f (meant lent.nodes.now k)) s.at in
        let more : suc i * c ≤ m * c = mul-le (suc i) c m c l (omega arith) in
        let long = room_long slots sized (again i (went_in f (meant lent.nodes.now k)) s.at) t (omega arith) w in
        child k f t times_body (nearer k times_body) w.within long (omega (arith, w.said))

    pub says_times : went_in f (meant lent.nodes.now n) s.at ≡ again m (went_in f (meant lent.nodes.now k)) s.at
    says_times = says_as (Times m k) e s.at ∙ in_times f m (meant lent.nodes.now k) s.at

  module _ {d : Place} {k : ℕ} (e : At d k ≡ node_in lent.nodes.now n) where
    pub at_within : Within 4000000000 d
    at_within = within_more 4000000000 (omega arith) (smalls (At d k) e)

    pub at_body : k < n
    at_body = ltb-true k n (names (At d k) e)

    pub at_ready : {g : Frame} → g ≡ in_moved f d → Ready lent k g s width
    at_ready {g} is =
        let near : Within (1000000 * (1024 - k)) (put f d) =
        within_more _ (omega (arith, at_body, h.here, lent.sound.few))
        (moved_within (1000000 * (1024 - n)) 1000000 f.origin (way f d) h.near (way_within 1000000 f d (smalls (At d k) e))) in
        child k g s at_body (subst (λ (z : Frame). Within (1000000 * (1024 - k)) z.origin) (sym is) near) h.within refl (omega (arith, counts_as (At d k) e))

    pub says_at : {g : Frame} → g ≡ in_moved f d → went_in f (meant lent.nodes.now n) s.at ≡ went_in g (meant lent.nodes.now k) s.at
    says_at {g} is =
        says_as (At d k) e s.at ∙ in_at f (in_moved f d) d (meant lent.nodes.now k) s.at (frames_act.moves f d)
        ∙ ap (λ (z : Frame). went_in z (meant lent.nodes.now k) s.at) (sym is)

  same_origin_near : (k : ℕ) (g z : Frame) → k < n → g ≡ z → z.origin ≡ f.origin → Within (1000000 * (1024 - k)) g.origin
  same_origin_near k g z l is same = subst (Within (1000000 * (1024 - k))) (sym (ap (λ (y : Frame). y.origin) is ∙ same)) (nearer k l)

  module _ {k : ℕ} (e : Turn k ≡ node_in lent.nodes.now n) where
    pub turn_body : k < n
    turn_body = ltb-true k n (names (Turn k) e)

    pub turned_ready : {g : Frame} → g ≡ in_turned f → Ready lent k g s width
    turned_ready {g} is = child k g s turn_body (same_origin_near k g (in_turned f) turn_body is refl) h.within refl (omega (arith, counts_as (Turn k) e))

    pub says_turn : {g : Frame} → g ≡ in_turned f → went_in f (meant lent.nodes.now n) s.at ≡ went_in g (meant lent.nodes.now k) s.at
    says_turn {g} is =
        says_as (Turn k) e s.at ∙ in_turn f (in_turned f) (meant lent.nodes.now k) s.at (frames_act.turns f)
        ∙ ap (λ (z : Frame). went_in z (meant lent.nodes.now k) s.at) (sym is)

  module _ {k : ℕ} (e : Mirror k ≡ node_in lent.nodes.now n) where
    pub mirror_body : k < n
    mirror_body = ltb-true k n (names (Mirror k) e)

    pub mirrored_ready : {g : Frame} → g ≡ in_mirrored f → Ready lent k g s width
    mirrored_ready {g} is = child k g s mirror_body (same_origin_near k g (in_mirrored f) mirror_body is refl) h.within refl (omega (arith, counts_as (Mirror k) e))

    pub says_mirror : {g : Frame} → g ≡ in_mirrored f → went_in f (meant lent.nodes.now n) s.at ≡ went_in g (meant lent.nodes.now k) s.at
    says_mirror {g} is =
        says_as (Mirror k) e s.at ∙ in_mirror f (in_mirrored f) (meant lent.nodes.now k) s.at (frames_act.mirrors f)
        ∙ ap (λ (z : Frame). went_in z (meant lent.nodes.now k) s.at) (sym is)

  module _ {k : ℕ} (e : Sub k ≡ node_in lent.nodes.now n) where
    pub sub_body : k < n
    sub_body = ltb-true k n (names (Sub k) e)

    pub sub_ready : Ready lent k f s width
    sub_ready = child k f s sub_body (nearer k sub_body) h.within refl (omega (arith, counts_as (Sub k) e))

    pub says_sub : went_in f (meant lent.nodes.now n) s.at ≡ went_in f (meant lent.nodes.now k) s.at
    says_sub = says_as (Sub k) e s.at ∙ in_sub f (meant lent.nodes.now k) s.at
