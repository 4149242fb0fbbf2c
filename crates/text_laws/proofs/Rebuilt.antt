-- A tree's nodes lead back to that tree. Assumes nothing.
use Rattle.std.proofs.Common.{◌≡◌, ℕ, ◌+◌, ◌*◌, ◌/◌, ◌<◌, ◌≤◌, Bool, true, false, cond, List, [], ◌∷◌, ◌++◌, map, reverse, length, get_or, ℤ, pos, Some, None, Option, sym, refl, ap, ◌∙◌, subst, inl, inr, arith}
use Rattle.std.proofs.lemmas.List.{append_assoc, append-nil, length-append, length_push, reverse-append, reverse-reverse, get_or_append_left, get_or_push, map_push}
use Rattle.std.proofs.lemmas.Bool.{false_from_ne_true, cases_lt}
use Rattle.std.proofs.lemmas.Bool.Decides.{Decides-int_eq}
use Rattle.text.specs.declared.phase.Block.{Block}
use Rattle.text.specs.declared.phase.Block.TheVariants.{Repeat, Offset, Turned, Mirrored}
use Rattle.text.specs.declared.phase.Move.{Move}
use Rattle.text.specs.declared.phase.Move.TheVariants.{Absolute, Incremental}
use Rattle.text.specs.Nodes.{Laid, next_node, node, move_kind, joined, with_line, body_named, body_filled, body_of, body_nodes, block_node}
use Rattle.text_laws.specs.Trees.{Tree, done, go, call, block, Program, ProperTree, ProperSubs, Proper, anew, with_block, lay, Told, tell, tell_all, told, nodes_of}
use Rattle.std.specs.Option.{option_map, option_and_then}
use Rattle.std.specs.Ordering.{int_eq}
use Rattle.std.proofs.lemmas.Cmp.{int_eq_equiv}
use Rattle.text_laws.proofs.Built.{length_told}
use Rattle.text_laws.specs.Rebuilding.{Part, part, then, place_of, push_node, rebuilt, program_of}

then_done : (t : Tree) → then t done ≡ t
unfolding then
then_done done = refl
then_done (go m x y speed t) = ap (go m x y speed) (then_done t)
then_done (call k t) = ap (call k) (then_done t)
then_done (block b body t) = ap (block b body) (then_done t)

then_assoc : (t u v : Tree) → then (then t u) v ≡ then t (then u v)
unfolding then
then_assoc done u v = refl
then_assoc (go m x y speed t) u v = ap (go m x y speed) (then_assoc t u v)
then_assoc (call k t) u v = ap (call k) (then_assoc t u v)
then_assoc (block b body t) u v = ap (block b body) (then_assoc t u v)

-- nodes are four numbers each
abbrev Quads : List ℤ → Type 0
Quads ns = length ns ≡ 4 * (length ns / 4)

quads_more : (ns : List ℤ) (k a b c : ℤ) → Quads ns → Quads (ns ++ node k a b c) × (length (ns ++ node k a b c) / 4 ≡ length ns / 4 + 1)
quads_more ns k a b c q = let e = length-append ns (node k a b c) in (omega arith, omega arith)

-- from the nodes ns, with ps waiting, to the nodes ms, with qs waiting
record Goes (ns : List ℤ) (ps : List Part) (ms : List ℤ) (qs : List Part) : Type 0 where
  more : List ℤ
  is : ms ≡ ns ++ more
  quads : Quads ms
  leads : (rest : List ℤ) → rebuilt (length ns / 4) (more ++ rest) ps ≡ rebuilt (length ms / 4) rest qs

goes_none : (ns : List ℤ) (ps : List Part) → Quads ns → Goes ns ps ns ps
goes_none ns ps q = record { more = []; is = sym (append-nil ns); quads = q; leads = λ rest. refl }

goes_on : (ns ms ls : List ℤ) (ps qs rs : List Part) → Goes ns ps ms qs → Goes ms qs ls rs → Goes ns ps ls rs
goes_on ns ms ls ps qs rs g h = record {
  more = g.more ++ h.more;
  is = h.is ∙ ap (λ (xs : List ℤ). xs ++ h.more) g.is ∙ append_assoc ns g.more h.more;
  quads = h.quads;
  leads = λ rest. ap (λ (xs : List ℤ). rebuilt (length ns / 4) xs ps) (append_assoc g.more h.more rest) ∙ g.leads (h.more ++ rest) ∙ h.leads rest;
}

goes_node : (ns : List ℤ) (k a b c : ℤ) (ps qs : List Part) → Quads ns → push_node (next_node ns) k a b c ps ≡ Some qs → Goes ns ps (ns ++ node k a b c) qs
unfolding rebuilt
goes_node ns k a b c ps qs q e =
    let m = quads_more ns k a b c q in
    record {
      more = node k a b c;
      is = refl;
      quads = m.0;
      leads = λ rest. ap (λ (o : Option (List Part)). option_and_then (λ rs. rebuilt (length ns / 4 + 1) rest rs) o) e ∙ ap (λ (n : ℕ). rebuilt n rest qs) (sym m.1);
    }

-- what waits while lines are laid: those so far, on the parts before them
abbrev stacked : Option ℤ → Tree → List Part → List Part
stacked None u ps = ps
stacked (Some s) u ps = part s u ∷ ps

abbrev SoFar : Option ℤ → Tree → Type 0
SoFar None u = u ≡ done
SoFar (Some s) u = Unit {0}

-- a line's part is joined to the lines before it
goes_line : (last : Option ℤ) (ns : List ℤ) (k a b c : ℤ) (u one : Tree) (ps qs : List Part) → Quads ns → SoFar last u → push_node (next_node ns) k a b c qs ≡ Some (part (next_node ns) one ∷ stacked last u ps) → Goes ns qs (joined last ns (node k a b c)).nodes (stacked (joined last ns (node k a b c)).last (then u one) ps)
unfolding then
goes_line None ns k a b c u one ps qs q f e =
    subst (λ (t : Tree). Goes ns qs (ns ++ node k a b c) (part (next_node ns) t ∷ ps)) (ap (λ (t : Tree). then t one) (sym f)) (goes_node ns k a b c qs (part (next_node ns) one ∷ ps) q e)
goes_line (Some s) ns k a b c u one ps qs q f e =
    let first = goes_node ns k a b c qs (part (next_node ns) one ∷ part s u ∷ ps) q e in
    goes_on ns (ns ++ node k a b c) _ qs (part (next_node ns) one ∷ part s u ∷ ps) _ first
    (goes_node (ns ++ node k a b c) (pos 3) s (next_node ns) (pos 0) (part (next_node ns) one ∷ part s u ∷ ps) _ first.quads
    (rw (int_eq_equiv.refl s, int_eq_equiv.refl (next_node ns))))

-- the sub-programs' parts are found by their nodes, wherever in the stack they wait
Knows : List ℤ → List Part → Type 0
Knows subs ps = (k : ℕ) → k < length subs → place_of (get_or subs k (pos 0)) (reverse ps) ≡ Some k

place_append : (a : ℤ) (ps qs : List Part) (k : ℕ) → place_of a ps ≡ Some k → place_of a (ps ++ qs) ≡ Some k
unfolding place_of
place_append a [] qs k e = absurd cc
place_append a (p ∷ ps) qs k e = goes (int_eq p.name a) (place_of a ps) (place_of a (ps ++ qs)) (λ j. place_append a ps qs j) e
  where
    goes : (b : Bool) (o q : Option ℕ) → ((j : ℕ) → o ≡ Some j → q ≡ Some j) → cond b (Some 0) (option_map (λ j. j + 1) o) ≡ Some k → cond b (Some 0) (option_map (λ j. j + 1) q) ≡ Some k
    goes true o q h e = e
    goes false None q h e = absurd cc
    goes false (Some j) q h e = rw (h j refl) e

knows_more : (subs : List ℤ) (p : Part) (ps : List Part) → Knows subs ps → Knows subs (p ∷ ps)
unfolding Knows
knows_more subs p ps h k lt = ap (place_of (get_or subs k (pos 0))) (reverse-append (p ∷ []) ps) ∙ place_append (get_or subs k (pos 0)) (reverse ps) (p ∷ []) k (h k lt)

knows_stacked : (subs : List ℤ) (last : Option ℤ) (u : Tree) (ps : List Part) → Knows subs ps → Knows subs (stacked last u ps)
knows_stacked subs None u ps h = h
knows_stacked subs (Some s) u ps h = knows_more subs (part s u) ps h

so_far_line : (last : Option ℤ) (ns line : List ℤ) (u : Tree) → SoFar (joined last ns line).last u
so_far_line None ns line u = tt
so_far_line (Some s) ns line u = tt

goes_body : (last : Option ℤ) (ns : List ℤ) (u : Tree) (ps : List Part) → Quads ns → SoFar last u → Goes ns (stacked last u ps) (body_filled last ns) (part (body_named last ns) u ∷ ps)
goes_body None ns u ps q f =
    subst (λ (t : Tree). Goes ns ps (ns ++ node (pos 0) (pos 0) (pos 0) (pos 0)) (part (next_node ns) t ∷ ps)) (sym f)
    (goes_node ns (pos 0) (pos 0) (pos 0) (pos 0) ps (part (next_node ns) done ∷ ps) q refl)
goes_body (Some s) ns u ps q f = goes_none ns (part s u ∷ ps) q

goes_block : (b : Block) (body : ℤ) (last : Option ℤ) (ns : List ℤ) (t u : Tree) (ps : List Part) → Quads ns → SoFar last u → Goes ns (part body t ∷ stacked last u ps) (joined last ns (block_node b body)).nodes (stacked (joined last ns (block_node b body)).last (then u (block b t done)) ps)
goes_block (Repeat n) body last ns t u ps q f = goes_line last ns (pos 4) n body (pos 0) u (block (Repeat n) t done) ps (part body t ∷ stacked last u ps) q f (rw (int_eq_equiv.refl body))
goes_block (Offset x y) body last ns t u ps q f = goes_line last ns (pos 5) x y body u (block (Offset x y) t done) ps (part body t ∷ stacked last u ps) q f (rw (int_eq_equiv.refl body))
goes_block Turned body last ns t u ps q f = goes_line last ns (pos 6) body (pos 0) (pos 0) u (block Turned t done) ps (part body t ∷ stacked last u ps) q f (rw (int_eq_equiv.refl body))
goes_block Mirrored body last ns t u ps q f = goes_line last ns (pos 7) body (pos 0) (pos 0) u (block Mirrored t done) ps (part body t ∷ stacked last u ps) q f (rw (int_eq_equiv.refl body))

push_move : (way : Move) (n x y speed : ℤ) (ps : List Part) → push_node n (move_kind way) x y speed ps ≡ Some (part n (go way x y speed done) ∷ ps)
push_move Absolute n x y speed ps = refl
push_move Incremental n x y speed ps = refl

-- lines are laid behind those so far, and lead to all of them
record Leads (l m : Laid) (u v : Tree) (ps : List Part) : Type 0 where
  goes : Goes l.nodes (stacked l.last u ps) m.nodes (stacked m.last v ps)
  so_far : SoFar m.last v

-- a line, then those behind it
leads_after : (l m k : Laid) (u one t : Tree) (ps : List Part) → Goes l.nodes (stacked l.last u ps) m.nodes (stacked m.last (then u one) ps) → Leads m k (then u one) (then (then u one) t) ps → Leads l k u (then u (then one t)) ps
leads_after l m k u one t ps g h =
    subst (λ (v : Tree). Leads l k u v ps) (then_assoc u one t) (record {
      goes = goes_on l.nodes m.nodes k.nodes (stacked l.last u ps) (stacked m.last (then u one) ps) (stacked k.last (then (then u one) t) ps) g h.goes;
      so_far = h.so_far;
    })

leads_tree : (t : Tree) (subs : List ℤ) (l : Laid) (u : Tree) (ps : List Part) → Quads l.nodes → SoFar l.last u → Knows subs ps → ProperTree (length subs) t → Leads l (lay subs t l) u (then u t) ps
unfolding lay then Knows
leads_tree done subs l u ps q f kn ok = subst (λ (v : Tree). Leads l l u v ps) (sym (then_done u)) (record { goes = goes_none l.nodes (stacked l.last u ps) q; so_far = f })
leads_tree (go way x y speed t) subs l u ps q f kn ok =
    let one : Tree = go way x y speed done in
    let m : Laid = with_line (node (move_kind way) x y speed) l in
    let g = goes_line l.last l.nodes (move_kind way) x y speed u one ps (stacked l.last u ps) q f (push_move way _ x y speed (stacked l.last u ps)) in
    leads_after l m (lay subs t m) u one t ps g (leads_tree t subs m (then u one) ps g.quads (so_far_line l.last l.nodes _ (then u one)) kn ok.3)
leads_tree (call k t) subs l u ps q f kn ok =
    let one : Tree = call k done in
    let body : ℤ = get_or subs k (pos 0) in
    let m : Laid = with_line (node (pos 8) body (pos 0) (pos 0)) l in
    let found = knows_stacked subs l.last u ps kn k ok.0 in
    let g = goes_line l.last l.nodes (pos 8) body (pos 0) (pos 0) u one ps (stacked l.last u ps) q f (rw found) in
    leads_after l m (lay subs t m) u one t ps g (leads_tree t subs m (then u one) ps g.quads (so_far_line l.last l.nodes _ (then u one)) kn ok.1)
leads_tree (block b body t) subs l u ps q f kn ok =
    let one : Tree = block b body done in
    let before : List Part = stacked l.last u ps in
    let inner : Laid = lay subs body (anew l.nodes) in
    let m : Laid = with_block b inner l in
    let h = leads_tree body subs (anew l.nodes) done before q refl (knows_stacked subs l.last u ps kn) ok.1 in
    let e = goes_body inner.last inner.nodes body before h.goes.quads h.so_far in
    let g = goes_block b (body_of inner) l.last (body_nodes inner) body u ps e.quads f in
    let whole-block = goes_on l.nodes inner.nodes (body_nodes inner) before (stacked inner.last body before) (part (body_of inner) body ∷ before) h.goes e in
    leads_after l m (lay subs t m) u one t ps (goes_on l.nodes (body_nodes inner) m.nodes before (part (body_of inner) body ∷ before) (stacked m.last (then u one) ps) whole-block g)
    (leads_tree t subs m (then u one) ps g.quads (so_far_line l.last (body_nodes inner) _ (then u one)) kn ok.2)

-- the node of lines that are laid is one of those laid for them
abbrev Ranged : ℕ → ℕ → Option ℤ → Type 0
Ranged low high None = Unit {0}
Ranged low high (Some s) = (m : ℕ) × (s ≡ pos m) × (low ≤ m) × (m < high)

record Grown (low : ℕ) (l : Laid) : Type 0 where
  quads : Quads l.nodes
  high : low ≤ length l.nodes / 4
  range : Ranged low (length l.nodes / 4) l.last

grown_line : (low : ℕ) (last : Option ℤ) (ns : List ℤ) (k a b c : ℤ) → Quads ns → low ≤ length ns / 4 → Grown low (joined last ns (node k a b c))
grown_line low None ns k a b c q h =
    let e = quads_more ns k a b c q in
    record { quads = e.0; high = omega arith; range = (length ns / 4, refl, h, omega arith) }
grown_line low (Some s) ns k a b c q h =
    let e = quads_more ns k a b c q in
    let f = quads_more (ns ++ node k a b c) (pos 3) s (next_node ns) (pos 0) e.0 in
    record { quads = f.0; high = omega arith; range = (length (ns ++ node k a b c) / 4, refl, omega arith, omega arith) }

record Named (low : ℕ) (n : ℤ) (ns : List ℤ) : Type 0 where
  number : ℕ
  is : n ≡ pos number
  low_end : low ≤ number
  high_end : number < length ns / 4
  quads : Quads ns

named_body : (low : ℕ) (last : Option ℤ) (ns : List ℤ) → Quads ns → low ≤ length ns / 4 → Ranged low (length ns / 4) last → Named low (body_named last ns) (body_filled last ns)
named_body low None ns q h r =
    let e = quads_more ns (pos 0) (pos 0) (pos 0) (pos 0) q in
    record { number = length ns / 4; is = refl; low_end = h; high_end = omega arith; quads = e.0 }
named_body low (Some s) ns q h r = record { number = r.0; is = r.1; low_end = r.2; high_end = r.3; quads = q }

grown_block : (low : ℕ) (b : Block) (body : ℤ) (last : Option ℤ) (ns : List ℤ) → Quads ns → low ≤ length ns / 4 → Grown low (joined last ns (block_node b body))
grown_block low (Repeat n) body last ns q h = grown_line low last ns (pos 4) n body (pos 0) q h
grown_block low (Offset x y) body last ns q h = grown_line low last ns (pos 5) x y body q h
grown_block low Turned body last ns q h = grown_line low last ns (pos 6) body (pos 0) (pos 0) q h
grown_block low Mirrored body last ns q h = grown_line low last ns (pos 7) body (pos 0) (pos 0) q h

grown_tree : (t : Tree) (subs : List ℤ) (low : ℕ) (l : Laid) → Grown low l → Grown low (lay subs t l)
unfolding lay
grown_tree done subs low l g = g
grown_tree (go m x y speed t) subs low l g = grown_tree t subs low _ (grown_line low l.last l.nodes _ x y speed g.quads g.high)
grown_tree (call k t) subs low l g = grown_tree t subs low _ (grown_line low l.last l.nodes (pos 8) _ (pos 0) (pos 0) g.quads g.high)
grown_tree (block b body t) subs low l g =
    let inner : Laid = lay subs body (anew l.nodes) in
    let h = grown_tree body subs low (anew l.nodes) (record { quads = g.quads; high = g.high; range = tt }) in
    let n = named_body low inner.last inner.nodes h.quads h.high h.range in
    grown_tree t subs low _ (grown_block low b (body_of inner) l.last (body_nodes inner) n.quads (omega (arith, n.low_end, n.high_end)))

-- parts whose nodes are among the first n; the oldest first
abbrev Below : ℕ → List Part → Type 0
Below n [] = Unit {0}
Below n (p ∷ ps) = ((m : ℕ) × (p.name ≡ pos m) × (m < n)) × Below n ps

below_push : (n n' : ℕ) (ps : List Part) (p : Part) → n ≤ n' → Below n ps → (m : ℕ) → p.name ≡ pos m → m < n' → Below n' (ps ++ p ∷ [])
below_push n n' [] p le h m e lt = ((m, e, lt), tt)
below_push n n' (q ∷ ps) p le h m e lt = ((h.0.0, h.0.1, omega (arith, h.0.2)), below_push n n' ps p le h.1 m e lt)

apart : (x y : ℤ) (m n : ℕ) → x ≡ pos m → y ≡ pos n → m < n → int_eq x y ≡ false
apart x y m n e f lt = false_from_ne_true (int_eq x y) (λ t. let same : x ≡ y = (Decides-int_eq x y).0 t in let g : m ≡ n = cc in omega arith)

place_last : (n : ℕ) (ps : List Part) (b : ℤ) (t : Tree) (m : ℕ) → Below n ps → b ≡ pos m → n ≤ m → place_of b (ps ++ part b t ∷ []) ≡ Some (length ps)
unfolding place_of
place_last n [] b t m h e le = rw (int_eq_equiv.refl b)
place_last n (p ∷ ps) b t m h e le =
    let one = place_last n ps b t m h.1 e le in
    rw (apart p.name b h.0.0 m h.0.1 e (omega (arith, h.0.2)), one) (ap Some (omega arith))

-- the sub-programs' parts, the oldest first
Places : List ℤ → List Part → Type 0
Places subs ps = (k : ℕ) → k < length subs → place_of (get_or subs k (pos 0)) ps ≡ Some k

record Known (s : Told) (ps : List Part) (ts : List Tree) : Type 0 where
  quads : Quads s.nodes
  places : Places s.subs ps
  many : length ps ≡ length s.subs
  below : Below (length s.nodes / 4) ps
  lines : map (λ (p : Part). p.lines) ps ≡ ts

places_push : (subs : List ℤ) (ps : List Part) (n m : ℕ) (b : ℤ) (t : Tree) → Places subs ps → length ps ≡ length subs → Below n ps → b ≡ pos m → n ≤ m → Places (subs ++ b ∷ []) (ps ++ part b t ∷ [])
unfolding Places
places_push subs ps n m b t h e below is le k lt =
    elim (cases_lt k (length subs)) [
      | inl in-subs ↦ ap (λ (a : ℤ). place_of a (ps ++ part b t ∷ [])) (get_or_append_left subs (b ∷ []) (pos 0) k in-subs) ∙ place_append (get_or subs k (pos 0)) ps (part b t ∷ []) k (h k in-subs)
      | inr past ↦
          let last : length subs ≡ k = omega (arith, length-append subs (b ∷ [])) in
          ap (λ (a : ℤ). place_of a (ps ++ part b t ∷ [])) (get_or_push subs b (pos 0) k last) ∙ place_last n ps b t m below is le ∙ ap Some (e ∙ last)
    ]

record Through (s r : Told) (ps : List Part) (us : List Tree) : Type 0 where
  parts : List Part
  goes : Goes s.nodes (reverse ps) r.nodes (reverse parts)
  known : Known r parts us

-- lines that are complete: their part comes on those that wait
goes_whole : (t : Tree) (subs ns : List ℤ) (ps : List Part) → Quads ns → Places subs ps → ProperTree (length subs) t → Goes ns (reverse ps) (body_nodes (lay subs t (anew ns))) (part (body_of (lay subs t (anew ns))) t ∷ reverse ps)
unfolding then Knows Places
goes_whole t subs ns ps q places ok =
    let inner : Laid = lay subs t (anew ns) in
    let h = leads_tree t subs (anew ns) done (reverse ps) q refl (λ k lt. ap (place_of (get_or subs k (pos 0))) (reverse-reverse ps) ∙ places k lt) ok in
    goes_on ns inner.nodes (body_nodes inner) (reverse ps) (stacked inner.last t (reverse ps)) (part (body_of inner) t ∷ reverse ps) h.goes
    (goes_body inner.last inner.nodes t (reverse ps) h.goes.quads h.so_far)

through_sub : (t : Tree) (s : Told) (ps : List Part) (us : List Tree) → Known s ps us → ProperTree (length s.subs) t → Through s (tell s.subs (lay s.subs t (anew s.nodes))) ps (us ++ t ∷ [])
through_sub t s ps us kn ok =
    let inner : Laid = lay s.subs t (anew s.nodes) in
    let low : ℕ = length s.nodes / 4 in
    let p : Part = part (body_of inner) t in
    let grown = grown_tree t s.subs low (anew s.nodes) (record { quads = kn.quads; high = omega arith; range = tt }) in
    let name = named_body low inner.last inner.nodes grown.quads grown.high grown.range in
    record {
      parts = ps ++ p ∷ [];
      goes = subst (λ (qs : List Part). Goes s.nodes (reverse ps) (body_nodes inner) qs) (sym (reverse-append ps (p ∷ []))) (goes_whole t s.subs s.nodes ps kn.quads kn.places ok);
      known = record {
        quads = name.quads;
        places = places_push s.subs ps low name.number (body_of inner) t kn.places kn.many kn.below name.is name.low_end;
        many = length_push ps p ∙ ap (λ (n : ℕ). n + 1) kn.many ∙ sym (length_push s.subs (body_of inner));
        below = below_push low (length (body_nodes inner) / 4) ps p (omega (arith, name.low_end, name.high_end)) kn.below name.number name.is name.high_end;
        lines = map_push (λ (q : Part). q.lines) ps p ∙ ap (λ (ts : List Tree). ts ++ t ∷ []) kn.lines;
      };
    }

through_subs : (ts : List Tree) (s : Told) (ps : List Part) (us : List Tree) → Known s ps us → ProperSubs (length s.subs) ts → Through s (tell_all ts s) ps (us ++ ts)
unfolding tell_all
through_subs [] s ps us kn ok = subst (λ (vs : List Tree). Through s s ps vs) (sym (append-nil us)) (record { parts = ps; goes = goes_none s.nodes (reverse ps) kn.quads; known = kn })
through_subs (t ∷ ts) s ps us kn ok =
    let next : Told = tell s.subs (lay s.subs t (anew s.nodes)) in
    let one = through_sub t s ps us kn ok.0 in
    let more = through_subs ts next one.parts (us ++ t ∷ []) one.known (subst (λ (n : ℕ). ProperSubs n ts) (sym (length_push s.subs _)) ok.1) in
    subst (λ (vs : List Tree). Through s (tell_all ts next) ps vs) (append_assoc us (t ∷ []) ts) (record {
      parts = more.parts;
      goes = goes_on s.nodes next.nodes (tell_all ts next).nodes (reverse ps) (reverse one.parts) (reverse more.parts) one.goes more.goes;
      known = more.known;
    })

pub leads_back : (p : Program) → Proper p → program_of (nodes_of p) ≡ Some p
unfolding rebuilt Places
leads_back p ok =
    let none : Told = record { nodes = []; subs = [] } in
    let start : Known none [] [] = record { quads = refl; places = λ k lt. absurd (omega arith); many = refl; below = tt; lines = refl } in
    let subs = through_subs p.subs none [] [] start ok.subs_proper in
    let r : Told = told p in
    let long : length p.subs ≡ length r.subs = omega (arith, length_told p.subs none) in
    let inner : Laid = lay r.subs p.main (anew r.nodes) in
    let main = goes_whole p.main r.subs r.nodes subs.parts subs.known.quads subs.known.places (subst (λ (n : ℕ). ProperTree n p.main) long ok.main_proper) in
    let all = goes_on [] r.nodes (nodes_of p) [] (reverse subs.parts) (part (body_of inner) p.main ∷ reverse subs.parts) subs.goes main in
    ap (λ (ns : List ℤ). rebuilt 0 ns []) (all.is ∙ sym (append-nil all.more))
    ∙ all.leads []
    ∙ ap (λ (ts : List Tree). Some (record { subs = ts; main = p.main })) (ap (map (λ (q : Part). q.lines)) (reverse-reverse subs.parts) ∙ subs.known.lines)
