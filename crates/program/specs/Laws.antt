-- What holds of programs, whatever they say. Assumes nothing.
--   there x y          a target of speed 9
--   turn_mirror        turn { to 3 1 fast 9; mirror { by 2 0 fast 9; } }
--   mirror_turn        mirror { to 3 1 fast 9; turn { by 2 0 fast 9; } }
--   FramesHold        a program in a frame, begun at the place put there by the frame, says the targets put there and ends
--                      at the place put there; frames nest, the inner first; repetitions and sub-programs are their bodies
use Rattle.std.specs.Prelude.{◌≡◌, ℕ, suc, [], ◌∷◌, ℤ, pos, negsuc}
use Rattle.geometry.specs.Places.{moved, turned, mirrored}
use Rattle.geometry.specs.declared.place.Place.{Place}
use Rattle.program.specs.Programs.{Program, to, by, next, times, at, turn, mirror, sub, Went, stay, followed, placed, framed, went}
use Rattle.program.specs.declared.target.Target.{Target}

abbrev there : ℤ → ℤ → Target
there x y = record { to = record { x = x; y = y }; fast = 9 }

abbrev turn_mirror : Program
turn_mirror = turn (next (to (record { x = pos 3; y = pos 1 }) 9) (mirror (by (record { x = pos 2; y = pos 0 }) 9)))

abbrev mirror_turn : Program
mirror_turn = mirror (next (to (record { x = pos 3; y = pos 1 }) 9) (turn (by (record { x = pos 2; y = pos 0 }) 9)))

pub record FramesHold : Type 0 where
  pub moves : (d : Place) (a : Program) (p : Place) → went (at d a) (moved d p) ≡ placed (moved d) (went a p)
  pub turns : (a : Program) (p : Place) → went (turn a) (turned p) ≡ placed turned (went a p)
  pub mirrors : (a : Program) (p : Place) → went (mirror a) (mirrored p) ≡ placed mirrored (went a p)
  pub four_turns : (a : Program) (p : Place) → went (turn (turn (turn (turn a)))) p ≡ went a p
  pub two_mirrors : (a : Program) (p : Place) → went (mirror (mirror a)) p ≡ went a p
  -- a place is put by the inner frame, f, and then by the outer one, g
  pub nested : (g seen-g f seen-f : Place → Place) (w : Place → Went) (p : Place) →
      framed g seen-g (framed f seen-f w) p ≡ framed (λ q. g (f q)) (λ q. seen-f (seen-g q)) w p
  pub never : (a : Program) (p : Place) → went (times 0 a) p ≡ stay p
  pub once_more : (n : ℕ) (a : Program) (p : Place) → went (times (suc n) a) p ≡ followed (went a) (went (times n a)) p
  pub used : (a : Program) (p : Place) → went (sub a) p ≡ went a p
  pub turn_mirror_says : (went turn_mirror (record { x = pos 0; y = pos 0 })).says ≡ there (negsuc 0) (pos 3) ∷ (there (negsuc 0) (pos 1) ∷ [])
  pub mirror_turn_says : (went mirror_turn (record { x = pos 0; y = pos 0 })).says ≡ there (negsuc 2) (pos 1) ∷ (there (negsuc 2) (pos 3) ∷ [])
