-- The laws of programs.
use Rattle.std.proofs.Common.{◌≡◌, sym, refl, ap, ◌∙◌, arith}
use Rattle.std.proofs.lemmas.Int.{ints}
use Rattle.geometry.proofs.Acts.{same_place}
use Rattle.geometry.specs.Places.{moved, turned, turned_back, mirrored}
use Rattle.geometry.specs.declared.place.Place.{Place}
use Rattle.program.proofs.Meanings.{framed_framed, less_moved, back_turned, mirrored_twice, framed_same}
use Rattle.program.specs.Laws.{FramesHold}
use Rattle.program.specs.Programs.{Program, turn, mirror, placed, framed, went, again}

turned_round : (p : Place) → turned (turned (turned (turned p))) ≡ p
turned_round p = same_place (omega (arith, ints)) (omega (arith, ints))

back_round : (p : Place) → turned_back (turned_back (turned_back (turned_back p))) ≡ p
back_round p = same_place (omega (arith, ints)) (omega (arith, ints))

four_turns : (a : Program) (p : Place) → went (turn (turn (turn (turn a)))) p ≡ went a p
unfolding went
four_turns a p =
    let w = went a in
    framed_framed turned turned_back turned turned_back (λ q. turned (turned q)) (λ q. turned_back (turned_back q)) (λ q. refl) (λ q. refl)
    (framed turned turned_back (framed turned turned_back w)) p
    ∙ framed_framed (λ q. turned (turned q)) (λ q. turned_back (turned_back q)) turned turned_back
    (λ q. turned (turned (turned q))) (λ q. turned_back (turned_back (turned_back q))) (λ q. refl) (λ q. refl) (framed turned turned_back w) p
    ∙ framed_framed (λ q. turned (turned (turned q))) (λ q. turned_back (turned_back (turned_back q))) turned turned_back
    (λ q. q) (λ q. q) (λ q. sym (turned_round q)) (λ q. sym (back_round q)) w p
    ∙ framed_same (λ q. q) (λ q. q) (λ q. refl) (λ q. refl) w p

two_mirrors : (a : Program) (p : Place) → went (mirror (mirror a)) p ≡ went a p
unfolding went
two_mirrors a p =
    framed_framed mirrored mirrored mirrored mirrored (λ q. q) (λ q. q) (λ q. sym (mirrored_twice q)) (λ q. sym (mirrored_twice q)) (went a) p
    ∙ framed_same (λ q. q) (λ q. q) (λ q. refl) (λ q. refl) (went a) p

pub frames_hold : FramesHold
unfolding went again
frames_hold = record {
  moves = λ d a p. ap (λ (q : Place). placed (moved d) (went a q)) (less_moved d p);
  turns = λ a p. ap (λ (q : Place). placed turned (went a q)) (back_turned p);
  mirrors = λ a p. ap (λ (q : Place). placed mirrored (went a q)) (mirrored_twice p);
  four_turns = four_turns;
  two_mirrors = two_mirrors;
  nested = λ g seen-g f seen-f w p.
      framed_framed g seen-g f seen-f (λ q. g (f q)) (λ q. seen-f (seen-g q)) (λ q. refl) (λ q. refl) w p;
  never = λ a p. refl;
  once_more = λ n a p. refl;
  used = λ a p. refl;
  turn_mirror_says = refl;
  mirror_turn_says = refl;
}
