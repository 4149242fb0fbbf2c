-- Worked examples, tick by tick: a change of 2, a top speed of 100, from 0, 0. Assumes nothing.
--   Seen       where it is after a tick, and how fast
--   seen       what is seen after each tick of a row of events, the earliest first
--   Worked     the table
use Rattle.std.specs.Prelude.{◌≡◌, ℕ, List, [], ◌∷◌, map, ℤ, pos, negsuc}
use Rattle.program.specs.declared.target.Target.{Target}
use Rattle.speed.specs.Speeds.{stopping}
use Rattle.work.specs.declared.machine.Machine.{Machine}
use Rattle.work.specs.declared.work.Work.{Work}
use Rattle.work.specs.declared.event.Event.{Event}
use Rattle.work.specs.declared.event.Event.TheVariants.{Tick, Hold, Go, Knob}
use Rattle.work.specs.Works.{happens, begun, place}

pub record Seen : Type 0 where
  pub x : ℤ
  pub y : ℤ
  pub speed : ℕ

abbrev pub at : ℤ → ℤ → ℕ → Seen
at a b v = record { x = a; y = b; speed = v }

abbrev pub now_seen : List Target → Work → Seen
now_seen ts w = at (place ts w.motion).x (place ts w.motion).y w.motion.speed

abbrev pub then_seen : List Target → Event → Work → List Seen → List Seen
then_seen ts Tick w rest = now_seen ts w ∷ rest
then_seen ts Hold w rest = rest
then_seen ts Go w rest = rest
then_seen ts (Knob n) w rest = rest

unfoldable pub seen : Machine → List Target → List Event → Work → List Seen
seen m ts [] w = []
seen m ts (e ∷ es) w = then_seen ts e (happens m ts e w) (seen m ts es (happens m ts e w))

abbrev pub to : ℤ → ℤ → ℕ → Target
to a b f = record { to = record { x = a; y = b }; fast = f }

abbrev pub worked : List Target → List Event → List Seen
worked ts es = seen (record { change = 2; top = 100 }) ts es (begun (record { x = pos 0; y = pos 0 }))

abbrev pub six : List Event
six = Tick ∷ (Tick ∷ (Tick ∷ (Tick ∷ (Tick ∷ (Tick ∷ [])))))

pub record Worked : Type 0 where
  pub along_an_axis :
      worked (to (pos 20) (pos 0) 5 ∷ []) six
      ≡ at (pos 2) (pos 0) 2 ∷ (at (pos 6) (pos 0) 4 ∷ (at (pos 11) (pos 0) 5 ∷ (at (pos 16) (pos 0) 5 ∷ (at (pos 19) (pos 0) 3 ∷ (at (pos 20) (pos 0) 0 ∷ [])))))
  pub slanting :
      worked (to (pos 20) (pos 7) 5 ∷ []) six
      ≡ at (pos 2) (pos 1) 2 ∷ (at (pos 6) (pos 2) 4 ∷ (at (pos 11) (pos 4) 5 ∷ (at (pos 16) (pos 6) 5 ∷ (at (pos 19) (pos 7) 3 ∷ (at (pos 20) (pos 7) 0 ∷ [])))))
  pub steep : worked (to (pos 3) (negsuc 3) 50 ∷ []) (Tick ∷ (Tick ∷ [])) ≡ at (pos 2) (negsuc 1) 2 ∷ (at (pos 3) (negsuc 3) 0 ∷ [])
  pub held :
      worked (to (pos 20) (pos 0) 5 ∷ []) (Tick ∷ (Tick ∷ (Hold ∷ (Tick ∷ (Tick ∷ (Go ∷ (Tick ∷ (Tick ∷ (Tick ∷ (Tick ∷ []))))))))))
      ≡ at (pos 2) (pos 0) 2 ∷ (at (pos 6) (pos 0) 4 ∷ (at (pos 8) (pos 0) 2 ∷ (at (pos 8) (pos 0) 0
      ∷ (at (pos 10) (pos 0) 2 ∷ (at (pos 14) (pos 0) 4 ∷ (at (pos 18) (pos 0) 4 ∷ (at (pos 20) (pos 0) 0 ∷ [])))))))
  pub turned_down :
      worked (to (pos 20) (pos 0) 6 ∷ []) (Tick ∷ (Tick ∷ (Tick ∷ (Knob 50 ∷ (Tick ∷ (Tick ∷ (Tick ∷ [])))))))
      ≡ at (pos 2) (pos 0) 2 ∷ (at (pos 6) (pos 0) 4 ∷ (at (pos 12) (pos 0) 6 ∷ (at (pos 16) (pos 0) 4 ∷ (at (pos 19) (pos 0) 3 ∷ (at (pos 20) (pos 0) 0 ∷ [])))))
  pub line_by_line :
      worked (to (pos 2) (pos 0) 5 ∷ (to (pos 2) (pos 0) 5 ∷ (to (pos 2) (pos 3) 1 ∷ []))) (Tick ∷ (Tick ∷ (Tick ∷ (Tick ∷ (Tick ∷ [])))))
      ≡ at (pos 2) (pos 0) 0 ∷ (at (pos 2) (pos 0) 0 ∷ (at (pos 2) (pos 1) 1 ∷ (at (pos 2) (pos 2) 1 ∷ (at (pos 2) (pos 3) 0 ∷ []))))
  pub stopping_distances :
      map (stopping 2) (0 ∷ (1 ∷ (2 ∷ (3 ∷ (4 ∷ (5 ∷ (6 ∷ (7 ∷ []))))))))
      ≡ 0 ∷ (0 ∷ (0 ∷ (1 ∷ (2 ∷ (4 ∷ (6 ∷ (9 ∷ [])))))))
