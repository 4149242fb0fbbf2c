-- What is promised of work: one record for every state that a row of events can lead to. Assumes nothing.
--   Fit m               a machine that can move: its change and its top speed are at least 1
--   start_of p ts k     where the line begins that has k targets before it, the first one at p
--   cap_now, made       the cap of the next tick, and how many steps it makes
--   OnPath             it is on a line of the path, at a place of that line, each axis on the step nearest to it
--   CanStop            what is left of its line suffices to stop
--   Ticked              what a tick does
--   rest_place          where it comes to a stand if it is held from now on
--   Quiet es, count es  a row with no go in it, and how many ticks it has
--   Caps                the caps of the lines still to go are at least 1
--   to_go               how many ticks suffice to come to the end
--   Runs                rows of speeds that keep the limits along the lines still to go, one line after the other
--   Promise             all that is promised of a state; Promised says it of every row of events
use Rattle.std.specs.Prelude.{◌≡◌, ℕ, zero, suc, ◌+◌, ◌-◌, ◌*◌, ◌<◌, ◌≤◌, max, ◌⊎◌, List, [], ◌∷◌, length, ◌-ℤ◌, ◌≢◌, unsigned_abs}
use Rattle.geometry.specs.declared.place.Place.{Place}
use Rattle.program.specs.declared.target.Target.{Target}
use Rattle.line.specs.Lines.{long, on_line}
use Rattle.line.specs.Laws.{Nearest}
use Rattle.speed.specs.Speeds.{stopping}
use Rattle.speed.specs.Laws.{Run}
use Rattle.work.specs.declared.machine.Machine.{Machine}
use Rattle.work.specs.declared.motion.Motion.{Motion}
use Rattle.work.specs.declared.panel.Panel.{Panel}
use Rattle.work.specs.declared.work.Work.{Work}
use Rattle.work.specs.declared.event.Event.{Event}
use Rattle.work.specs.declared.event.Event.TheVariants.{Tick, Hold, Go, Knob}
use Rattle.work.specs.Works.{limit, steps, todo, tick, happens, row, ticks, after, place}

pub record Fit (m : Machine) : Type 0 where
  pub changes : 1 ≤ m.change
  pub moves : 1 ≤ m.top

unfoldable pub start_of : Place → List Target → ℕ → Place
start_of p ts zero = p
start_of p [] (suc k) = p
start_of p (t ∷ ts) (suc k) = start_of t.to ts k

abbrev pub cap_now : Machine → Panel → List Target → ℕ
cap_now m q [] = 0
cap_now m q (t ∷ ts) = limit m q t.fast

abbrev pub made : Machine → Panel → Motion → List Target → ℕ
made m q w [] = 0
made m q w (t ∷ ts) = steps m.change (limit m q t.fast) w t

-- at a place of the line to the next target, or where the last line ended
pub record OnLine (w : Motion) (q p : Place) : Type 0 where
  pub at : p ≡ on_line w.from q w.done
  pub within : w.done ≤ long w.from q
  pub across : 0 < long w.from q → Nearest w.done (long w.from q) (q.x -ℤ w.from.x) (p.x -ℤ w.from.x)
  pub along : 0 < long w.from q → Nearest w.done (long w.from q) (q.y -ℤ w.from.y) (p.y -ℤ w.from.y)

abbrev pub Stood : Motion → Place → List Target → Type 0
Stood w p [] = p ≡ w.from
Stood w p (t ∷ ts) = OnLine w t.to p

pub record OnPath (p : Place) (ts : List Target) (w : Motion) : Type 0 where
  pub few : w.behind ≤ length ts
  pub began : w.from ≡ start_of p ts w.behind
  pub stood : Stood w (place ts w) (todo ts w)

abbrev pub CanStop : (a : ℕ) → Motion → List Target → Type 0
CanStop a w [] = (w.done ≡ 0) × (w.speed ≡ 0)
CanStop a w (t ∷ ts) = (w.done + stopping a w.speed ≤ long w.from t.to) × (w.done < max 1 (long w.from t.to))

-- a tick that goes on along its line by n steps
pub record GoesOn (n : ℕ) (w v : Motion) : Type 0 where
  pub behind : v.behind ≡ w.behind
  pub from : v.from ≡ w.from
  pub done : v.done ≡ w.done + n
  pub speed : v.speed ≡ n

-- a tick that ends its line: it makes what was left, and no more than the change
pub record EndsLine (a n : ℕ) (q : Place) (w v : Motion) : Type 0 where
  pub behind : v.behind ≡ suc w.behind
  pub from : v.from ≡ q
  pub done : v.done ≡ 0
  pub speed : v.speed ≡ 0
  pub rest : w.done + n ≡ long w.from q
  pub slow : n ≤ a

abbrev pub Moved : Machine → Panel → (w v : Motion) → List Target → Type 0
Moved m q w v [] = v ≡ w
Moved m q w v (t ∷ ts) = GoesOn (made m q w (t ∷ ts)) w v ⊎ EndsLine m.change (made m q w (t ∷ ts)) t.to w v

pub record Ticked (m : Machine) (q : Panel) (ts : List Target) (w v : Motion) : Type 0 where
  pub up : made m q w (todo ts w) ≤ w.speed + m.change
  pub down : w.speed ≤ made m q w (todo ts w) + m.change
  pub capped : (made m q w (todo ts w) ≤ cap_now m q (todo ts w)) ⊎ (made m q w (todo ts w) ≡ w.speed - m.change)
  pub moved : Moved m q w v (todo ts w)
  pub across : unsigned_abs ((place ts v).x -ℤ (place ts w).x) ≤ made m q w (todo ts w)
  pub along : unsigned_abs ((place ts v).y -ℤ (place ts w).y) ≤ made m q w (todo ts w)
  -- so no axis gets more pulses than the cap or the speed it had
  pub few : made m q w (todo ts w) ≤ max (cap_now m q (todo ts w)) w.speed

unfoldable pub rest_place : (a : ℕ) → Motion → List Target → Place
rest_place a w [] = w.from
rest_place a w (t ∷ ts) = on_line w.from t.to (w.done + stopping a w.speed)

abbrev pub IsQuiet : Event → Type 0
IsQuiet Tick = Unit {0}
IsQuiet Hold = Unit {0}
IsQuiet Go = ⊥
IsQuiet (Knob n) = Unit {0}

unfoldable pub Quiet : List Event → Type 0
Quiet [] = Unit {0}
Quiet (e ∷ es) = IsQuiet e × Quiet es

abbrev pub one : Event → ℕ
one Tick = 1
one Hold = 0
one Go = 0
one (Knob n) = 0

unfoldable pub count : List Event → ℕ
count [] = 0
count (e ∷ es) = one e + count es

pub record Stands (m : Machine) (ts : List Target) (w v : Motion) : Type 0 where
  pub still : v.speed ≡ 0
  pub there : place ts v ≡ rest_place m.change w (todo ts w)

unfoldable pub Caps : Machine → Panel → List Target → Type 0
Caps m q [] = Unit {0}
Caps m q (t ∷ ts) = (1 ≤ limit m q t.fast) × Caps m q ts

unfoldable pub to_go : Place → (done : ℕ) → List Target → ℕ
to_go p n [] = 0
to_go p n (t ∷ ts) = (max 1 (long p t.to) - n) + to_go t.to 0 ts

pub record Arrived (p : Place) (ts : List Target) (w : Motion) : Type 0 where
  pub all : w.behind ≡ length ts
  pub there : place ts w ≡ start_of p ts (length ts)
  pub still : w.speed ≡ 0

-- along each line a row of speeds from a stand, or on the first one from x and v, that ends slow enough to stop; n ticks in all
pub data Runs (m : Machine) (q : Panel) : Place → ℕ → ℕ → List Target → ℕ → Type 0 where
  ended : (p : Place) (x v : ℕ) → Runs m q p x v [] 0
  line :
      (p : Place) (x v : ℕ) (t : Target) (ts : List Target) (n k w : ℕ) → 1 ≤ n → Run m.change (limit m q t.fast) x v n (long p t.to) w →
      w ≤ m.change → Runs m q t.to 0 0 ts k → Runs m q p x v (t ∷ ts) (n + k)

pub record Promise (m : Machine) (p : Place) (ts : List Target) (w : Work) : Type 0 where
  -- it is on the path
  pub on_path : OnPath p ts w.motion
  -- it can stop within its line
  pub can_stop : CanStop m.change w.motion (todo ts w.motion)
  -- a tick is smooth, capped, and bounded on each axis
  pub ticked : Ticked m w.panel ts w.motion (tick m w.panel ts w.motion)
  -- only ticks move
  pub kept : (e : Event) → (e ≢ Tick) → (happens m ts e w).motion ≡ w.motion
  -- held, it comes to a stand within as many ticks as its speed needs, where its stopping distance says, and stays
  pub stands :
      (es : List Event) → Quiet es → w.motion.speed ≤ count es * m.change → Stands m ts w.motion (row m ts es (happens m ts Hold w)).motion
  -- let go, with caps of at least 1, it comes to the last target exactly
  pub arrives :
      (n : ℕ) → Caps m w.panel (todo ts w.motion) → to_go w.motion.from w.motion.done (todo ts w.motion) ≤ n →
      Arrived p ts (row m ts (ticks n) w).motion
  -- along its line no run that keeps the limits is there in fewer ticks
  pub fewest :
      (t : Target) (us : List Target) (n u : ℕ) → todo ts w.motion ≡ t ∷ us → 1 ≤ n →
      Run m.change (limit m w.panel t.fast) w.motion.done w.motion.speed n (long w.motion.from t.to) u → u ≤ m.change →
      w.motion.behind < (row m ts (ticks n) w).motion.behind
  -- nor line after line
  pub fewest_of_all :
      (n : ℕ) → Runs m w.panel w.motion.from w.motion.done w.motion.speed (todo ts w.motion) n →
      (row m ts (ticks n) w).motion.behind ≡ length ts

abbrev pub Promised : Type 0
Promised = (m : Machine) (p : Place) (ts : List Target) (es : List Event) → Fit m → Promise m p ts (after m ts p es)
