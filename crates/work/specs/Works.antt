-- What the contracts of work cite. Assumes nothing.
--   limit m q f          the cap: the smaller of top speed and the target's, times the percent over 100, rounded down; 0 while held
--   steps a c w t        how many steps a tick makes on the way to t: the next speed, under the cap c
--   arrive w q n v       after n steps of the line to q: where its length is reached the next line begins at 0 with speed 0
--   advance a c w t      a tick under the cap c, on the way to t
--   todo ts w            the targets that are not behind it
--   toward m q w xs      a tick of motion with the targets xs still to go; with none nothing happens
--   tick m q ts w        a tick of motion along the targets ts
--   held, let_go, turned_to   what a hold, a go and a turn of the knob do to the panel, and to nothing else
--   does m xs e w        what an event does, with the targets xs still to go
--   happens m ts e w     what an event does along the targets ts
--   row m ts es w        a row of events, the latest first
--   ticks n              n ticks in a row
--   begun_at p           motion that begins at p
--   begun p              work that begins at p: not held, the knob at 100, speed 0
--   after m ts p es      what a row of events leads to from the beginning
--   stands w xs          where it is, with the targets xs still to go
--   after_tick w b t     where it is after a tick toward t that began with b targets behind
--   place ts w           where it is along the targets ts
use Rattle.std.specs.Prelude.{ℕ, zero, suc, ◌+◌, ◌-◌, ◌*◌, ◌/◌, min, true, false, cond, List, [], ◌∷◌, drop, ◌==◌, nat_le}
use Rattle.geometry.specs.declared.place.Place.{Place}
use Rattle.program.specs.declared.target.Target.{Target}
use Rattle.line.specs.Lines.{long, on_line}
use Rattle.speed.specs.Speeds.{next_speed}
use Rattle.work.specs.declared.machine.Machine.{Machine}
use Rattle.work.specs.declared.motion.Motion.{Motion}
use Rattle.work.specs.declared.panel.Panel.{Panel}
use Rattle.work.specs.declared.work.Work.{Work}
use Rattle.work.specs.declared.event.Event.{Event}
use Rattle.work.specs.declared.event.Event.TheVariants.{Tick, Hold, Go, Knob}

abbrev pub limit : Machine → Panel → ℕ → ℕ
limit m q f = cond q.held 0 (min m.top f * q.percent / 100)

abbrev pub steps : (a c : ℕ) → Motion → Target → ℕ
steps a c w t = next_speed a c (long w.from t.to - w.done) w.speed

abbrev pub arrive : Motion → Place → (n v : ℕ) → Motion
arrive w q n v =
    cond (nat_le (long w.from q) n)
    (record { behind = suc w.behind; from = q; done = 0; speed = 0 })
    (record { behind = w.behind; from = w.from; done = n; speed = v })

abbrev pub advance : (a c : ℕ) → Motion → Target → Motion
advance a c w t = arrive w t.to (w.done + steps a c w t) (steps a c w t)

abbrev pub todo : List Target → Motion → List Target
todo ts w = drop w.behind ts

unfoldable pub toward : Machine → Panel → Motion → List Target → Motion
toward m q w [] = w
toward m q w (t ∷ ts) = advance m.change (limit m q t.fast) w t

abbrev pub tick : Machine → Panel → List Target → Motion → Motion
tick m q ts w = toward m q w (todo ts w)

abbrev pub held : Work → Work
held w = record { motion = w.motion; panel = record { held = true; percent = w.panel.percent } }

abbrev pub let_go : Work → Work
let_go w = record { motion = w.motion; panel = record { held = false; percent = w.panel.percent } }

abbrev pub turned_to : ℕ → Work → Work
turned_to n w = record { motion = w.motion; panel = record { held = w.panel.held; percent = min n 100 } }

abbrev pub does : Machine → List Target → Event → Work → Work
does m xs Tick w = record { motion = toward m w.panel w.motion xs; panel = w.panel }
does m xs Hold w = held w
does m xs Go w = let_go w
does m xs (Knob n) w = turned_to n w

abbrev pub happens : Machine → List Target → Event → Work → Work
happens m ts e w = does m (todo ts w.motion) e w

unfoldable pub row : Machine → List Target → List Event → Work → Work
row m ts [] w = w
row m ts (e ∷ es) w = happens m ts e (row m ts es w)

unfoldable pub ticks : ℕ → List Event
ticks zero = []
ticks (suc n) = Tick ∷ ticks n

abbrev pub begun_at : Place → Motion
begun_at p = record { behind = 0; from = p; done = 0; speed = 0 }

abbrev pub begun : Place → Work
begun p = record { motion = begun_at p; panel = record { held = false; percent = 100 } }

abbrev pub after : Machine → List Target → Place → List Event → Work
after m ts p es = row m ts es (begun p)

unfoldable pub stands : Motion → List Target → Place
stands w [] = w.from
stands w (t ∷ ts) = on_line w.from t.to w.done

abbrev pub after_tick : Motion → ℕ → Target → Place
after_tick w b t = cond (w.behind == b) (on_line w.from t.to w.done) w.from

abbrev pub place : List Target → Motion → Place
place ts w = stands w (todo ts w)
