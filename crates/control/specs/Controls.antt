-- What the contracts of a loaded control cite. Assumes nothing.
--   in_range n       1 to 1,000,000, as a change and a top speed must be
--   machine_of a t   a machine with the change a and the top speed t, or its refusal
--   near ts          no target is past 10^9 on an axis
--   load_of a t ts   the machine that a control is loaded with, or the refusal
--   origin           0, 0, where programs begin
--   Reached m ts w   some row of events leads from the beginning to w
--   State            what callers see of a control: its machine, its targets, its work
--   IsLoaded         what holds of a control in every state
--   Loaded c         the same of a control as callers see it
--   Happened c e d   the event e leaves d of the control c
--   Few c d          d is no more than a tick of c gives at the most
--   Added t r c d    an added target t that is answered by r leaves d of the control c
use Rattle.std.specs.Prelude.{◌≡◌, ℕ, ◌^◌, ◌<◌, ◌≤◌, max, Bool, true, false, cond, ◌&&◌, List, [], ◌∷◌, ◌++◌, length, pos, Ok, Err, Result, nat_le, unsigned_abs}
use Rattle.std.specs.List.{list_all}
use Rattle.refusal.specs.declared.Refusal.{Refusal}
use Rattle.refusal.specs.declared.Refusal.TheVariants.{Machine as Unfit, Lent}
use Rattle.geometry.specs.declared.place.Place.{Place}
use Rattle.geometry.specs.Places.{within, Within}
use Rattle.program.specs.declared.target.Target.{Target}
use Rattle.work.specs.declared.machine.Machine.{Machine}
use Rattle.work.specs.declared.work.Work.{Work}
use Rattle.work.specs.declared.event.Event.{Event}
use Rattle.work.specs.Works.{todo, happens, after, place}
use Rattle.work.specs.Promises.{Promise, cap_now}
use Rattle.pulses.specs.declared.Pulses.{Pulses}
use Rattle.refusal.specs.declared.LentPart.TheVariants.{Place as far}
use Rattle.refusal.specs.declared.MachinePart.TheVariants.{Change, Top}
use Rattle.refusal.specs.declared.failed.Failed.{Failed}
use Rattle.refusal.specs.declared.failed.Failed.TheVariants.{Refused, Memory}

abbrev pub in_range : ℕ → Bool
in_range n = nat_le 1 n && nat_le n 1000000

abbrev pub machine_of : (a t : ℕ) → Result Machine Refusal
machine_of a t = cond (in_range a) (cond (in_range t) (Ok (record { change = a; top = t })) (Err (Unfit Top))) (Err (Unfit Change))

abbrev pub near : List Target → Bool
near ts = list_all (λ t. within 1000000000 t.to) ts

abbrev pub loaded : Result Machine Refusal → List Target → Result Machine Refusal
loaded (Ok m) ts = cond (near ts) (Ok m) (Err (Lent far))
loaded (Err e) ts = Err e

abbrev pub load_of : (a t : ℕ) → List Target → Result Machine Refusal
load_of a t ts = loaded (machine_of a t) ts

abbrev pub fit : Machine → Bool
fit m = in_range m.change && in_range m.top

abbrev pub origin : Place
origin = record { x = pos 0; y = pos 0 }

pub record Reached (m : Machine) (ts : List Target) (w : Work) : Type 0 where
  pub events : List Event
  pub is : w ≡ after m ts origin events

-- a control, as callers see it
pub record State : Type 0 where
  pub machine : Machine
  pub targets : List Target
  pub work : Work

-- what holds of a control that is at p: its machine can move, its targets are near and fewer than 2^63, as a vector's items
-- are, and some row of events led to its work
pub record IsLoaded (m : Machine) (ts : List Target) (w : Work) (p : Place) : Type 0 where
  pub fits : fit m ≡ true
  pub close : near ts ≡ true
  pub few : length ts < 2 ^ 63
  pub reached : Reached m ts w
  pub stood : p ≡ place ts w.motion

abbrev pub Loaded : State → Type 0
Loaded c = IsLoaded c.machine c.targets c.work (place c.targets c.work.motion)

-- what an event makes of a control: what it was loaded with stays, its work is what the event makes of it, and that keeps the promise
pub record Happened (c : State) (e : Event) (d : State) : Type 0 where
  pub machine : d.machine ≡ c.machine
  pub targets : d.targets ≡ c.targets
  pub work : d.work ≡ happens c.machine c.targets e c.work
  pub promise : Promise c.machine origin c.targets d.work
  pub loaded : Loaded d
  -- it is not far from 0, 0, so that whoever adds up its pulses stays within an i64
  pub near : Within 4000000000 (place d.targets d.work.motion)

-- no axis gets more pulses than the cap or the speed it had
pub record Few (c : State) (d : Pulses) : Type 0 where
  pub across : unsigned_abs d.x ≤ max (cap_now c.machine c.work.panel (todo c.targets c.work.motion)) c.work.motion.speed
  pub along : unsigned_abs d.y ≤ max (cap_now c.machine c.work.panel (todo c.targets c.work.motion)) c.work.motion.speed

-- a target put behind the others: taken, refused because it lies too far, or, near enough, not for want of memory; then nothing changes
abbrev pub Added : Target → Result (Unit {0}) (Failed Refusal) → State → State → Type 0
Added t (Ok u) c d =
    (within 1000000000 t.to ≡ true) × (d.machine ≡ c.machine) × (d.targets ≡ c.targets ++ t ∷ []) × (d.work ≡ c.work) × Promise c.machine origin d.targets d.work
Added t (Err (Refused e)) c d = (within 1000000000 t.to ≡ false) × (e ≡ Lent far) × (d ≡ c)
Added t (Err Memory) c d = (within 1000000000 t.to ≡ true) × (d ≡ c)
