use Rattle.std.proofs.Common.{◌≡◌, ℕ, Ok, refl, ◌∙◌, arith, rules}
use Rattle.std.proofs.lemmas.Result.{err_from_is_err_and}
use Rattle.program.proofs.Stepping as step
use Rattle.program.proofs.Walking.{whole_stay, stops_as, walked_stops, walked_followed, turn_more, turn_stops}
use Rattle.program.specs.Programs.{again}
use Rattle.program.specs.Sound.{meant}
use Rattle.program.specs.Walks.{went_in}
use Rattle.program.proofs.walk.Teller.+walk.Goals as goal

pub returns-then-count-eq0-clause-walked : goal.returns-then-count-eq0-clause-walked
returns-then-count-eq0-clause-walked g t c =
    whole_stay g.T.Slot.slots g.T.Slot.width c.args.self.now _ (step.leaves c.requires (omega (arith, c.count.ensures, c.if-count-eq0.true))) c.requires.within

pub place-requires : goal.place-requires
place-requires g t c = (step.frame_within c.requires, step.to_within c.requires c.in-To.ensures)

pub put-requires-clause-slow : goal.put-requires-clause-slow
put-requires-clause-slow g t c = step.to_slow c.requires c.in-To.ensures

pub way-requires : goal.way-requires
way-requires g t c = step.by_within c.requires c.in-By.ensures

pub moved-requires : goal.moved-requires
moved-requires g t c =
    (step.state_within c.requires, step.way_is_within c.requires c.in-By.ensures c.way.ensures)

pub put-requires-in-By-clause-slow : goal.put-requires-in-By-clause-slow
put-requires-in-By-clause-slow g t c = step.by_slow c.requires c.in-By.ensures

pub walk-requires : goal.walk-requires
walk-requires g t c κs within =
    (search (rules, step.next_first c.requires c.in-Next.ensures), (within, step.first_ready c.requires c.in-Next.ensures))

pub loop-init : goal.loop-init
unfolding again
loop-init g t c = record {
  same_room = refl;
  walked = whole_stay g.T.Slot.slots g.T.Slot.width c.args.self.now _ refl c.requires.within;
}

pub at-requires : goal.at-requires
at-requires g t c = (step.frame_within c.requires, step.at_within c.requires c.in-At.ensures)

pub walk-requires-in-At : goal.walk-requires-in-At
walk-requires-in-At g t c κs within =
    (search (rules, step.at_body c.requires c.in-At.ensures), (within, step.at_ready c.requires c.in-At.ensures c.at.ensures))

pub walk-requires-in-Turn : goal.walk-requires-in-Turn
walk-requires-in-Turn g t c κs within =
    (search (rules, step.turn_body c.requires c.in-Turn.ensures), (within, step.turned_ready c.requires c.in-Turn.ensures c.turn.ensures))

pub walk-requires-in-Mirror : goal.walk-requires-in-Mirror
walk-requires-in-Mirror g t c κs within =
    (search (rules, step.mirror_body c.requires c.in-Mirror.ensures), (within, step.mirrored_ready c.requires c.in-Mirror.ensures c.mirror.ensures))

pub walk-requires-in-Sub : goal.walk-requires-in-Sub
walk-requires-in-Sub g t c κs within =
    (search (rules, step.sub_body c.requires c.in-Sub.ensures), (within, step.sub_ready c.requires c.in-Sub.ensures))

pub returns-in-Nothing-clause-walked : goal.returns-in-Nothing-clause-walked
returns-in-Nothing-clause-walked g t c =
    whole_stay g.T.Slot.slots g.T.Slot.width c.args.self.now _ (step.says_nothing c.requires c.in-Nothing.ensures) c.requires.within

pub returns-in-To-clause-walked : goal.returns-in-To-clause-walked
returns-in-To-clause-walked g t c =
    rw (step.says_to c.requires c.in-To.ensures c.place.ensures) c.put.ensures.walked

pub returns-in-By-clause-walked : goal.returns-in-By-clause-walked
returns-in-By-clause-walked g t c =
    rw (step.says_by c.requires c.in-By.ensures c.moved.ensures c.way.ensures) c.put-in-By.ensures.walked

pub returns-in-At-clause-walked : goal.returns-in-At-clause-walked
returns-in-At-clause-walked g t c =
    rw (step.says_at c.requires c.in-At.ensures c.at.ensures) c.walk-in-At.ensures.walked

pub returns-in-Turn-clause-walked : goal.returns-in-Turn-clause-walked
returns-in-Turn-clause-walked g t c =
    rw (step.says_turn c.requires c.in-Turn.ensures c.turn.ensures) c.walk-in-Turn.ensures.walked

pub returns-in-Mirror-clause-walked : goal.returns-in-Mirror-clause-walked
returns-in-Mirror-clause-walked g t c =
    rw (step.says_mirror c.requires c.in-Mirror.ensures c.mirror.ensures) c.walk-in-Mirror.ensures.walked

pub returns-in-Sub-clause-walked : goal.returns-in-Sub-clause-walked
returns-in-Sub-clause-walked g t c =
    rw (step.says_sub c.requires c.in-Sub.ensures) c.walk-in-Sub.ensures.walked

pub returns-in_err-walk-in-Next-clause-walked : goal.returns-in_err-walk-in-Next-clause-walked
returns-in_err-walk-in-Next-clause-walked g t c =
    let said = λ (n : ℕ). went_in c.args.frame (meant c.args.program.now.nodes.now n) in
    let first = said c.in-Next.a c.args.self.now.at in
    rw (err_from_is_err_and c.from_residual.result c.from_residual.ensures.1).1
    (stops_as c.args.self.now.said (step.says_next c.requires c.in-Next.ensures)
    (walked_stops g.T.Slot.slots g.T.Slot.width c.args.self.now c.walk.new.self first (said c.in-Next.b first.ends) c.in_err-walk-in-Next.ensures.walked))

pub walk-requires-in-Next : goal.walk-requires-in-Next
walk-requires-in-Next g t c κs within =
    let ready = step.second_ready c.requires c.in-Next.ensures g.T.Slot.slots g.met.T.Slot.sized c.walk.new.self c.in_ok-walk-in-Next.ensures.walked in
    (search (rules, step.next_second c.requires c.in-Next.ensures), (within, ready))

pub returns-in_ok-walk-in-Next-clause-walked : goal.returns-in_ok-walk-in-Next-clause-walked
returns-in_ok-walk-in-Next-clause-walked g t c =
    let said = λ (n : ℕ). went_in c.args.frame (meant c.args.program.now.nodes.now n) in
    rw (step.says_next c.requires c.in-Next.ensures)
    (walked_followed g.T.Slot.slots g.T.Slot.width g.met.T.Slot.sized c.args.self.now c.walk.new.self (said c.in-Next.a) (said c.in-Next.b)
    c.args.self.now.at c.walk-in-Next.result c.walk-in-Next.new.self
    (step.roomy_before c.requires) c.in_ok-walk-in-Next.ensures.walked c.walk-in-Next.ensures.walked)

pub walk-requires-in-loop : goal.walk-requires-in-loop
walk-requires-in-loop g t c κs within =
    let ready = step.turn_ready c.requires c.in-Times.ensures g.T.Slot.slots g.met.T.Slot.sized c.loop.counter c.loop.self c.loop-test.true c.loop.invariant.walked in
    (search (rules, step.times_body c.requires c.in-Times.ensures), (within, ready))

pub returns-in_err-walk-in-Times-clause-walked : goal.returns-in_err-walk-in-Times-clause-walked
returns-in_err-walk-in-Times-clause-walked g t c =
    rw (err_from_is_err_and c.from_residual-in_err-walk-in-Times.result c.from_residual-in_err-walk-in-Times.ensures.1).1
    (stops_as c.args.self.now.said (step.says_times c.requires c.in-Times.ensures)
    (turn_stops g.T.Slot.slots g.T.Slot.width g.met.T.Slot.sized c.args.self.now c.loop.self c.loop.counter c.in-Times.times
    (went_in c.args.frame (meant c.args.program.now.nodes.now c.in-Times.body)) _ c.walk-in-loop.new.self c.loop-test.true
    (step.roomy_before c.requires) c.loop.invariant.walked c.in_err-walk-in-Times.ensures.walked))

pub loop-preserved : goal.loop-preserved
loop-preserved g t c = record {
  same_room = c.in_ok-walk-in-Times.ensures.same_room ∙ c.loop.invariant.same_room;
  walked = turn_more g.T.Slot.slots g.T.Slot.width g.met.T.Slot.sized c.args.self.now c.loop.self c.loop.counter _ (Ok tt) c.walk-in-loop.new.self
      (step.roomy_before c.requires) c.loop.invariant.walked c.in_ok-walk-in-Times.ensures.walked;
}

pub returns-after-loop-clause-walked : goal.returns-after-loop-clause-walked
returns-after-loop-clause-walked g t c =
    let e : c.in-Times.times ≡ c.loop.counter = omega arith in rw (step.says_times c.requires c.in-Times.ensures, e) c.loop.invariant.walked
