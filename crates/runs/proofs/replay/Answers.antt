use Rattle.std.proofs.Common.{◌≡◌, ℕ, ◌<◌, List, length, get_or, take, sym, refl, arith, length-set, length-take}
use Rattle.std.proofs.lemmas.Grind.{common_steps}
use Rattle.std.proofs.lemmas.List.{get_or-take}
use Rattle.dispatch.specs.Picks.{Picks}
use Rattle.plans.specs.Tasks.{TaskView, task_views}
use Rattle.slot.specs.Slot.{state_view, start_state}
use Rattle.runs.specs.Run.{ends_in, RunFrom, empty}
use Rattle.runs.specs.Laws.{RunLaws}
use Rattle.runs.proofs.Proper.{proper_plan}
use Rattle.runs.proofs.Replaying.{replay_next, replay_late}
use Rattle.runs.proofs.Laws.{laws_stand}
use Rattle.runs.proofs.replay.Given.{Over}
use Rattle.runs.proofs.replay.Goals as goal
use Rattle.runs.proofs.replay.Goals.{After-min-most, After-walk}

laws : (g : Over) (c : After-min-most g) → RunLaws (task_views g.S.Stream.meaning c.args.plan.now.tasks) (g.D.Dispatch.picks c.args.rule.now)
laws g c = laws_stand _ _ (proper_plan _ g.met.S.Stream.sound c.args.plan.now.tasks c.args.plan.now.whole)

-- the way of this turn, and its place
record Turn (i most : ℕ) (ways : List ℕ) (places : ℕ) : Type 0 where
  pub within : i < length ways
  pub room : i < places
  pub way : get_or (take most ways) i 0 ≡ get_or ways i 0

turn : (g : Over) (c : After-walk g) → Turn c.loop-i.i c.min-most.result c.args.ways.now (length c.loop-i.trace)
turn g c =
    let n = length-take c.min-most.result c.args.ways.now in
    let m = c.min-most.ensures in
    record {
      within = omega arith;
      room = omega arith;
      way = get_or-take c.min-most.result c.args.ways.now c.loop-i.i 0 (omega arith);
    }

pub loop-i-init : goal.loop-i-init
loop-i-init g c =
    let ts : List TaskView = task_views g.S.Stream.meaning c.args.plan.now.tasks in
    let r : RunFrom ts (g.D.Dispatch.picks c.args.rule.now) (start_state ts) _ _ (ends_in (start_state ts)) = empty in
    record { run = rw c.start-state.ensures r; rest = refl }

pub loop-i-preserved : goal.loop-i-preserved
loop-i-preserved g c =
    let ts : List TaskView = task_views g.S.Stream.meaning c.args.plan.now.tasks in
    let picks : Picks = g.D.Dispatch.picks c.args.rule.now in
    let t = turn g (goal.at.loop-i-preserved g c).After-walk in
    let i = c.loop-i.i in
    record {
      run = replay_next ts picks (start_state ts) c.args.ways.now c.loop-i.trace i (state_view c.loop-i.state) c.observe-event.result t.within t.room c.loop-i.invariant.run
          (rw t.way at c.observe-event.ensures) (state_view c.in-Next.after) c.in-Next._ended (rw t.way at (sym c.in-Next.ensures));
      rest = grind (arith, common_steps);
    }

pub returns-in-Void : goal.returns-in-Void
returns-in-Void g c =
    let t = turn g (goal.at.returns-in-Void g c).After-walk in
    record {
      value = record {
        within_ways = omega (arith, t.within);
        within_trace = omega (arith, t.room);
        rest = c.loop-i.invariant.rest;
        stop = (state_view c.loop-i.state, c.loop-i.invariant.run, t.within, rw t.way at (sym c.in-Void.ensures));
      };
      laws = laws g (goal.at.returns-in-Void g c).After-min-most;
    }

pub returns-in-Late : goal.returns-in-Late
returns-in-Late g c =
    let ts : List TaskView = task_views g.S.Stream.meaning c.args.plan.now.tasks in
    let picks : Picks = g.D.Dispatch.picks c.args.rule.now in
    let t = turn g (goal.at.returns-in-Late g c).After-walk in
    let i = c.loop-i.i in
    record {
      value = record {
        within_ways = omega (arith, t.within);
        within_trace = simp length-set (omega (arith, t.room));
        rest = grind (arith, common_steps);
        stop = replay_late ts picks (start_state ts) c.args.ways.now c.loop-i.trace i (state_view c.loop-i.state) c.observe-event.result t.within t.room c.loop-i.invariant.run
            (rw t.way at c.observe-event.ensures) c.in-Late.task c.in-Late.cause c.in-Late._ended (rw t.way at (sym c.in-Late.ensures));
      };
      laws = laws g (goal.at.returns-in-Late g c).After-min-most;
    }

pub returns-clause-laws : goal.returns-clause-laws
returns-clause-laws g c = laws g (goal.at.returns-clause-laws g c).After-min-most
