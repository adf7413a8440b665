use Rattle.std.proofs.Common.{◌≡◌, take, drop}
use Rattle.plans.specs.Tasks.{task_views}
use Rattle.slot.specs.Slot.{state_view}
use Rattle.runs.specs.Run.{ends_in, Run}
use Rattle.runs.proofs.replay.Given as goal

-- the ways so far are a run that shows the trace so far and reached the state
abbrev pub invariant-loop-i : goal.invariant-loop-i
invariant-loop-i g l = record {
  run : Run (task_views g.S.Stream.meaning l.plan.tasks) (g.D.Dispatch.picks l.rule) (take l.i l.ways) (take l.i l.trace) (ends_in (state_view l.state));
  rest : drop l.i l.trace ≡ drop l.i l.initial.trace;
}
