use Rattle.std.proofs.Common.{◌≡◌, ◌++◌, length, take, drop}
use Rattle.plans.specs.Tasks.{task_views}
use Rattle.slot.specs.Work.{sees}
use Rattle.slot.proofs.work.pick_of.Given as goal

abbrev pub invariant-loop-i : goal.invariant-loop-i
invariant-loop-i g l = record {
  places : length l.place-items ≡ 8;
  room : length l.seen ≡ 8;
  sees : take l.i l.seen ++ sees (task_views g.S.Stream.meaning (drop l.i l.place-items)) (drop l.i l.state.tasks)
      ≡ sees (task_views g.S.Stream.meaning l.plan.tasks) l.state.tasks;
}
