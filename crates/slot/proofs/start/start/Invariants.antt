use Rattle.std.proofs.Common.{◌≡◌, ◌++◌, length, take, drop}
use Rattle.plans.specs.Tasks.{task_views}
use Rattle.slot.specs.Slot.{firsts, start_state}
use Rattle.slot.proofs.start.start.Given as goal

abbrev pub invariant-loop-i : goal.invariant-loop-i
invariant-loop-i g l = record {
  places : length l.place-items ≡ 8;
  whole : length l.tasks ≡ 8;
  tasks : take l.i l.tasks ++ firsts (task_views g.S.Stream.meaning (drop l.i l.place-items)) (drop l.i l.tasks)
      ≡ (start_state (task_views g.S.Stream.meaning l.plan.tasks)).tasks;
}
