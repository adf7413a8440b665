use Rattle.std.proofs.Common.{◌≡◌, ◌*◌, ◌^◌, ◌≤◌, length, drop}
use Rattle.slot.specs.Arrivals.{choices}
use Rattle.plans.specs.Tasks.{task_views}
use Rattle.slot.proofs.arrive.stream_ways.Given as goal

abbrev pub invariant-loop-i : goal.invariant-loop-i
invariant-loop-i g l = record {
  eight : length l.place-items ≡ 8;
  most : l.all ≤ 4 ^ l.i;
  some : 1 ≤ l.all;
  value : l.all * choices (task_views g.S.Stream.meaning (drop l.i l.place-items)) (drop l.i l.state.tasks)
      ≡ choices (task_views g.S.Stream.meaning l.plan.tasks) l.state.tasks;
}
