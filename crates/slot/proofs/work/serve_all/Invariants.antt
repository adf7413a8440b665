use Rattle.std.proofs.Common.{◌≡◌, ◌+◌, ◌||◌, ◌++◌, length, take, drop}
use Rattle.std.specs.Option.{option_or}
use Rattle.plans.specs.Tasks.{task_views}
use Rattle.slot.specs.Bounded.{Bounded}
use Rattle.slot.specs.Work.{serve_all}
use Rattle.slot.proofs.work.serve_all.Given as goal

-- what is done, with what is left to do, is the answer
abbrev pub invariant-loop-i : goal.invariant-loop-i
invariant-loop-i g l =
    let rest = serve_all l.pick l.stay (l.i + 1) (task_views g.S.Stream.meaning (drop l.i l.place-items)) (drop l.i l.tasks) in
    let all = serve_all l.pick l.stay 1 (task_views g.S.Stream.meaning l.plan.tasks) l.state.tasks in
    record {
      places : length l.place-items ≡ 8;
      whole : length l.tasks ≡ 8;
      bounded : Bounded (drop l.i l.tasks);
      tasks : take l.i l.tasks ++ rest.tasks ≡ all.tasks;
      ended : option_or l.ended rest.ended ≡ all.ended;
      choose : (l.may_choose || rest.may_choose) ≡ all.may_choose;
      late : option_or l.late rest.late ≡ all.late;
    }
