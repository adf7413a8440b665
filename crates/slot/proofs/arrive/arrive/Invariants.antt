use Rattle.std.proofs.Common.{◌≡◌, ◌+◌, false, ◌++◌, map, length, take, drop}
use Rattle.std.specs.Option.{option_or}
use Rattle.slot.specs.Arrivals.{arrivals_in, arrived, overlapping}
use Rattle.plans.specs.Tasks.{task_views}
use Rattle.slot.proofs.arrive.arrive.Given as goal

-- what is done, with what is left to do, is the answer
abbrev pub invariant-loop-i : goal.invariant-loop-i
invariant-loop-i g l =
    let all = task_views g.S.Stream.meaning l.plan.tasks in
    let rest = task_views g.S.Stream.meaning (drop l.i l.place-items) in
    record {
      places : length l.place-items ≡ 8;
      whole : length l.tasks ≡ 8;
      flags : length l.arrivals ≡ 8;
      unset : drop l.i l.arrivals ≡ map (λ _. false) (drop l.i l.tasks);
      arrivals : take l.i l.arrivals ++ arrivals_in rest (drop l.i l.tasks) l.left ≡ arrivals_in all l.state.tasks l.choice;
      tasks : take l.i l.tasks ++ arrived rest (drop l.i l.tasks) l.left ≡ arrived all l.state.tasks l.choice;
      overlap : option_or l.overlap (overlapping (l.i + 1) rest (drop l.i l.tasks) l.left) ≡ overlapping 1 all l.state.tasks l.choice;
    }
