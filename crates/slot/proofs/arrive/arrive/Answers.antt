use Rattle.std.proofs.lemmas.Grind.{common_steps}
use Rattle.std.proofs.Common.{◌≡◌, [], drop, sym, refl, ap, ◌∙◌, rules, arith, rules}
use Rattle.slot.specs.Arrivals.{arrived}
use Rattle.std.proofs.lemmas.List.{drop_all}
use Rattle.plans.specs.Tasks.{task_views}
use Rattle.plans.proofs.Views.{task_views_end}
use Rattle.slot.proofs.Lists.{flags_rest, no_flags}
use Rattle.slot.proofs.Bounds.{bounded_arrived}
use Rattle.slot.proofs.arrive.arrive.Given.{Over}
use Rattle.slot.proofs.arrive.arrive.Goals as goal
use Rattle.slot.proofs.arrive.arrive.Goals.{Left-loop-i, else-loop-i-test, then-loop-i-test+in_default}

pub loop-i-init : goal.loop-i-init
loop-i-init g c = record {
  places = search rules;
  whole = search rules;
  flags = search rules;
  unset = no_flags 8 c.args.state.now.tasks c.args.state.now.whole;
  arrivals = search rules;
  tasks = search rules;
  overlap = search rules;
}

pub loop-i-preserved : goal.loop-i-preserved
loop-i-preserved g c =
    let inv = c.loop-i.invariant in
    record {
      places = inv.places;
      whole = search rules;
      flags = search rules;
      unset = flags_rest c.loop-i.tasks c.loop-i.arrivals c.loop-i.i c.come-a.result.state c.arrives.result (inv.whole ∙ sym inv.flags) (omega (arith, inv.places, inv.whole)) inv.unset;
      arrivals = grind (arith, common_steps);
      tasks = grind (arith, common_steps);
      overlap = grind (arith, common_steps);
    }

-- no task is left
none_left : (g : Over) (c : Left-loop-i g) → task_views g.S.Stream.meaning (drop c.loop-i.i c.as_slice-place-items.result.now) ≡ []
none_left g c =
    let m = g.S.Stream.meaning in
    let xs = c.as_slice-place-items.result.now in
    elim c.loop-i-test.branch [
      | else-loop-i-test w ↦ ap (task_views m) (drop_all c.loop-i.i xs w.loop-i-test.false)
      | then-loop-i-test+in_default w ↦ task_views_end m xs c.loop-i.i _ w.loop-i-test.true (sym w.place-item.is ∙ w.in_default.is)
    ]

all_tasks : (g : Over) (c : Left-loop-i g) → c.loop-i.tasks ≡ arrived (task_views g.S.Stream.meaning c.args.plan.now.tasks) c.args.state.now.tasks c.args.choice
all_tasks g c = let end = none_left g c in grind (arith, common_steps)

pub invariant_of-result : goal.invariant_of-result
invariant_of-result g c = record {
  whole = c.loop-i.invariant.whole;
  limited = rw (all_tasks g (goal.at.invariant_of-result g c).Left-loop-i)
      (bounded_arrived (task_views g.S.Stream.meaning c.args.plan.now.tasks) c.args.state.now.tasks c.args.choice c.args.state.now.limited);
}

pub returns : goal.returns
returns g c =
    let left = (goal.at.returns g c).Left-loop-i in
    let inv = c.loop-i.invariant in
    record {
      arrivals = let end = none_left g left in grind (arith, common_steps);
      tasks = all_tasks g left;
      last = refl;
      overlap = let end = none_left g left in grind (arith, common_steps);
    }
