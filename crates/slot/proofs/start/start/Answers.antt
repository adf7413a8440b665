use Rattle.std.proofs.lemmas.Grind.{common_steps}
use Rattle.std.proofs.Common.{◌≡◌, [], drop, replicate, None, sym, refl, ap, ◌∙◌, arith}
use Rattle.std.proofs.lemmas.List.{drop_all}
use Rattle.plans.specs.Tasks.{task_views}
use Rattle.slot.specs.Slot.{start_state}
use Rattle.plans.proofs.Views.{task_views_end}
use Rattle.slot.proofs.Bounds.{bounded_firsts}
use Rattle.slot.proofs.start.start.Given.{Over}
use Rattle.slot.proofs.start.start.Goals as goal
use Rattle.slot.proofs.start.start.Goals.{Left-loop-i, else-loop-i-test, then-loop-i-test+in_default}

-- no task is left
all_seen : (g : Over) (c : Left-loop-i g) → c.loop-i.tasks ≡ (start_state (task_views g.S.Stream.meaning c.args.plan.now.tasks)).tasks
all_seen g c =
    let m = g.S.Stream.meaning in
    let xs = c.as_slice-place-items.result.now in
    let i = c.loop-i.i in
    let end : task_views m (drop i xs) ≡ [] =
    elim c.loop-i-test.branch [
      | else-loop-i-test w ↦ ap (task_views m) (drop_all i xs w.loop-i-test.false)
      | then-loop-i-test+in_default w ↦ task_views_end m xs i _ w.loop-i-test.true (sym w.place-item.is ∙ w.in_default.is)
    ] in
    grind (arith, common_steps)

pub returns : goal.returns
returns g c = ap (λ ts. record { tasks = ts; last = 0 }) (all_seen g (goal.at.returns g c).Left-loop-i)

pub invariant_of-result : goal.invariant_of-result
invariant_of-result g c = record {
  whole = c.loop-i.invariant.whole;
  limited = rw (all_seen g (goal.at.invariant_of-result g c).Left-loop-i) (bounded_firsts (task_views g.S.Stream.meaning c.args.plan.now.tasks) (replicate 8 (record { position = 0; job = None })) refl);
}
