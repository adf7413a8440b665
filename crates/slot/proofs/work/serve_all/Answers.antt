use Rattle.std.proofs.lemmas.Grind.{common_steps}
use Rattle.std.proofs.Common.{◌≡◌, [], drop, sym, ap, ◌∙◌, arith, rules}
use Rattle.std.proofs.lemmas.List.{drop_all}
use Rattle.plans.specs.Tasks.{task_views}
use Rattle.plans.proofs.Views.{task_views_end}
use Rattle.slot.specs.Work.{RoundView, serve_all}
use Rattle.slot.proofs.Bounds.{test_bounded, bounded_all, round_bounded, sane}
use Rattle.slot.proofs.work.serve_all.Given.{Over}
use Rattle.slot.proofs.work.serve_all.Goals as goal
use Rattle.slot.proofs.work.serve_all.Goals.{Left-loop-i, else-loop-i-test, then-loop-i-test+in_default}

pub loop-i-init : goal.loop-i-init
loop-i-init g c = record {
  places = search rules;
  whole = search rules;
  bounded = test_bounded c.args.state.now.tasks c.args.state.now.limited;
  tasks = search rules;
  ended = search rules;
  choose = search rules;
  late = search rules;
}

-- no task is left
all_seen : (g : Over) (c : Left-loop-i g) →
    record { tasks = c.loop-i.tasks; ended = c.loop-i.ended; may_choose = c.loop-i.may_choose; late = c.loop-i.late }
    ≡ serve_all c.args.pick c.args.stay 1 (task_views g.S.Stream.meaning c.args.plan.now.tasks) c.args.state.now.tasks
all_seen g c =
    let m = g.S.Stream.meaning in
    let xs = c.as_slice-place-items.result.now in
    let i = c.loop-i.i in
    let end : task_views m (drop i xs) ≡ [] =
    elim c.loop-i-test.branch [
      | else-loop-i-test w ↦ ap (task_views m) (drop_all i xs w.loop-i-test.false)
      | then-loop-i-test+in_default w ↦ task_views_end m xs i _ w.loop-i-test.true (sym w.place-item.is ∙ w.in_default.is)
    ] in
    grind (arith, common_steps)

pub invariant_of-result : goal.invariant_of-result
invariant_of-result g c =
    let d = all_seen g (goal.at.invariant_of-result g c).Left-loop-i in
    let ts = c.args.plan.now.tasks in
    let ss = c.args.state.now.tasks in
    let kept = bounded_all (task_views g.S.Stream.meaning ts) ss c.args.pick c.args.stay 1 (sane g.S.Stream.meaning ts) (test_bounded ss c.args.state.now.limited) in
    record { whole = c.loop-i.invariant.whole; limited = rw (ap (λ (r : RoundView). r.tasks) d, ap (λ (r : RoundView). r.late) d) (round_bounded _ _ kept) }

pub returns : goal.returns
returns g c = all_seen g (goal.at.returns g c).Left-loop-i
