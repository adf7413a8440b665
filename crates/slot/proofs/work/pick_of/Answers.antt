use Rattle.std.proofs.lemmas.Grind.{common_steps}
use Rattle.std.proofs.Common.{◌≡◌, [], length, take, drop, sym, ap, ◌∙◌, arith, length-take, rules}
use Rattle.std.proofs.lemmas.List.{drop_all}
use Rattle.plans.specs.Tasks.{task_views}
use Rattle.plans.proofs.Views.{task_views_end}
use Rattle.slot.specs.Work.{sees}
use Rattle.slot.proofs.Few.{picked_few}
use Rattle.slot.proofs.Lists.{sees_long}
use Rattle.slot.proofs.work.pick_of.Goals as goal
use Rattle.slot.proofs.work.pick_of.Goals.{else-loop-i-test, then-loop-i-test+in_default}

pub overflow_cast-result : goal.overflow_cast-result
overflow_cast-result g c =
    let k = picked_few (g.D.Dispatch.picks c.args.rule.now) (g.met.D.Dispatch.conserves c.args.rule.now) _ _ _ _ c.loop-i.invariant.room c.pick.ensures in
    search rules

pub returns : goal.returns
returns g c =
    let m = g.S.Stream.meaning in
    let xs = c.as_slice-place-items.result.now in
    let i = c.loop-i.i in
    let end : task_views m (drop i xs) ≡ [] =
    elim c.loop-i-test.branch [
      | else-loop-i-test w ↦ ap (task_views m) (drop_all i xs w.loop-i-test.false)
      | then-loop-i-test+in_default w ↦ task_views_end m xs i _ w.loop-i-test.true (sym w.place-item.is ∙ w.in_default.is)
    ] in
    let ds = task_views m c.args.plan.now.tasks in
    let ss = c.args.state.now.tasks in
    let eight : length ss ≡ 8 = c.args.state.now.whole in
    let is : take i c.loop-i.seen ≡ sees ds ss = grind (arith, common_steps) in
    let all : length (sees ds ss) ≡ length ds = sees_long ds ss (omega (arith, c.count.ensures.value, c.count.ensures.few)) in
    let places : length xs ≡ 8 = c.loop-i.invariant.places in
    let room : length c.loop-i.seen ≡ 8 = c.loop-i.invariant.room in
    let long = length-take i c.loop-i.seen in
    let same = ap length is in
    let n : c.count.result ≡ i = omega (arith, c.count.ensures.value) in
    c.pick.ensures ∙ ap (λ ts. g.D.Dispatch.picks c.args.rule.now ts c.args.state.now.last) (ap (λ x. take x c.loop-i.seen) n ∙ is)
