use Rattle.std.proofs.Common.{◌≡◌, ◌+◌, length, Err, refl, ap, ◌∙◌, arith, length-set, le-ltb, lt-ltb}
use Rattle.refusals.specs.declared.Refusal.TheVariants.{PlanFull}
use Rattle.plans.specs.Adding.{fault_at}
use Rattle.plans.specs.Tasks.{task_views}
use Rattle.plans.proofs.Places.{put}
use Rattle.plans.proofs.plan.Plan.put.Goals as goal

pub invariant_of-self : goal.invariant_of-self
invariant_of-self g c =
    let xs = c.args.self.now.tasks in
    let k : length xs ≡ 8 = c.args.self.now.whole in
    let r = put g.S.Stream.meaning xs c.count-n.result c.args.task (omega arith) c.count-n.ensures.value c.args.self.now.filled in
    (simp length-set k, (r.put_packed, tt))

pub returns : goal.returns
returns g c =
    let m = g.S.Stream.meaning in
    let xs = c.args.self.now.tasks in
    let k : length xs ≡ 8 = c.args.self.now.whole in
    let r = put m xs c.count-n.result c.args.task (omega arith) c.count-n.ensures.value c.args.self.now.filled in
    let room = lt-ltb (length (task_views m xs)) 8 (omega (arith, c.count-n.ensures.value)) in
    record { added = rw room (refl, r.put_task_views); same = tt }

pub returns-then-n-ge8 : goal.returns-then-n-ge8
returns-then-n-ge8 g c =
    let m = g.S.Stream.meaning in
    let full = le-ltb (length (task_views m c.args.self.now.tasks)) 8 (omega (arith, c.count-n.ensures.value)) in
    let n = ap (λ x. fault_at PlanFull (x + 1) 0) c.count-n.ensures.value in
    record { added = rw full (ap Err (c.at.ensures ∙ n)); same = refl }
