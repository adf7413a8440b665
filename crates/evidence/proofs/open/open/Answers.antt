use Rattle.std.proofs.Common.{◌≡◌, true, false, eqb, length, sym, refl, ap, ◌∙◌, eq-eqb, ne_eqb}
use Rattle.plans.specs.Tasks.{task_views}
use Rattle.slot.specs.Slot.{state_view}
use Rattle.schedule.specs.PlanSystem.{plan_system}
use Rattle.table.specs.Calls.{none}
use Rattle.evidence.proofs.Law.{law_of_kept_tables}
use Rattle.evidence.proofs.Opening.{opened_kept}
use Rattle.evidence.proofs.open.open.Goals as goal

pub returns-then-count-eq0 : goal.returns-then-count-eq0
returns-then-count-eq0 g c =
    let ts = task_views g.S.Stream.meaning c.args.schedule.now.plan.tasks in
    let rules = plan_system ts (g.D.Dispatch.picks c.args.schedule.now.rule) in
    let empty : eqb (length ts) 0 ≡ true = eq-eqb (length ts) 0 (sym c.count.ensures.value ∙ c.if-count-eq0.true) in
    record { does = rw empty (ap none c.into.ensures); kept = refl; law = law_of_kept_tables rules }

pub returns : goal.returns
returns g c =
    let ts = task_views g.S.Stream.meaning c.args.schedule.now.plan.tasks in
    let rules = plan_system ts (g.D.Dispatch.picks c.args.schedule.now.rule) in
    let some : eqb (length ts) 0 ≡ false = ne_eqb (length ts) 0 (λ e. c.if-count-eq0.false (c.count.ensures.value ∙ e)) in
    let o = c.open.ensures in
    record {
      does = rw some o.does;
      kept = opened_kept state_view rules c.open.result c.args.rows.now c.open.new.rows o.does o.law;
      law = law_of_kept_tables rules;
    }
