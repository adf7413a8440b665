use Rattle.std.proofs.Common.{◌≡◌, Ok, Result, sym, ap, ◌∙◌, rules}
use Rattle.std.proofs.lemmas.Result.{err_from_is_err_and}
use Rattle.refusals.specs.declared.Fault.{Fault}
use Rattle.table.specs.declared.table.Table.{Table}
use Rattle.table.specs.Calls.{opening_of}
use Rattle.plans.specs.Tasks.{task_views}
use Rattle.slot.specs.Slot.{state_view}
use Rattle.runs.proofs.Proper.{proper_plan}
use Rattle.runs.proofs.Laws.{laws_stand}
use Rattle.listing.specs.declared.part.Part.TheVariants.{Plan}
use Rattle.listing.proofs.MapErr.{was_ok, was_err}
use Rattle.listing.proofs.Opened.{not_opened, lined, rests}
use Rattle.listing.proofs.list.put_schedule.Goals as goal

pub returns-in_err-table-clause-put : goal.returns-in_err-table-clause-put
returns-in_err-table-clause-put g c =
    let ts = task_views g.S.Stream.meaning c.args.schedule.now.plan.tasks in
    let picks = g.D.Dispatch.picks c.args.schedule.now.rule in
    let why = was_err _ (λ f. record { part = Plan; fault = f }) (λ f h e. search rules) c.open.result c.map_err.result _ c.map_err.ensures.cases c.in_err-table.was in
    let x = err_from_is_err_and c.from_residual.result c.from_residual.ensures.1 in
    let none = ap (λ (r : Result Table Fault). opening_of state_view r c.open.new.rows) (sym why.1) ∙ c.open.ensures.does in
    rw (x.1, x.2) (not_opened picks ts c.args.evidence.now _ why.0 c.args.page.now why.2 none)

-- the call of open, that is
opened : (g : _) (c : goal.After-put_table g) → c.open.result ≡ Ok c.in_ok-table.table
opened g c = was_ok _ c.open.result c.map_err.result c.in_ok-table.table c.map_err.ensures.cases c.in_ok-table.was

pub returns-clause-put : goal.returns-clause-put
returns-clause-put g c =
    let ts = task_views g.S.Stream.meaning c.args.schedule.now.plan.tasks in
    let picks = g.D.Dispatch.picks c.args.schedule.now.rule in
    let o = rw (opened g c) at c.open.ensures in
    lined state_view picks ts c.args.evidence.now c.in_ok-table.table.numbers c.finish-ended.new.table.numbers c.open.new.rows c.finish-ended.new.rows c.finish-ended.result
    _ _ o.does c.finish-ended.ensures.brings c.put_table.ensures.put

pub returns-clause-law : goal.returns-clause-law
returns-clause-law g c =
    let ts = task_views g.S.Stream.meaning c.args.schedule.now.plan.tasks in
    let picks = g.D.Dispatch.picks c.args.schedule.now.rule in
    let proper = proper_plan _ g.met.S.Stream.sound c.args.schedule.now.plan.tasks c.args.schedule.now.plan.whole in
    let o = rw (opened g c) at c.open.ensures in
    rests state_view picks ts c.args.evidence.now c.in_ok-table.table.numbers c.finish-ended.new.table.numbers c.open.new.rows c.finish-ended.new.rows c.finish-ended.result
    (laws_stand ts picks proper).response o.does o.kept o.law c.finish-ended.ensures.brings c.finish-ended.ensures.ended
