use Rattle.std.proofs.Common.{◌≡◌, rules}
use Rattle.plans.specs.Tasks.{task_views}
use Rattle.runs.proofs.Proper.{proper_plan}
use Rattle.runs.proofs.Laws.{laws_stand}
use Rattle.table.specs.declared.numbers.Numbers.{Numbers}
use Rattle.windows.specs.Reading.{window_read}
use Rattle.windows.proofs.OwnRuns.{same_runs}
use Rattle.windows.proofs.Answered.{windows_kept, says_kept}
use Rattle.windows.proofs.read.window.Goals as goal

pub returns : goal.returns
returns g c =
    let ts = task_views g.S.Stream.meaning c.args.schedule.now.plan.tasks in
    let picks = g.D.Dispatch.picks c.args.schedule.now.rule in
    let p : Numbers = c.args.table.now.numbers in
    let rows = c.args.rows.now in
    let proper = proper_plan _ g.met.S.Stream.sound c.args.schedule.now.plan.tasks c.args.schedule.now.plan.whole in
    let law = windows_kept ts picks p rows (laws_stand ts picks proper).response c.times.ensures.law in
    let value : c.map.result ≡ window_read p c.args.task = search rules in
    record { value = value; says = says_kept ts picks p rows law c.args.task c.map.result value; law = law; runs = same_runs ts picks }
