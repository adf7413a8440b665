use Rattle.std.proofs.Common.{subst, ap, arith}
use Rattle.table.specs.declared.numbers.Numbers.{Numbers}
use Rattle.table.specs.View.{table_of, times_of}
use Rattle.listing.specs.Put.{Put}
use Rattle.listing.specs.Lines.{task_lines, stage_line, table_lines}
use Rattle.listing.proofs.Puts.{then_put}
use Rattle.listing.proofs.TaskLines.{tasks_first}
use Rattle.listing.proofs.page.Page.put_table.Goals as goal

pub returns-clause-put : goal.returns-clause-put
returns-clause-put c =
    let n : Numbers = c.numbers-numbers.result in
    let tasks = rw (tasks_first n.times n.tasks (omega (arith, ap (λ (m : Numbers). m.tasks) c.numbers-numbers.ensures))) at c.put_tasks.ensures.put in
    let both = then_put (task_lines (times_of n.times) n.tasks) (stage_line n.stage n.held n.walked) _ _ _ tasks c.put_stage.ensures.put in
    subst (λ (m : Numbers). Put (table_lines (table_of m)) c.args.self.now c.put_stage.new.self) c.numbers-numbers.ensures both
