use Rattle.std.proofs.Common.{◌+◌, ◌*◌, ◌≤◌}
use Rattle.table.specs.View.{times_of}
use Rattle.listing.specs.Put.{Put, room}
use Rattle.listing.specs.Lines.{task_lines}
use Rattle.listing.proofs.page.Page.put_tasks.Given as goal

abbrev pub invariant-loop-i : goal.invariant-loop-i
invariant-loop-i l = record {
  put : Put (task_lines (times_of l.times) l.i) l.initial.self l.self;
  within : room l.initial.self ≤ room l.self + 16 * l.i;
}
