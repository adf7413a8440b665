-- All laws over runs, for every plan and rule. Assumes nothing.
use Rattle.std.proofs.Common.{List}
use Rattle.dispatch.specs.Picks.{Picks}
use Rattle.plans.specs.Tasks.{TaskView}
use Rattle.runs.specs.Run.{Proper}
use Rattle.runs.specs.Laws.{RunLaws}
use Rattle.runs.proofs.Response.{responses_stand, unfinished_stands}
use Rattle.runs.proofs.Arrivals.{arrivals_stand}
use Rattle.runs.proofs.Dispatch.{dispatch_stands, priority_stands, waiting_stands}
use Rattle.runs.proofs.Work.{choice_stands, work_stands}
use Rattle.runs.proofs.Lateness.{lateness_stands}
use Rattle.runs.proofs.Numbering.{numbering_stands}

pub laws_stand : (ts : List TaskView) (picks : Picks) → Proper ts → RunLaws ts picks
laws_stand ts picks proper = record {
  response = responses_stand ts picks proper;
  arrivals = arrivals_stand ts picks proper;
  choice = choice_stands ts picks proper;
  dispatch = dispatch_stands ts picks proper;
  priority = priority_stands ts picks proper;
  waiting = waiting_stands ts picks proper;
  work = work_stands ts picks proper;
  unfinished = unfinished_stands ts picks proper;
  lateness = lateness_stands ts picks proper;
  numbering = numbering_stands ts picks proper;
}
