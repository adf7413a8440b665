-- What holds of every run of a plan under a rule.
use Rattle.std.specs.Prelude.{List}
use Rattle.dispatch.specs.Picks.{Picks}
use Rattle.plans.specs.Tasks.{TaskView}
use Rattle.runs.specs.Response.{ResponseLaw}
use Rattle.runs.specs.Arrivals.{ArrivalsLaw}
use Rattle.runs.specs.Dispatch.{DispatchLaw, PriorityLaw, WaitingLaw}
use Rattle.runs.specs.Work.{WorkLaw, ChoiceLaw}
use Rattle.runs.specs.Lateness.{UnfinishedLaw, LatenessLaw}
use Rattle.runs.specs.Numbering.{NumberingLaw}

pub record RunLaws (ts : List TaskView) (picks : Picks) : Type 0 where
  pub response : ResponseLaw ts picks
  pub arrivals : ArrivalsLaw ts picks
  pub choice : ChoiceLaw ts picks
  pub dispatch : DispatchLaw ts picks
  pub priority : PriorityLaw ts picks
  pub waiting : WaitingLaw ts picks
  pub work : WorkLaw ts picks
  pub unfinished : UnfinishedLaw ts picks
  pub lateness : LatenessLaw ts picks
  pub numbering : NumberingLaw ts picks
