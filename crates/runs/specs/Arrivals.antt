-- What the arrivals of a run have to do with the runs of the streams.
use Rattle.std.specs.Prelude.{ℕ, Bool, List, map}
use Rattle.streams.specs.Rule.{Shown}
use Rattle.dispatch.specs.Picks.{Picks}
use Rattle.slot.specs.declared.event.Event.{Event}
use Rattle.plans.specs.Tasks.{TaskView}
use Rattle.runs.specs.Run.{arrives, Ending, Run, IsTask}

-- The arrivals that a run shows for task k, slot by slot.
abbrev pub arrivals_of : List Event → ℕ → List Bool
arrivals_of trace k = map (λ e. arrives e k) trace

-- They are a pattern of its stream.
abbrev pub ArrivalsLaw : List TaskView → Picks → Type 0
ArrivalsLaw ts picks = (ways : List ℕ) (trace : List Event) (end : Ending) → Run ts picks ways trace end →
    (k : ℕ) (t : TaskView) → IsTask ts k t → Shown t.stream (arrivals_of trace k)
