-- A plan's own runs are those of its system.
use Rattle.std.specs.Prelude.{◌≡◌, ℕ, List, map, Option}
use Rattle.dispatch.specs.Picks.{Picks}
use Rattle.outcome.specs.declared.Ended.{Ended}
use Rattle.plans.specs.Tasks.{TaskView}
use Rattle.slot.specs.declared.event.Event.{Event}
use Rattle.slot.specs.Slot.{StateView}
use Rattle.runs.specs.Run.{Ending, ends_in, ends_late, Run}
use Rattle.exploration.specs.System as system
use Rattle.schedule.specs.PlanSystem.{plan_system}

-- The job that each slot of a trace ended, if any.
abbrev pub ended_jobs : List Event → List (Option Ended)
ended_jobs trace = map (λ (e : Event). e.ended) trace

-- An ending of a plan's run, as one of its system's, and back.
abbrev pub system_ending : Ending → system.Ending StateView
system_ending (ends_in m) = system.ends_in m
system_ending (ends_late k c) = system.ends_late k c

abbrev pub own_ending : system.Ending StateView → Ending
own_ending (system.ends_in m) = ends_in m
own_ending (system.ends_late k c) = ends_late k c

-- Each run of the system is a run of the plan, whose trace shows the same ended jobs; and each run of the plan is one of the system.
pub record SameRuns (ts : List TaskView) (picks : Picks) : Type 0 where
  pub own : (ws : List ℕ) (es : List (Option Ended)) (end : system.Ending StateView) → system.Run (plan_system ts picks) ws es end →
      (trace : List Event) × Run ts picks ws trace (own_ending end) × (ended_jobs trace ≡ es)
  pub of_system : (ws : List ℕ) (trace : List Event) (end : Ending) → Run ts picks ws trace end →
      system.Run (plan_system ts picks) ws (ended_jobs trace) (system_ending end)
