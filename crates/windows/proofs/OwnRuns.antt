-- A plan's own runs are those of its system. Assumes nothing.
use Rattle.std.proofs.Common.{◌≡◌, ℕ, List, [], ◌∷◌, Option, refl, ap}
use Rattle.dispatch.specs.Picks.{Picks}
use Rattle.outcome.specs.declared.Ended.{Ended}
use Rattle.outcome.specs.declared.Outcome.{Outcome}
use Rattle.plans.specs.Tasks.{TaskView}
use Rattle.slot.specs.declared.event.Event.{Event}
use Rattle.slot.specs.Slot.{StateView, slot, event, ended_in}
use Rattle.runs.specs.Run.{Ending, RunFrom, empty, last_late, way_then}
use Rattle.exploration.specs.System as system
use Rattle.schedule.specs.PlanSystem.{plan_system}
use Rattle.windows.specs.SameRuns.{ended_jobs, system_ending, own_ending, SameRuns}

module _ (ts : List TaskView) (picks : Picks) where
  -- the event of a slot shows the job that its outcome says
  shows : (m : StateView) (w : ℕ) (o : Outcome StateView) → slot ts picks m w ≡ o → (event ts picks m w).ended ≡ ended_in o
  unfolding event
  shows m w o h = ap ended_in h

  own_run : {m : StateView} {ws : List ℕ} {es : List (Option Ended)} {end : system.Ending StateView} →
      system.RunFrom (plan_system ts picks) m ws es end →
      (trace : List Event) × RunFrom ts picks m ws trace (own_ending end) × (ended_jobs trace ≡ es)
  own_run system.empty = ([], empty, refl)
  own_run (system.last_late {s = m} {w = w} h) = (event ts picks m w ∷ [], last_late h, ap (λ e. e ∷ []) (shows m w _ h))
  own_run (system.way_then {s = m} {w = w} h r) =
      let q = own_run r in
      (event ts picks m w ∷ q.0, way_then h q.1, λ i. shows m w _ h i ∷ q.2 i)

  system_run : {m : StateView} {ws : List ℕ} {trace : List Event} {end : Ending} → RunFrom ts picks m ws trace end →
      system.RunFrom (plan_system ts picks) m ws (ended_jobs trace) (system_ending end)
  system_run empty = system.empty
  system_run (last_late {m = m} {way = w} h) = rw (shows m w _ h) (system.last_late h)
  system_run (way_then {m = m} {way = w} h r) = rw (shows m w _ h) (system.way_then h (system_run r))

  pub same_runs : SameRuns ts picks
  same_runs = record { own = λ ws es end r. own_run r; of_system = λ ws trace end r. system_run r }
