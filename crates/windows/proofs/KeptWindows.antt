-- What a table says of a system's runs, it says of the plan's own. Assumes nothing.
use Rattle.std.proofs.Common.{◌≡◌, ℕ, suc, ◌-◌, Bool, List, [], ◌∷◌, ◌++◌, length, Some, None, Option, refl, ap, ◌∙◌, subst, inl, inr, arith}
use Rattle.dispatch.specs.Picks.{Picks}
use Rattle.outcome.specs.declared.Ended.{Ended}
use Rattle.plans.specs.Tasks.{TaskView}
use Rattle.slot.specs.declared.event.Event.{Event}
use Rattle.slot.specs.Slot.{StateView}
use Rattle.runs.specs.Run.{Ending, RunFrom, empty, last_late, way_then, IsTask}
use Rattle.runs.specs.Response.{ResponseLaw}
use Rattle.exploration.specs.declared.Row.{Row}
use Rattle.exploration.specs.declared.Shown.{Shown}
use Rattle.exploration.specs.declared.Stage.{Stage}
use Rattle.exploration.specs.declared.Stage.TheVariants.{Walking, Complete, Late}
use Rattle.exploration.specs.Lists.{In}
use Rattle.exploration.specs.System as system
use Rattle.exploration.specs.System.{System, ended_in, OfTasks, EndsInLastSlot}
use Rattle.exploration.specs.Table.{Table}
use Rattle.exploration.specs.Truth.{TimeTrue, LateTrue, CompleteLaw, TableLaw}
use Rattle.exploration.proofs.Lists.{nth_some, in_new}
use Rattle.schedule.specs.PlanSystem.{plan_system}
use Rattle.windows.specs.SameRuns.{ended_jobs, system_ending, own_ending}
use Rattle.windows.specs.Window.{RespondsLast, ShownByRun, LateByRun, AllRuns, WindowLaw}
use Rattle.windows.proofs.OwnRuns.{same_runs}
use Rattle.windows.proofs.Responses.{job, in_jobs, last_shows, last_slot}

-- a job that ends in a run is of one of the tasks
job_named : {S : Type 0} (𝓢 : System S) {s : S} {ws : List ℕ} {es : List (Option Ended)} {end : system.Ending S} →
    system.RunFrom 𝓢 s ws es end → (j : Ended) → In (Some j) es → OfTasks 𝓢.tasks (Some j)
job_named 𝓢 system.empty j i = absurd i
job_named 𝓢 (system.last_late {s = s} {w = w} h) j (inl q) = subst (OfTasks 𝓢.tasks) (ap ended_in h ∙ q) (𝓢.of_tasks s w)
job_named 𝓢 (system.last_late h) j (inr i) = absurd i
job_named 𝓢 (system.way_then {s = s} {w = w} h r) j (inl q) = subst (OfTasks 𝓢.tasks) (ap ended_in h ∙ q) (𝓢.of_tasks s w)
job_named 𝓢 (system.way_then h r) j (inr i) = job_named 𝓢 r j i

module _ (ts : List TaskView) (picks : Picks) (law : ResponseLaw ts picks) where
  as_long : {m : StateView} {ws : List ℕ} {trace : List Event} {end : Ending} → RunFrom ts picks m ws trace end → length ws ≡ length trace
  as_long empty = refl
  as_long (last_late h) = refl
  as_long (way_then h r) = ap suc (as_long r)

  responds_last : (ws : List ℕ) (k x : ℕ) → EndsInLastSlot (plan_system ts picks) ws (record { task = k; response = x }) →
      RespondsLast ts picks ws k x
  responds_last ws k x (es, end, r) =
      let own = (same_runs ts picks).own ws (es ++ (job k x ∷ [])) end r in
      let of = job_named (plan_system ts picks) r (record { task = k; response = x }) (in_new es (job k x)) in
      let t = nth_some ts (k - 1) (omega arith) in
      let is : IsTask ts k t.0 = record { from_one = of.0; here = t.1 } in
      let shows = last_shows own.0 es k x own.2 in
      record {
        trace = own.0;
        end = own_ending end;
        run = own.1;
        slot = length es;
        last = as_long own.1 ∙ last_slot own.0 es (job k x) own.2;
        shows = shows;
        task = t.0;
        is_task = is;
        responds = law ws own.0 (own_ending end) own.1 k t.0 is (length es) x shows;
      }

  shown_by_run : (rows : List (Row StateView)) (k : ℕ) (o : Option Shown) → TimeTrue (plan_system ts picks) rows k o →
      ShownByRun ts picks rows k o
  shown_by_run rows k None h = tt
  shown_by_run rows k (Some x) h = (h.0, h.1, responds_last h.0 k x.response h.2)

  late_by_run : (rows : List (Row StateView)) (s : Stage) → LateTrue (plan_system ts picks) rows s → LateByRun ts picks rows s
  late_by_run rows Walking h = tt
  late_by_run rows Complete h = tt
  late_by_run rows (Late i w k c) h =
      let own = (same_runs ts picks).own h.0 h.2.0 (system.ends_late k c) h.2.1 in
      (h.0, h.1, (own.0, own.1))

  module _ (t : Table) (all : CompleteLaw (plan_system ts picks) t) where
    all_runs : AllRuns ts picks t
    all_runs = record {
      never_late = λ ws trace k c r. all.never_late ws k c (ended_jobs trace, (same_runs ts picks).of_system ws trace _ r);
      within = λ k ws trace end r n x h.
          all.within ws (ended_jobs trace) (system_ending end) ((same_runs ts picks).of_system ws trace end r) _ (in_jobs trace n k x h);
      none = λ k e ws trace end r n x h.
          all.none k e ws (ended_jobs trace) (system_ending end) ((same_runs ts picks).of_system ws trace end r) _ (in_jobs trace n k x h) refl;
    }

  pub window_law : (full : Bool) (t : Table) (rows : List (Row StateView)) → TableLaw (plan_system ts picks) full t rows →
      WindowLaw ts picks t rows
  window_law full t rows h = record {
    least = λ k. shown_by_run rows k (t.times k).least (h.least k);
    greatest = λ k. shown_by_run rows k (t.times k).greatest (h.greatest k);
    late_run = late_by_run rows t.stage h.late_run;
    complete_table = λ e. all_runs t (h.complete_table e);
  }
