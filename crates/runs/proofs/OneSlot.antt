-- What one slot does with a task. Assumes nothing.
use Rattle.std.proofs.Common.{◌≡◌, ℕ, ◌+◌, ◌-◌, true, false, List, Some, None, arith}
use Rattle.std.specs.List.{slice_get}
use Rattle.dispatch.specs.Picks.{Picks}
use Rattle.slot.specs.declared.state.TaskState.{TaskState}
use Rattle.plans.specs.Tasks.{TaskView}
use Rattle.slot.specs.Slot.{StateView}
use Rattle.slot.specs.Work.{serve}
use Rattle.runs.proofs.Releases.{given}
use Rattle.runs.specs.Run.{arrives, is_picked, response, IsTask}
use Rattle.slot.specs.declared.event.Event.{Event}
use Rattle.runs.proofs.Outcomes.{mix, come_to, chosen, stays, round, Clear}
use Rattle.runs.proofs.TaskSlots.{arrived_at, alone_at, serve_all_at, ended_at, timely_at}

module _ (ds : List TaskView) (picks : Picks) (k : ℕ) (d : TaskView) (task : IsTask ds k d) where
  -- what a slot with no overlap does with the task
  pub record DoesTask (m : StateView) (way : ℕ) (g : Event) (s : TaskState) : Type 0 where
    pub mid : TaskState
    pub t_mid : slice_get (come_to ds picks m way) (k - 1) ≡ Some mid
    pub t_job : mid.job ≡ given (arrives g k) s.job
    pub t_fresh : arrives g k ≡ true → s.job ≡ None
    pub t_response : response g k ≡ (serve (is_picked g k) (stays ds picks m way) d mid).response
    pub t_next : slice_get (round ds picks m way).tasks (k - 1) ≡ Some (serve (is_picked g k) (stays ds picks m way) d mid).state
    pub t_late : (round ds picks m way).late ≡ None → (serve (is_picked g k) (stays ds picks m way) d mid).late ≡ false

  pub does_task : (m : StateView) (way : ℕ) (g : Event) (s : TaskState) → Clear ds picks m way g → slice_get m.tasks (k - 1) ≡ Some s → DoesTask m way g s
  does_task m way g s c hs =
      let a = arrived_at ds m.tasks (mix ds picks m way) (k - 1) d s task.here hs in
      let e : k ≡ 1 + (k - 1) = omega (arith, task.from_one) in
      rw (c.c_arrivals, c.c_picked, c.c_ended) (record {
        mid = a.after;
        t_mid = a.a_nth;
        t_job = a.a_job;
        t_fresh = alone_at ds m.tasks 1 (mix ds picks m way) (k - 1) d s c.no_overlap task.here hs;
        t_response = ended_at ds (come_to ds picks m way) (chosen ds picks m way) (stays ds picks m way) 1 (k - 1) k d a.after e task.here a.a_nth;
        t_next = serve_all_at ds (come_to ds picks m way) (chosen ds picks m way) (stays ds picks m way) 1 (k - 1) k d a.after e task.here a.a_nth;
        t_late = timely_at ds (come_to ds picks m way) (chosen ds picks m way) (stays ds picks m way) 1 (k - 1) k d a.after e task.here a.a_nth;
      })
