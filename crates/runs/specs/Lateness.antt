-- What stands at the end of a run, and when a run is late.
use Rattle.std.specs.Prelude.{◌≡◌, ℕ, ◌+◌, ◌-◌, ◌<◌, ◌≤◌, true, List, length, Some, None, Option}
use Rattle.std.specs.List.{slice_get}
use Rattle.dispatch.specs.Picks.{Picks}
use Rattle.outcome.specs.declared.Cause.TheVariants.{Overlap, Deadline}
use Rattle.slot.specs.declared.state.Job.{Job}
use Rattle.slot.specs.declared.state.TaskState.{TaskState}
use Rattle.slot.specs.declared.event.Event.{Event}
use Rattle.plans.specs.Tasks.{TaskView}
use Rattle.slot.specs.Slot.{StateView}
use Rattle.runs.specs.Run.{arrives, Ending, ends_in, ends_late, Run, event_at, IsTask}
use Rattle.runs.specs.Pending.{PendingBefore}
use Rattle.runs.specs.Response.{executed}

-- The job that a state holds before slot n: its age is the number of slots since its arrival, its work the number of slots in
-- which it was picked, below its worst time, and it is younger than its deadline.
pub record Unfinished (f : ℕ → Event) (k : ℕ) (t : TaskView) (n : ℕ) (j : Job) : Type 0 where
  pub within : j.age ≤ n
  pub since : PendingBefore f k (n - j.age) n
  pub work : executed f k (n - j.age) j.age ≡ j.work
  pub below : j.work < t.worst
  pub young : j.age < t.deadline

-- A task has no job exactly if none stands.
abbrev pub JobAsShown : (ℕ → Event) → ℕ → TaskView → ℕ → Option Job → Type 0
JobAsShown f k t n None = (a : ℕ) → PendingBefore f k a n → ⊥
JobAsShown f k t n (Some j) = Unfinished f k t n j

abbrev pub UnfinishedLaw : List TaskView → Picks → Type 0
UnfinishedLaw ts picks = (ways : List ℕ) (trace : List Event) (m : StateView) → Run ts picks ways trace (ends_in m) →
    (k : ℕ) (t : TaskView) → IsTask ts k t →
    (s : TaskState) × (slice_get m.tasks (k - 1) ≡ Some s) × JobAsShown (event_at trace) k t (length trace) s.job

-- In slot n an arrival of task k meets its job.
pub record Overlaps (ts : List TaskView) (f : ℕ → Event) (k n : ℕ) : Type 0 where
  pub o_view : TaskView
  pub o_task : IsTask ts k o_view
  pub o_again : arrives (f n) k ≡ true
  pub o_since : ℕ
  pub o_pending : PendingBefore f k o_since n

-- After slot n a job of task k is as old as its deadline, and has not ended.
pub record MissesDeadline (ts : List TaskView) (f : ℕ → Event) (k n : ℕ) : Type 0 where
  pub e_view : TaskView
  pub e_task : IsTask ts k e_view
  pub e_since : ℕ
  pub e_pending : PendingBefore f k e_since (n + 1)
  pub e_reached : n + 1 ≡ e_since + e_view.deadline

-- Slot n is the last, this holds of task k in it, and of no smaller task.
pub record Smallest (P : ℕ → ℕ → Type 0) (trace : List Event) (k n : ℕ) : Type 0 where
  pub last : length trace ≡ n + 1
  pub here : P k n
  pub first : (i : ℕ) → i < k → P i n → ⊥

-- A run is late with cause O exactly where an arrival meets a job, and with cause D exactly where none does and a job misses its
-- deadline; the smallest such task is named, and only the last slot is late.
pub record Lateness (ts : List TaskView) (trace : List Event) (end : Ending) : Type 0 where
  pub overlap_then : (k : ℕ) → end ≡ ends_late k Overlap → (n : ℕ) × Smallest (Overlaps ts (event_at trace)) trace k n
  pub overlap_if : (k n : ℕ) → n < length trace → Overlaps ts (event_at trace) k n →
      (i : ℕ) × (end ≡ ends_late i Overlap) × (length trace ≡ n + 1)
  pub deadline_then : (k : ℕ) → end ≡ ends_late k Deadline →
      (n : ℕ) × Smallest (MissesDeadline ts (event_at trace)) trace k n × ((i : ℕ) → Overlaps ts (event_at trace) i n → ⊥)
  pub deadline_if : (k n : ℕ) → n < length trace → MissesDeadline ts (event_at trace) k n → ((i : ℕ) → Overlaps ts (event_at trace) i n → ⊥) →
      (i : ℕ) × (end ≡ ends_late i Deadline) × (length trace ≡ n + 1)

abbrev pub LatenessLaw : List TaskView → Picks → Type 0
LatenessLaw ts picks = (ways : List ℕ) (trace : List Event) (end : Ending) → Run ts picks ways trace end → Lateness ts trace end
