-- Which task a run picks.
use Rattle.std.specs.Prelude.{◌≡◌, ℕ, zero, suc, ◌-◌, ◌<◌, ◌≤◌, cond, ◌⊎◌, List, length, is_some, Some, None, Option}
use Rattle.std.specs.List.{slice_get}
use Rattle.dispatch.specs.declared.Seen.{Seen}
use Rattle.dispatch.specs.Picks.{Picks, by_priority, by_age}
use Rattle.slot.specs.declared.event.Event.{Event}
use Rattle.plans.specs.Tasks.{TaskView}
use Rattle.runs.specs.Run.{Ending, Run, event_at, IsTask}
use Rattle.runs.specs.Pending.{PendingIn}
use Rattle.runs.specs.Lateness.{Overlaps}

-- The rule sees the age of the job that stands, or that none does.
abbrev pub AgeAsShown : (ℕ → Event) → ℕ → ℕ → Option ℕ → Type 0
AgeAsShown f k n None = (a : ℕ) → PendingIn f k a n → ⊥
AgeAsShown f k n (Some x) = (x ≤ n) × PendingIn f k (n - x) n

-- What the rule sees in slot n: of each task its priority and the age of its job, and no more.
pub record SeenAsShown (ts : List TaskView) (f : ℕ → Event) (n : ℕ) (seen : List Seen) : Type 0 where
  pub seen_task : (k : ℕ) (t : TaskView) → IsTask ts k t →
      (age : Option ℕ) × (slice_get seen (k - 1) ≡ Some (record { priority = t.priority; age = age })) × AgeAsShown f k n age
  pub only : (i : ℕ) (s : Seen) → slice_get seen i ≡ Some s → (t : TaskView) × (slice_get ts i ≡ Some t)

-- Before slot n the last runner is the task picked in the slot before, unless a job ended there.
abbrev pub last_runner : (ℕ → Event) → ℕ → ℕ
last_runner f zero = 0
last_runner f (suc n) = cond (is_some (f n).ended) 0 (f n).picked

-- No arrival meets a job in slot n.
abbrev pub NoOverlap : List TaskView → (ℕ → Event) → ℕ → Type 0
NoOverlap ts f n = (k : ℕ) → Overlaps ts f k n → ⊥

-- In each slot without an overlap the task picked is what the rule picks of the jobs that stand and the last runner.
abbrev pub DispatchLaw : List TaskView → Picks → Type 0
DispatchLaw ts picks = (ways : List ℕ) (trace : List Event) (end : Ending) → Run ts picks ways trace end →
    (n : ℕ) → n < length trace → NoOverlap ts (event_at trace) n →
    (seen : List Seen) × SeenAsShown ts (event_at trace) n seen × ((event_at trace n).picked ≡ picks seen (last_runner (event_at trace) n))

-- Of the jobs that stand in slot n, that of the greatest priority is picked, and among equals that of the smaller task.
pub record Highest (ts : List TaskView) (f : ℕ → Event) (k : ℕ) (t : TaskView) (n : ℕ) : Type 0 where
  pub task_view : TaskView
  pub task : IsTask ts (f n).picked task_view
  pub since : ℕ
  pub pending : PendingIn f (f n).picked since n
  pub higher : (t.priority < task_view.priority) ⊎ ((task_view.priority ≡ t.priority) × ((f n).picked ≤ k))

abbrev pub PriorityLaw : List TaskView → Picks → Type 0
PriorityLaw ts picks = picks ≡ by_priority → (ways : List ℕ) (trace : List Event) (end : Ending) → Run ts picks ways trace end →
    (n : ℕ) → n < length trace → NoOverlap ts (event_at trace) n →
    (k : ℕ) (t : TaskView) (a : ℕ) → IsTask ts k t → PendingIn (event_at trace) k a n → Highest ts (event_at trace) k t n

-- Of the jobs that stand in slot n, the one that arrived first is picked, and among equals that of the smaller task.
pub record Oldest (ts : List TaskView) (f : ℕ → Event) (k a n : ℕ) : Type 0 where
  pub task_view : TaskView
  pub task : IsTask ts (f n).picked task_view
  pub since : ℕ
  pub pending : PendingIn f (f n).picked since n
  pub older : (since < a) ⊎ ((since ≡ a) × ((f n).picked ≤ k))

abbrev pub WaitingLaw : List TaskView → Picks → Type 0
WaitingLaw ts picks = picks ≡ by_age → (ways : List ℕ) (trace : List Event) (end : Ending) → Run ts picks ways trace end →
    (n : ℕ) → n < length trace → NoOverlap ts (event_at trace) n →
    (k : ℕ) (t : TaskView) (a : ℕ) → IsTask ts k t → PendingIn (event_at trace) k a n → Oldest ts (event_at trace) k a n
