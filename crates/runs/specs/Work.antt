-- When a picked job must end, when it must stay, and that all it may choose comes about.
use Rattle.std.specs.Prelude.{◌≡◌, ℕ, ◌+◌, ◌-◌, ◌<◌, ◌≤◌, Bool, true, false, ◌⊎◌, List, length, take, Some, None}
use Rattle.streams.specs.Meaning.{IsRun, pattern}
use Rattle.dispatch.specs.Picks.{Picks}
use Rattle.slot.specs.declared.event.Event.{Event}
use Rattle.plans.specs.Tasks.{TaskView}
use Rattle.runs.specs.Run.{is_picked, response, Ending, ends_in, ends_late, Run, event_at, IsTask}
use Rattle.runs.specs.Pending.{PendingIn}
use Rattle.runs.specs.Response.{executed}
use Rattle.runs.specs.Arrivals.{arrivals_of}

-- In slot n a job that is picked for its worst time ends, and one that is picked for less than its best time stays.
pub record WorkBounds (ts : List TaskView) (f : ℕ → Event) (n : ℕ) : Type 0 where
  pub ends : (k : ℕ) (t : TaskView) (a : ℕ) → IsTask ts k t → PendingIn f k a n → is_picked (f n) k ≡ true →
      t.worst ≤ executed f k a (n + 1 - a) → response (f n) k ≡ Some (n + 1 - a)
  pub stays : (k : ℕ) (t : TaskView) (a : ℕ) → IsTask ts k t → PendingIn f k a n → is_picked (f n) k ≡ true →
      executed f k a (n + 1 - a) < t.best → response (f n) k ≡ None

abbrev pub WorkLaw : List TaskView → Picks → Type 0
WorkLaw ts picks = (ways : List ℕ) (trace : List Event) (end : Ending) → Run ts picks ways trace end →
    (n : ℕ) → n < length trace → WorkBounds ts (event_at trace) n

-- Of each task's stream a run of n ways is chosen.
abbrev pub Chosen : List TaskView → (ℕ → List ℕ) → ℕ → Type 0
Chosen ts choice n = (k : ℕ) (t : TaskView) → IsTask ts k t → IsRun t.stream t.stream.first (choice k) × (length (choice k) ≡ n)

-- In slot n a job is picked for the c-th time, and c is from its best time to below its worst: it stays where the wish is to
-- stay, and else it ends.
abbrev pub Obeyed : List TaskView → (ℕ → Event) → Bool → ℕ → Type 0
Obeyed ts f stay n = (k : ℕ) (t : TaskView) (a : ℕ) → IsTask ts k t → PendingIn f k a n → is_picked (f n) k ≡ true →
    t.best ≤ executed f k a (n + 1 - a) → executed f k a (n + 1 - a) < t.worst →
    (stay ≡ true → response (f n) k ≡ None) × (stay ≡ false → response (f n) k ≡ Some (n + 1 - a))

abbrev pub IsLate : Ending → Type 0
IsLate (ends_in m) = ⊥
IsLate (ends_late k c) = Unit {0}

-- A run that follows the chosen runs of the streams and the wishes, for n slots or until it is late.
pub record Follows (ts : List TaskView) (picks : Picks) (choice : ℕ → List ℕ) (wish : ℕ → Bool) (n : ℕ) : Type 0 where
  pub ways : List ℕ
  pub trace : List Event
  pub end : Ending
  pub run : Run ts picks ways trace end
  pub shows : (k : ℕ) (t : TaskView) → IsTask ts k t → arrivals_of trace k ≡ pattern t.stream t.stream.first (take (length trace) (choice k))
  pub obeys : (i : ℕ) → i < length trace → Obeyed ts (event_at trace) (wish i) i
  pub long : (length trace ≡ n) ⊎ (IsLate end × (length trace < n))

-- Whatever the streams show and each job chooses comes about in a run.
abbrev pub ChoiceLaw : List TaskView → Picks → Type 0
ChoiceLaw ts picks = (choice : ℕ → List ℕ) (wish : ℕ → Bool) (n : ℕ) → Chosen ts choice n → Follows ts picks choice wish n
