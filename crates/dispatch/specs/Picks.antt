-- What a dispatch rule sees and picks.
use Rattle.std.specs.Prelude.{◌≡◌, ℕ, zero, suc, ◌+◌, Bool, true, false, cond, ◌&&◌, ◌||◌, List, [], ◌∷◌, is_some, ◌==◌, nat_lt}
use Rattle.std.specs.Option.{unwrap_or}
use Rattle.dispatch.specs.declared.Seen.{Seen}

-- A rule's meaning: the task that it picks, from 1, for the tasks that it sees and the last runner.
abbrev pub Picks : Type 0
Picks = List Seen → ℕ → ℕ

-- Whether the task at an index has a job, and the task of a number.
abbrev pub job_at : List Seen → ℕ → Bool
job_at [] i = false
job_at (t ∷ ts) zero = is_some t.age
job_at (t ∷ ts) (suc i) = job_at ts i

abbrev pub has_job : List Seen → ℕ → Bool
has_job ts zero = false
has_job ts (suc i) = job_at ts i

-- It picks 0 exactly when no task has a job, else a task that has one.
pub record WorkConserving (picks : Picks) : Type 0 where
  pub idle : (ts : List Seen) (last : ℕ) → ((n : ℕ) → has_job ts n ≡ false) → picks ts last ≡ 0
  pub idle_only : (ts : List Seen) (last : ℕ) → picks ts last ≡ 0 → (n : ℕ) → has_job ts n ≡ false
  pub busy : (ts : List Seen) (last n : ℕ) → has_job ts n ≡ true → has_job ts (picks ts last) ≡ true

-- The best task so far, 0 for none, with its key.
pub record Best : Type 0 where
  pub task : ℕ
  pub rank : ℕ

-- A task with a job takes over if there was none, or its key is greater.
abbrev pub better : (Seen → ℕ) → ℕ → Seen → Best → Best
better key n t b = cond (is_some t.age && (b.task == 0 || nat_lt b.rank (key t))) (record { task = n; rank = key t }) b

abbrev pub best : (Seen → ℕ) → ℕ → List Seen → Best → Best
best key n [] b = b
best key n (t ∷ ts) b = best key (n + 1) ts (better key n t b)

-- The task with the greatest key, and among equals the smaller number.
abbrev pub greatest : (Seen → ℕ) → Picks
greatest key ts last = (best key 1 ts (record { task = 0; rank = 0 })).task

abbrev pub by_priority : Picks
by_priority = greatest (λ t. t.priority)

-- The age of a task's job.
abbrev pub waited : Seen → ℕ
waited t = unwrap_or t.age 0

abbrev pub by_age : Picks
by_age = greatest waited

-- The last runner if it has a job, else what the rule below picks.
abbrev pub keeping : Picks → Picks
keeping below ts last = cond (has_job ts last) last (below ts last)
