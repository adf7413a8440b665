-- Plans with a name, as bytes of plan records.
use Rattle.std.specs.Prelude.{ℕ, ◌/◌, ◌%◌, List, [], ◌∷◌, ◌++◌, replicate}

-- A number in two bytes, the lesser first.
abbrev pub two : ℕ → List ℕ
two n = n % 256 ∷ n / 256 ∷ []

-- A task with a stream of kind P: its numbers, then period, jitter and offset.
pub record Task : Type 0 where
  pub priority : ℕ
  pub best : ℕ
  pub worst : ℕ
  pub deadline : ℕ
  pub period : ℕ
  pub jitter : ℕ
  pub offset : ℕ

abbrev pub task_bytes : Task → List ℕ
task_bytes t =
    80 ∷ t.priority ∷ two t.best ++ (two t.worst ++ (two t.deadline ++ (two t.offset ++ (two t.period ++ (two t.jitter ++ replicate 10 0)))))

abbrev pub plan_bytes : List Task → List ℕ
plan_bytes [] = []
plan_bytes (t ∷ ts) = task_bytes t ++ plan_bytes ts

-- One task that fills every slot.
abbrev pub full : List ℕ
full = plan_bytes (record { priority = 1; best = 1; worst = 1; deadline = 1; period = 1; jitter = 0; offset = 0 } ∷ [])

-- Two tasks, the second with one or two slots of work.
abbrev pub quick : Task
quick = record { priority = 2; best = 1; worst = 1; deadline = 2; period = 2; jitter = 0; offset = 0 }

abbrev pub sample : List ℕ
sample = plan_bytes (quick ∷ record { priority = 1; best = 1; worst = 2; deadline = 4; period = 4; jitter = 0; offset = 0 } ∷ [])

-- The second task with three slots of work, which is too much.
abbrev pub overloaded : List ℕ
overloaded = plan_bytes (quick ∷ record { priority = 1; best = 3; worst = 3; deadline = 4; period = 4; jitter = 0; offset = 0 } ∷ [])

-- One task with jitter.
abbrev pub jittered : List ℕ
jittered = plan_bytes (record { priority = 1; best = 2; worst = 2; deadline = 2; period = 3; jitter = 1; offset = 0 } ∷ [])

-- One task whose arrivals can follow each other at once.
abbrev pub crowded : List ℕ
crowded = plan_bytes (record { priority = 1; best = 2; worst = 2; deadline = 3; period = 2; jitter = 1; offset = 0 } ∷ [])

-- A short task that comes while a long one runs.
abbrev pub preempting : List ℕ
preempting =
    plan_bytes
    (record { priority = 2; best = 1; worst = 1; deadline = 8; period = 8; jitter = 0; offset = 1 }
    ∷ record { priority = 1; best = 3; worst = 3; deadline = 8; period = 8; jitter = 0; offset = 0 } ∷ [])

-- Two equal tasks.
abbrev pub twin : Task
twin = record { priority = 1; best = 1; worst = 1; deadline = 4; period = 4; jitter = 0; offset = 0 }

abbrev pub twins : List ℕ
twins = plan_bytes (twin ∷ twin ∷ [])
