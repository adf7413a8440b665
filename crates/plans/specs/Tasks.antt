-- What a plan's tasks are to the slot rule.
use Rattle.std.specs.Prelude.{ℕ, List, [], ◌∷◌, Some, None, Option}
use Rattle.streams.specs.Meaning.{Meaning}
use Rattle.plans.specs.declared.plan.Task.{Task}

-- A task as the rule sees it: its stream's meaning, its priority, its best and worst execution time, and its deadline.
pub record TaskView : Type 0 where
  pub stream : Meaning
  pub priority : ℕ
  pub best : ℕ
  pub worst : ℕ
  pub deadline : ℕ

module _ {S : Type 0} (meaning : S → Meaning) where
  abbrev pub task_view : Task S → TaskView
  task_view t = record {
    stream = meaning t.stream;
    priority = t.times.priority;
    best = t.times.best;
    worst = t.times.worst;
    deadline = t.times.deadline;
  }

  -- The tasks of a plan, up to the first free place.
  abbrev pub task_views : List (Option (Task S)) → List TaskView
  task_views [] = []
  task_views (None ∷ ts) = []
  task_views (Some t ∷ ts) = task_view t ∷ task_views ts
