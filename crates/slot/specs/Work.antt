-- The work of a slot: what the rule sees, and what the slot does with each task's job.
use Rattle.std.specs.Prelude.{ℕ, ◌+◌, Bool, true, false, cond, List, [], ◌∷◌, Some, None, Option, ◌==◌, nat_le}
use Rattle.dispatch.specs.declared.Seen.{Seen}
use Rattle.outcome.specs.declared.Ended.{Ended}
use Rattle.slot.specs.declared.state.Job.{Job}
use Rattle.slot.specs.declared.state.TaskState.{TaskState}
use Rattle.slot.specs.declared.work.Served.{Served}
use Rattle.slot.specs.declared.round.Round.{Round}
use Rattle.plans.specs.Tasks.{TaskView}

-- What the rule sees of the tasks.
abbrev pub age_of : Option Job → Option ℕ
age_of None = None
age_of (Some j) = Some j.age

abbrev pub sees : List TaskView → List TaskState → List Seen
sees [] ss = []
sees (t ∷ ts) [] = []
sees (t ∷ ts) (s ∷ ss) = record { priority = t.priority; age = age_of s.job } ∷ sees ts ss

-- A job that goes on, one slot older, is late at its deadline.
abbrev pub goes_on : TaskView → ℕ → ℕ → ℕ → Bool → Served
goes_on t position work age may = record {
  state = record { position = position; job = Some (record { work = work; age = age + 1 }) };
  response = None;
  may_choose = may;
  late = nat_le t.deadline (age + 1);
}

-- A job that ends has its age, this slot counted, as its response.
abbrev pub ends : ℕ → ℕ → Bool → Served
ends position age may = record {
  state = record { position = position; job = None };
  response = Some (age + 1);
  may_choose = may;
  late = false;
}

-- The picked job works: at its worst time it ends, from its best time on it ends or stays as chosen, below it stays.
abbrev pub works : Bool → TaskView → ℕ → Job → Served
works stay t position j =
    cond (nat_le t.worst (j.work + 1)) (ends position j.age false)
    (cond (nat_le t.best (j.work + 1))
    (cond stay (goes_on t position (j.work + 1) j.age true) (ends position j.age true))
    (goes_on t position (j.work + 1) j.age false))

abbrev pub serve_job : Bool → Bool → TaskView → ℕ → Option Job → Served
serve_job picked stay t position None = record { state = record { position = position; job = None }; response = None; may_choose = false; late = false }
serve_job picked stay t position (Some j) = cond picked (works stay t position j) (goes_on t position j.work j.age false)

abbrev pub serve : Bool → Bool → TaskView → TaskState → Served
serve picked stay t s = serve_job picked stay t s.position s.job

-- A round without the bounds that its type keeps.
pub record RoundView : Type 0 where
  pub tasks : List TaskState
  pub ended : Option Ended
  pub may_choose : Bool
  pub late : Option ℕ

abbrev pub round_view : Round → RoundView
round_view r = record { tasks = r.tasks; ended = r.ended; may_choose = r.may_choose; late = r.late }

-- All tasks, counted from n.
abbrev pub ended_by : ℕ → Option ℕ → Option Ended → Option Ended
ended_by n None rest = rest
ended_by n (Some r) rest = Some (record { task = n; response = r })

abbrev pub serve_all : ℕ → Bool → ℕ → List TaskView → List TaskState → RoundView
serve_all pick stay n [] ss = record { tasks = ss; ended = None; may_choose = false; late = None }
serve_all pick stay n (t ∷ ts) [] = record { tasks = []; ended = None; may_choose = false; late = None }
serve_all pick stay n (t ∷ ts) (s ∷ ss) =
    let one = serve (n == pick) stay t s in
    let rest = serve_all pick stay (n + 1) ts ss in
    record {
      tasks = one.state ∷ rest.tasks;
      ended = ended_by n one.response rest.ended;
      may_choose = cond one.may_choose true rest.may_choose;
      late = cond one.late (Some n) rest.late;
    }
