-- Work and age are at most 1,023.
use Rattle.std.specs.Prelude.{◌≤◌, Bool, true, ◌&&◌, List, [], ◌∷◌, Some, None, Option, nat_le}
use Rattle.plans.specs.Limits.{deadline_limit}
use Rattle.slot.specs.declared.state.Job.{Job}
use Rattle.slot.specs.declared.state.TaskState.{TaskState}

abbrev pub JobBounded : Option Job → Type 0
JobBounded None = Unit {0}
JobBounded (Some j) = (j.work ≤ deadline_limit) × (j.age ≤ deadline_limit)

abbrev pub Bounded : List TaskState → Type 0
Bounded [] = Unit {0}
Bounded (s ∷ ss) = JobBounded s.job × Bounded ss

-- The same as a test, which a ghost field can hold.
abbrev pub job_bounded : Option Job → Bool
job_bounded None = true
job_bounded (Some j) = nat_le j.work deadline_limit && nat_le j.age deadline_limit

abbrev pub bounded : List TaskState → Bool
bounded [] = true
bounded (s ∷ ss) = job_bounded s.job && bounded ss
