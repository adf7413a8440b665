-- The arrivals of a slot: each stream takes its way.
use Rattle.std.specs.Prelude.{ℕ, ◌+◌, ◌*◌, ◌/◌, ◌%◌, Bool, true, false, cond, List, [], ◌∷◌, map, Some, None, Option}
use Rattle.slot.specs.declared.state.Job.{Job}
use Rattle.slot.specs.declared.state.TaskState.{TaskState}
use Rattle.slot.specs.declared.arrive.Release.{Release}
use Rattle.slot.specs.declared.arrive.Release.TheVariants.{Quiet, NewJob, Overlapping}
use Rattle.slot.specs.declared.arrive.Arrival.{Arrival}
use Rattle.plans.specs.Tasks.{TaskView}

-- A: how many ways the streams have together.
abbrev pub choices : List TaskView → List TaskState → ℕ
choices [] ss = 1
choices (t ∷ ts) [] = 1
choices (t ∷ ts) (s ∷ ss) = t.stream.ways s.position * choices ts ss

-- What a stream's answer brings to its task: an arrival gives a task without a job a new one, and overlaps a job that stands.
abbrev pub release_of : Bool → Option Job → Release
release_of false o = Quiet
release_of true None = NewJob
release_of true (Some j) = Overlapping

abbrev pub job_after : Release → Option Job → Option Job
job_after Quiet o = o
job_after NewJob o = Some (record { work = 0; age = 0 })
job_after Overlapping o = o

abbrev pub arrives : Release → Bool
arrives Quiet = false
arrives NewJob = true
arrives Overlapping = true

abbrev pub overlaps : Release → Bool
overlaps Quiet = false
overlaps NewJob = false
overlaps Overlapping = true

-- One stream takes its way, the least part of a mixed number.
abbrev pub come : TaskView → TaskState → ℕ → Arrival
come t s a =
    let ways = t.stream.ways s.position in
    let answer = t.stream.answer s.position (a % ways) in
    record {
      release = release_of answer.0 s.job;
      state = record { position = answer.1; job = job_after (release_of answer.0 s.job) s.job };
      left = a / ways;
    }

-- How the tasks stand after their streams took the ways of a mixed number, task 1 least.
abbrev pub arrived : List TaskView → List TaskState → ℕ → List TaskState
arrived [] ss a = ss
arrived (t ∷ ts) [] a = []
arrived (t ∷ ts) (s ∷ ss) a = (come t s a).state ∷ arrived ts ss (come t s a).left

-- Which tasks have an arrival.
abbrev pub arrivals_in : List TaskView → List TaskState → ℕ → List Bool
arrivals_in [] ss a = map (λ _. false) ss
arrivals_in (t ∷ ts) [] a = []
arrivals_in (t ∷ ts) (s ∷ ss) a = arrives (come t s a).release ∷ arrivals_in ts ss (come t s a).left

-- The first task, counted from n, whose arrival overlaps.
abbrev pub overlapping : ℕ → List TaskView → List TaskState → ℕ → Option ℕ
overlapping n [] ss a = None
overlapping n (t ∷ ts) [] a = None
overlapping n (t ∷ ts) (s ∷ ss) a = cond (overlaps (come t s a).release) (Some n) (overlapping (n + 1) ts ss (come t s a).left)
