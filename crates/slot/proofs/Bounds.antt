-- The start, the arrivals, and a slot that is not late keep work and age within bounds. Assumes nothing.
use Rattle.std.proofs.Common.{◌≡◌, ℕ, ◌+◌, ◌≤◌, Bool, true, false, ◌||◌, is_some, eqb, leb, List, [], ◌∷◌, Some, None, Option, refl, inl, inr, arith, le-leb, leb-false, leb-true}
use Rattle.std.proofs.lemmas.Bool.{cases_Bool, and_parts, and_from}
use Rattle.streams.specs.Meaning.{Meaning}
use Rattle.plans.specs.declared.plan.Task.{Task}
use Rattle.slot.specs.declared.state.Job.{Job}
use Rattle.slot.specs.declared.state.TaskState.{TaskState}
use Rattle.plans.specs.Limits.{deadline_limit}
use Rattle.slot.specs.Bounded.{JobBounded, Bounded, job_bounded, bounded}
use Rattle.plans.specs.Tasks.{TaskView, task_views}
use Rattle.slot.specs.Slot.{firsts}
use Rattle.slot.specs.Arrivals.{come, arrived, job_after}
use Rattle.slot.specs.declared.arrive.Release.{Release}
use Rattle.slot.specs.declared.arrive.Release.TheVariants.{Quiet, NewJob, Overlapping}
use Rattle.slot.specs.Work.{serve, serve_job, serve_all}

test_job_bounded : (o : Option Job) → job_bounded o ≡ true → JobBounded o
test_job_bounded None h = tt
test_job_bounded (Some j) h = let p = and_parts (leb j.work deadline_limit) (leb j.age deadline_limit) h in (leb-true j.work deadline_limit p.0, leb-true j.age deadline_limit p.1)

job_bounded_test : (o : Option Job) → JobBounded o → job_bounded o ≡ true
job_bounded_test None h = refl
job_bounded_test (Some j) h = and_from (leb j.work deadline_limit) (leb j.age deadline_limit) (le-leb j.work deadline_limit h.0) (le-leb j.age deadline_limit h.1)

pub test_bounded : (ss : List TaskState) → bounded ss ≡ true → Bounded ss
test_bounded [] h = tt
test_bounded (s ∷ ss) h = let p = and_parts (job_bounded s.job) (bounded ss) h in (test_job_bounded s.job p.0, test_bounded ss p.1)

pub bounded_test : (ss : List TaskState) → Bounded ss → bounded ss ≡ true
bounded_test [] h = refl
bounded_test (s ∷ ss) h = and_from (job_bounded s.job) (bounded ss) (job_bounded_test s.job h.0) (bounded_test ss h.1)

-- what the numbers of every task keep
abbrev pub Sane : List TaskView → Type 0
Sane [] = Unit {0}
Sane (d ∷ ds) = (d.worst ≤ d.deadline) × (d.deadline ≤ deadline_limit) × Sane ds

pub sane : {S : Type 0} (meaning : S → Meaning) (ts : List (Option (Task S))) → Sane (task_views meaning ts)
sane meaning [] = tt
sane meaning (None ∷ ts) = tt
sane meaning (Some t ∷ ts) = (t.times.fit, t.times.soon, sane meaning ts)

serve_bounded : (picked stay : Bool) (d : TaskView) (p : ℕ) (o : Option Job) → d.worst ≤ d.deadline → d.deadline ≤ deadline_limit → JobBounded o →
    (serve_job picked stay d p o).late ≡ false → JobBounded (serve_job picked stay d p o).state.job
serve_bounded picked stay d p None hm hd b h = tt
serve_bounded false stay d p (Some j) hm hd b h = (b.0, omega (arith, leb-false d.deadline (j.age + 1) h))
serve_bounded true stay d p (Some j) hm hd b h =
    elim (cases_Bool (leb d.worst (j.work + 1))) [
      | inl y ↦ rw y tt
      | inr n ↦
          let below = leb-false d.worst (j.work + 1) n in
          elim (cases_Bool (leb d.best (j.work + 1))) [
            | inl y ↦ elim (cases_Bool stay) [
              | inl z ↦ let h' : leb d.deadline (j.age + 1) ≡ false = rw (n, y, z) at h in rw (n, y, z) (omega arith, omega (arith, leb-false d.deadline (j.age + 1) h'))
              | inr z ↦ rw (n, y, z) tt
            ]
            | inr y ↦ let h' : leb d.deadline (j.age + 1) ≡ false = rw (n, y) at h in rw (n, y) (omega arith, omega (arith, leb-false d.deadline (j.age + 1) h'))
          ]
    ]

pub bounded_all : (ds : List TaskView) (ss : List TaskState) (pick : ℕ) (stay : Bool) (n : ℕ) → Sane ds → Bounded ss →
    (serve_all pick stay n ds ss).late ≡ None → Bounded (serve_all pick stay n ds ss).tasks
bounded_all [] ss pick stay n sn h z = h
bounded_all (d ∷ ds) [] pick stay n sn h z = tt
bounded_all (d ∷ ds) (s ∷ ss) pick stay n sn h z =
    elim (cases_Bool (serve (eqb n pick) stay d s).late) [
      | inl y ↦ let no : Some n ≡ None = rw y at z in absurd (cc)
      | inr y ↦
          let z' : (serve_all pick stay (n + 1) ds ss).late ≡ None = rw y at z in (
            serve_bounded (eqb n pick) stay d s.position s.job sn.0 sn.1 h.0 y,
            bounded_all ds ss pick stay (n + 1) sn.2 h.1 z',
          )
    ]

-- as the ghost field of a round has it
pub round_bounded : (o : Option ℕ) (ss : List TaskState) → (o ≡ None → Bounded ss) → (is_some o || bounded ss) ≡ true
round_bounded None ss h = bounded_test ss (h refl)
round_bounded (Some k) ss h = refl

pub bounded_firsts : (ds : List TaskView) (ss : List TaskState) → bounded ss ≡ true → bounded (firsts ds ss) ≡ true
bounded_firsts [] ss h = h
bounded_firsts (d ∷ ds) [] h = refl
bounded_firsts (d ∷ ds) (s ∷ ss) h = bounded_firsts ds ss (and_parts (job_bounded s.job) (bounded ss) h).1

release_bounded : (r : Release) (o : Option Job) → JobBounded o → JobBounded (job_after r o)
release_bounded Quiet o h = h
release_bounded NewJob o h = (omega arith, omega arith)
release_bounded Overlapping o h = h

arrivals_bounded : (ds : List TaskView) (ss : List TaskState) (a : ℕ) → Bounded ss → Bounded (arrived ds ss a)
arrivals_bounded [] ss a h = h
arrivals_bounded (d ∷ ds) [] a h = tt
arrivals_bounded (d ∷ ds) (s ∷ ss) a h = (release_bounded _ s.job h.0, arrivals_bounded ds ss (come d s a).left h.1)

pub bounded_arrived : (ds : List TaskView) (ss : List TaskState) (a : ℕ) → bounded ss ≡ true → bounded (arrived ds ss a) ≡ true
bounded_arrived ds ss a h = bounded_test (arrived ds ss a) (arrivals_bounded ds ss a (test_bounded ss h))
