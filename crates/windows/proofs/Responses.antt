-- Responses in a trace, and the jobs that its slots ended. Assumes nothing.
use Rattle.std.proofs.Common.{◌≡◌, ℕ, zero, suc, ◌+◌, cond, eqb, List, [], ◌∷◌, ◌++◌, length, Some, None, Option, refl, ap, ◌∙◌, inl, inr, arith, length-append, eq-eqb, eqb-true}
use lib.ListN.{length-map}
use Rattle.std.proofs.lemmas.Bool.{cases_Bool}
use Rattle.outcome.specs.declared.Ended.{Ended}
use Rattle.slot.specs.declared.event.Event.{Event}
use Rattle.runs.specs.Run.{of_task, response, event_at}
use Rattle.exploration.specs.Lists.{In}
use Rattle.exploration.proofs.Lists.{none_some, some_inj, nil_cons, cons_head, cons_tail}
use Rattle.windows.specs.SameRuns.{ended_jobs}

abbrev pub job : ℕ → ℕ → Option Ended
job k x = Some (record { task = k; response = x })

-- only a job of task k has a response of task k
job_of : (k x : ℕ) (o : Option Ended) → of_task k o ≡ Some x → o ≡ job k x
job_of k x None h = absurd (none_some h)
job_of k x (Some e) h = elim (cases_Bool (eqb e.task k)) [
  | inl a ↦
      let same : e.task ≡ k = eqb-true e.task k a in
      let r : e.response ≡ x = some_inj (rw a at h) in
      λ i. Some (record { task = same i; response = r i })
  | inr a ↦ absurd (none_some (rw a at h))
]

-- a response in a trace is that of a job that one of its slots ended
pub in_jobs : (trace : List Event) (n k x : ℕ) → response (event_at trace n) k ≡ Some x → In (job k x) (ended_jobs trace)
in_jobs [] n k x h = absurd (none_some h)
in_jobs (e ∷ trace) zero k x h = inl (job_of k x e.ended h)
in_jobs (e ∷ trace) (suc n) k x h = inr (in_jobs trace n k x h)

last_ended : (trace : List Event) (es : List (Option Ended)) (o : Option Ended) → ended_jobs trace ≡ es ++ (o ∷ []) →
    (event_at trace (length es)).ended ≡ o
last_ended [] [] o h = absurd (nil_cons h)
last_ended [] (e ∷ es) o h = absurd (nil_cons h)
last_ended (s ∷ trace) [] o h = cons_head h
last_ended (s ∷ trace) (e ∷ es) o h = last_ended trace es o (cons_tail h)

-- the job that the last slot ended has its response there
pub last_shows : (trace : List Event) (es : List (Option Ended)) (k x : ℕ) → ended_jobs trace ≡ es ++ (job k x ∷ []) →
    response (event_at trace (length es)) k ≡ Some x
last_shows trace es k x h =
    ap (of_task k) (last_ended trace es (job k x) h) ∙ ap (λ b. cond b (Some x) None) (eq-eqb k k refl)

pub last_slot : (trace : List Event) (es : List (Option Ended)) (o : Option Ended) → ended_jobs trace ≡ es ++ (o ∷ []) →
    length trace ≡ length es + 1
last_slot trace es o h = omega (arith, simp (length-map, length-append) at (ap length h))
