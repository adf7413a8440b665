-- When a run is late. Assumes nothing.
use Rattle.std.proofs.Common.{◌≡◌, ℕ, ◌-◌, ◌<◌, true, false, eqb, List, length, get_or, Some, None, Option, sym, refl, ap, ◌∙◌, inl, inr, arith}
use Rattle.std.proofs.lemmas.Bool.{cases_lt}
use Rattle.dispatch.specs.Picks.{Picks}
use Rattle.outcome.specs.declared.Cause.{Cause}
use Rattle.outcome.specs.declared.Cause.TheVariants.{Overlap, Deadline}
use Rattle.slot.specs.declared.state.Job.{Job}
use Rattle.slot.specs.declared.state.TaskState.{TaskState}
use Rattle.plans.specs.Tasks.{TaskView}
use Rattle.slot.specs.Slot.{StateView}
use Rattle.slot.specs.Work.{serve}
use Rattle.runs.specs.Lateness.{Overlaps, MissesDeadline, Lateness, LatenessLaw}
use Rattle.runs.specs.Pending.{PendingBefore}
use Rattle.runs.specs.Run.{is_picked, Ending, ends_in, ends_late, event_at, Timed, Proper, IsTask}
use Rattle.slot.specs.declared.event.Event.{Event}
use Rattle.runs.proofs.Outcomes.{mix, come_to, chosen, stays, Crossed, Tardy}
use Rattle.runs.proofs.TaskSlots.{Crossing, crossing, StayingJob, staying_job}
use Rattle.runs.proofs.JobLife.{Lives, none_pending}
use Rattle.runs.proofs.Response.{timed_of, Know, did, clear_expires, clear_timely, clear_apart, Final, told}

same : {X : Type 0} (a b : X) → Some a ≡ Some b → a ≡ b
same a b h = cc

pending_of : (f : ℕ → Event) (k : ℕ) (d : TaskView) (t : Timed d) (n : ℕ) (o : Option Job) → Lives f k d t n o → (o ≡ None → ⊥) → (a : ℕ) × PendingBefore f k a n
pending_of f k d t n None l h = elim (h refl) [ ]
pending_of f k d t n (Some j) l h =
    (n - j.age, record { before = omega (arith, l.l_some, l.l_within); came = l.l_came; alone = l.l_alone; unended = l.l_unended })

module _ (ds : List TaskView) (picks : Picks) (proper : Proper ds) (f : ℕ → Event) (n : ℕ) (m : StateView) (way : ℕ) (know : Know ds picks proper f n m) where
  module _ (k : ℕ) (c : Cause) (w : Crossed ds picks m way (f n) k c) where
    x : Crossing ds m.tasks 1 (mix ds picks m way) k
    x = crossing ds m.tasks 1 (mix ds picks m way) k w.x_task

    index_is : k - 1 ≡ x.x_index
    index_is = omega (arith, x.x_number)

    t : IsTask ds k x.x_view
    t = record { from_one = omega (arith, x.x_number); here = rw index_is x.x_in_views }

    state_is : (know k x.x_view t).0 ≡ x.x_state
    state_is = same (know k x.x_view t).0 x.x_state (sym (know k x.x_view t).1 ∙ rw index_is x.x_in_tasks)

    pub crossed_here : Overlaps ds f k n
    crossed_here =
        let o = pending_of f k x.x_view (timed_of ds picks proper k x.x_view t) n (know k x.x_view t).0.job (know k x.x_view t).2
        (λ e. x.x_has (sym (ap (λ (s : TaskState). s.job) state_is) ∙ e)) in
        record {
          o_view = x.x_view;
          o_task = t;
          o_again = ap (λ l. get_or l (k - 1) false) w.x_arrivals ∙ rw index_is x.x_arrives;
          o_since = o.0;
          o_pending = o.1;
        }

    pub crossed_first : (i : ℕ) → i < k → Overlaps ds f i n → ⊥
    crossed_first i p o =
        let d = o.o_view in
        let t' = o.o_task in
        let s = know i d t' in
        let e : s.0.job ≡ None = x.x_first (i - 1) d s.0 (omega (arith, x.x_number, t'.from_one)) t'.here s.1
        (sym (ap (λ l. get_or l (i - 1) false) w.x_arrivals) ∙ o.o_again) in
        let l : Lives f i d (timed_of ds picks proper i d t') n None = rw e at s.2 in
        none_pending f i d (timed_of ds picks proper i d t') n o.o_since l o.o_pending

  module _ (k : ℕ) (c : Cause) (w : Tardy ds picks m way (f n) k c) where
    y : StayingJob ds (come_to ds picks m way) (chosen ds picks m way) (stays ds picks m way) 1 k
    y = staying_job ds (come_to ds picks m way) (chosen ds picks m way) (stays ds picks m way) 1 k w.t_task

    index_is' : k - 1 ≡ y.y_index
    index_is' = omega (arith, y.y_number)

    t'' : IsTask ds k y.y_view
    t'' = record { from_one = omega (arith, y.y_number); here = rw index_is' y.y_in_views }

    abbrev went : (i : ℕ) (d : TaskView) (u : IsTask ds i d) → TaskState
    went i d u = (did ds picks proper f n m way w.clear know i d u).mid

    mid_is : y.y_state ≡ went k y.y_view t''
    mid_is = same y.y_state (went k y.y_view t'') (sym (rw index_is' y.y_in_tasks) ∙ (did ds picks proper f n m way w.clear know k y.y_view t'').t_mid)

    pub tardy_here : MissesDeadline ds f k n
    tardy_here =
        let e : (serve (is_picked (f n) k) (stays ds picks m way) y.y_view (went k y.y_view t'')).late ≡ true =
        rw (w.clear.c_picked, sym mid_is) y.y_late in
        let r = clear_expires ds picks proper f n m way w.clear know k y.y_view t'' e in
        record { e_view = y.y_view; e_task = t''; e_since = r.0; e_pending = r.1; e_reached = r.2 }

    pub tardy_first : (i : ℕ) → i < k → MissesDeadline ds f i n → ⊥
    tardy_first i p e =
        let d = e.e_view in
        let u = e.e_task in
        let h : (serve (eqb i (chosen ds picks m way)) (stays ds picks m way) d (went i d u)).late ≡ false =
        y.y_first (i - 1) i d (went i d u) (omega (arith, y.y_number, u.from_one)) (omega (arith, u.from_one)) u.here
        (did ds picks proper f n m way w.clear know i d u).t_mid in
        clear_timely ds picks proper f n m way w.clear know i e (rw w.clear.c_picked h)

same_late : (k k' : ℕ) (c c' : Cause) → ends_late k c ≡ ends_late k' c' → (k ≡ k') × (c ≡ c')
same_late k k' c c' h = (cc, cc)

module _ (ds : List TaskView) (picks : Picks) (proper : Proper ds) (trace : List Event) where
  abbrev f : ℕ → Event
  f = event_at trace

  late_of : (end : Ending) → Final ds picks proper f 0 (length trace) end → Lateness ds trace end
  late_of (ends_in m) r = record {
    overlap_then = λ k e. absurd (cc);
    overlap_if = λ k n p o. elim ((r.r_calm n (omega arith) p).apart k o) [ ];
    deadline_then = λ k e. absurd (cc);
    deadline_if = λ k n p e no. elim ((r.r_calm n (omega arith) p).in_time k e) [ ];
  }
  late_of (ends_late k c) r =
      elim r.l_late [
        | inl w ↦
            let here = crossed_here ds picks proper f r.l_slot r.l_state r.l_way r.l_know k c w in
            let first = crossed_first ds picks proper f r.l_slot r.l_state r.l_way r.l_know k c w in
            record {
              overlap_then = λ k' e. (r.l_slot, rw (sym (same_late k k' c Overlap e).0) (record { last = r.l_is; here = here; first = first }));
              overlap_if = λ k' n p o. elim (cases_lt n r.l_slot) [
                | inl q ↦ elim ((r.l_calm n (omega arith) q).apart k' o) [ ]
                | inr q ↦ (k, ap (ends_late k) w.x_cause, omega (arith, r.l_is))
              ];
              deadline_then = λ k' e. let e' : Overlap ≡ Deadline = sym w.x_cause ∙ (same_late k k' c Deadline e).1 in absurd (cc);
              deadline_if = λ k' n p e no. elim (cases_lt n r.l_slot) [
                | inl q ↦ elim ((r.l_calm n (omega arith) q).in_time k' e) [ ]
                | inr q ↦ let ne : r.l_slot ≡ n = omega (arith, r.l_is) in elim (no k (rw ne at here)) [ ]
              ];
            }
        | inr w ↦
            let here = tardy_here ds picks proper f r.l_slot r.l_state r.l_way r.l_know k c w in
            let first = tardy_first ds picks proper f r.l_slot r.l_state r.l_way r.l_know k c w in
            let apart = clear_apart ds picks proper f r.l_slot r.l_state r.l_way w.clear r.l_know in
            record {
              overlap_then = λ k' e. let e' : Deadline ≡ Overlap = sym w.t_cause ∙ (same_late k k' c Overlap e).1 in absurd (cc);
              overlap_if = λ k' n p o. elim (cases_lt n r.l_slot) [
                | inl q ↦ elim ((r.l_calm n (omega arith) q).apart k' o) [ ]
                | inr q ↦ let ne : n ≡ r.l_slot = omega (arith, r.l_is) in elim (apart k' (rw ne at o)) [ ]
              ];
              deadline_then = λ k' e. (r.l_slot, rw (sym (same_late k k' c Deadline e).0) (record { last = r.l_is; here = here; first = first }), apart);
              deadline_if = λ k' n p e no. elim (cases_lt n r.l_slot) [
                | inl q ↦ elim ((r.l_calm n (omega arith) q).in_time k' e) [ ]
                | inr q ↦ (k, ap (ends_late k) w.t_cause, omega (arith, r.l_is))
              ];
            }
      ]

pub lateness_stands : (ds : List TaskView) (picks : Picks) → Proper ds → LatenessLaw ds picks
lateness_stands ds picks proper ways trace end r = late_of ds picks proper trace end (told ds picks proper trace r).final
