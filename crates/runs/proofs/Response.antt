-- A whole run, slot by slot: responses, and what stands at its end. Assumes nothing.
use Rattle.std.proofs.Common.{◌≡◌, ℕ, suc, ◌+◌, ◌-◌, ◌<◌, ◌≤◌, true, false, cond, ◌⊎◌, List, [], ◌∷◌, length, replicate, is_some, Some, None, Option, sym, refl, ap, ◌∙◌, inl, inr, add-one, arith}
use Rattle.std.specs.List.{slice_get}
use Rattle.outcome.specs.declared.Ended.{Ended}
use Rattle.std.proofs.lemmas.Bool.{cases_eq, cases_lt}
use Rattle.std.proofs.lemmas.List.{get_or_past}
use Rattle.dispatch.specs.Picks.{Picks}
use Rattle.outcome.specs.declared.Cause.{Cause}
use Rattle.slot.specs.declared.state.Job.{Job}
use Rattle.slot.specs.declared.state.TaskState.{TaskState}
use Rattle.plans.specs.Tasks.{TaskView}
use Rattle.slot.specs.Slot.{StateView, runner_after, start_state}
use Rattle.slot.specs.Work.{sees, age_of, serve}
use Rattle.runs.specs.Dispatch.{SeenAsShown, last_runner}
use Rattle.runs.specs.Lateness.{JobAsShown, UnfinishedLaw, Overlaps, MissesDeadline}
use Rattle.runs.specs.Pending.{PendingBefore}
use Rattle.runs.specs.Response.{Responds, ResponseLaw}
use Rattle.runs.specs.Run.{is_picked, response, of_task, Ending, ends_in, ends_late, RunFrom, empty, last_late, way_then, Run, event_at, blank, Timed, Proper, IsTask}
use Rattle.slot.specs.Slot.{event}
use Rattle.slot.specs.declared.event.Event.{Event}
use Rattle.dispatch.specs.declared.Seen.{Seen}
use Rattle.runs.proofs.Outcomes.{come_to, chosen, stays, round, Clear, Onward, Crossed, Tardy, next_went, late_went}
use Rattle.runs.proofs.TaskSlots.{firsts_at, sees_at, sees_only}
use Rattle.runs.proofs.JobLife.{Lives, One, one_slot, none_pending, lives_young, age_as_shown}
use Rattle.runs.proofs.OneSlot.{DoesTask, does_task}

pub at_zero : (s : Event) (ss : List Event) (f : ℕ → Event) (n : ℕ) → event_at (s ∷ ss) (n - n) ≡ f n → s ≡ f n
at_zero s ss f n h = let z : n - n ≡ 0 = omega arith in rw z at h

pub at_suc : (s : Event) (ss : List Event) (f : ℕ → Event) (n i : ℕ) → n + 1 ≤ i → event_at (s ∷ ss) (i - n) ≡ f i → event_at ss (i - (n + 1)) ≡ f i
at_suc s ss f n i p h = let z : i - n ≡ suc (i - (n + 1)) = omega arith in rw z at h

module _ (ds : List TaskView) (picks : Picks) (proper : Proper ds) where
  abbrev pub timed_of : (k : ℕ) (d : TaskView) → IsTask ds k d → Timed d
  timed_of k d t = proper.timed (k - 1) d t.here

  -- each task stands before slot n as the trace before it shows
  abbrev pub Know : (ℕ → Event) → ℕ → StateView → Type 0
  Know f n m = (k : ℕ) (d : TaskView) (t : IsTask ds k d) → (s : TaskState) × (slice_get m.tasks (k - 1) ≡ Some s) × Lives f k d (timed_of k d t) n s.job

  abbrev pub Law : (ℕ → Event) → ℕ → Type 0
  Law f n = (k : ℕ) (d : TaskView) → IsTask ds k d → (x : ℕ) → response (f n) k ≡ Some x → Responds f k d n x

  module _ (f : ℕ → Event) (n : ℕ) (m : StateView) (way : ℕ) (c : Clear ds picks m way (f n)) (know : Know f n m) where
    pub did : (k : ℕ) (d : TaskView) (t : IsTask ds k d) → DoesTask ds picks k d t m way (f n) (know k d t).0
    did k d t = does_task ds picks k d t m way (f n) (know k d t).0 c (know k d t).1

    ones : (k : ℕ) (d : TaskView) (t : IsTask ds k d) →
        One f k d (timed_of k d t) n (serve (is_picked (f n) k) (stays ds picks m way) d (did k d t).mid).state.job (serve (is_picked (f n) k) (stays ds picks m way) d (did k d t).mid).late
    ones k d t =
        one_slot f k d (timed_of k d t) n (did k d t).mid.position (stays ds picks m way) (know k d t).0.job (did k d t).mid.job
        (did k d t).t_job (know k d t).2 (did k d t).t_fresh (did k d t).t_response

    pub clear_law : Law f n
    clear_law k d t = (ones k d t).law

    pub clear_know : (m' : StateView) → (round ds picks m way).late ≡ None → m'.tasks ≡ (round ds picks m way).tasks → Know f (n + 1) m'
    clear_know m' z e k d t = (
      (serve (is_picked (f n) k) (stays ds picks m way) d (did k d t).mid).state,
      rw e (did k d t).t_next,
      (ones k d t).onward ((did k d t).t_late z),
    )

    pub clear_expires : (k : ℕ) (d : TaskView) (t : IsTask ds k d) → (serve (is_picked (f n) k) (stays ds picks m way) d (did k d t).mid).late ≡ true →
        (a : ℕ) × PendingBefore f k a (n + 1) × (n + 1 ≡ a + d.deadline)
    clear_expires k d t h = (ones k d t).expires h

    pub clear_timely : (k : ℕ) → (e : MissesDeadline ds f k n) → (serve (is_picked (f n) k) (stays ds picks m way) e.e_view (did k e.e_view e.e_task).mid).late ≡ false → ⊥
    clear_timely k e h =
        let d = e.e_view in
        let t = e.e_task in
        lives_young f k d (timed_of k d t) n _ ((ones k d t).onward h) (e.e_since, e.e_pending, e.e_reached)

    pub clear_apart : (k : ℕ) → Overlaps ds f k n → ⊥
    clear_apart k o =
        let d = o.o_view in
        let t = o.o_task in
        let e : (know k d t).0.job ≡ None = (did k d t).t_fresh o.o_again in
        let l : Lives f k d (timed_of k d t) n None = rw e at (know k d t).2 in
        none_pending f k d (timed_of k d t) n o.o_since l o.o_pending

    pub clear_view : SeenAsShown ds f n (sees ds (come_to ds picks m way))
    clear_view = record {
      seen_task = λ k d t.
          let mid = (did k d t).mid in (
            age_of mid.job,
            sees_at ds (come_to ds picks m way) (k - 1) d mid t.here (did k d t).t_mid,
            age_as_shown f k d (timed_of k d t) n (know k d t).0.job mid.job (did k d t).t_job (know k d t).2 (did k d t).t_fresh,
          );
      only = sees_only ds (come_to ds picks m way);
    }

  -- what the rule saw in a slot
  abbrev pub Picked : (ℕ → Event) → ℕ → Type 0
  Picked f n = (ts : List Seen) × SeenAsShown ds f n ts × ((f n).picked ≡ picks ts (last_runner f n))

  pub clear_picked : (f : ℕ → Event) (n : ℕ) (m : StateView) (way : ℕ) → Clear ds picks m way (f n) → Know f n m → m.last ≡ last_runner f n → Picked f n
  clear_picked f n m way c know e =
      (sees ds (come_to ds picks m way), clear_view f n m way c know, c.c_picked ∙ ap (picks (sees ds (come_to ds picks m way))) e)

  last_next : (f : ℕ → Event) (n : ℕ) (m m' : StateView) (way : ℕ) → Onward ds picks m way (f n) m' → m'.last ≡ last_runner f (n + 1)
  last_next f n m m' way w =
      let z : n + 1 ≡ suc n = add-one n in
      rw (z, w.clear.c_picked, w.clear.c_ended) (w.last_is ∙ runner_is (chosen ds picks m way) (round ds picks m way).ended)
    where
      runner_is : (p : ℕ) (e : Option Ended) → runner_after p e ≡ cond (is_some e) 0 p
      runner_is p None = refl
      runner_is p (Some e) = refl

  -- the state and the way of a slot of a run
  pub record At (f : ℕ → Event) (i : ℕ) : Type 0 where
    pub a_state : StateView
    pub a_way : ℕ
    pub a_know : Know f i a_state
    pub a_last : a_state.last ≡ last_runner f i
    pub a_kind : Clear ds picks a_state a_way (f i) ⊎ ((k : ℕ) × (c : Cause) × Crossed ds picks a_state a_way (f i) k c)

  slots : {m : StateView} {ways : List ℕ} {trace : List Event} {end : Ending} → RunFrom ds picks m ways trace end →
      (f : ℕ → Event) (n : ℕ) → ((i : ℕ) → n ≤ i → i < n + length trace → event_at trace (i - n) ≡ f i) → Know f n m → m.last ≡ last_runner f n →
      (i : ℕ) → n ≤ i → i < n + length trace → At f i
  slots empty f n agree know la i p q = absurd (omega arith)
  slots (last_late {m = m} {way = way} {k = k} {c = c} {e = e} h) f n agree know la i p q =
      let here : event ds picks m way ≡ f n = at_zero (event ds picks m way) [] f n (agree n (omega arith) (omega arith)) in
      let ie : i ≡ n = omega arith in
      rw ie (record {
        a_state = m;
        a_way = way;
        a_know = know;
        a_last = la;
        a_kind =
            elim (late_went ds picks m way k c e h) [
              | inl w ↦ let w' : Crossed ds picks m way (f n) k c = rw here at w in inr (k, c, w')
              | inr w ↦ let w' : Tardy ds picks m way (f n) k c = rw here at w in inl w'.clear
            ];
      })
  slots (way_then {m = m} {m' = m'} {way = way} {e = e} {trace = trace} h g) f n agree know la i p q =
      let here : event ds picks m way ≡ f n = at_zero (event ds picks m way) trace f n (agree n (omega arith) (omega arith)) in
      let w : Onward ds picks m way (f n) m' = rw here at (next_went ds picks m way m' e h) in
      elim (cases_eq i n) [
        | inl ie ↦ rw ie (record { a_state = m; a_way = way; a_know = know; a_last = la; a_kind = inl w.clear })
        | inr ie ↦
            slots g f (n + 1) (λ i p q. at_suc (event ds picks m way) trace f n i p (agree i (omega arith) (omega arith)))
            (clear_know f n m way w.clear know m' w.timely w.tasks_are) (last_next f n m m' way w) i (omega arith) (omega arith)
      ]

  -- a slot in which nothing is late
  pub record Calm (f : ℕ → Event) (n : ℕ) : Type 0 where
    pub apart : (k : ℕ) → Overlaps ds f k n → ⊥
    pub in_time : (k : ℕ) → MissesDeadline ds f k n → ⊥

  abbrev pub CalmFrom : (ℕ → Event) → ℕ → ℕ → Type 0
  CalmFrom f n n' = (i : ℕ) → n ≤ i → i < n' → Calm f i

  pub record Ready (f : ℕ → Event) (n n' : ℕ) (m : StateView) : Type 0 where
    pub r_know : Know f n' m
    pub r_calm : CalmFrom f n n'

  pub record Last (f : ℕ → Event) (n n' : ℕ) (task : ℕ) (c : Cause) : Type 0 where
    pub l_slot : ℕ
    pub l_is : n' ≡ l_slot + 1
    pub l_calm : CalmFrom f n l_slot
    pub l_state : StateView
    pub l_way : ℕ
    pub l_know : Know f l_slot l_state
    pub l_late : Crossed ds picks l_state l_way (f l_slot) task c ⊎ Tardy ds picks l_state l_way (f l_slot) task c

  abbrev pub Final : (ℕ → Event) → ℕ → ℕ → Ending → Type 0
  Final f n n' (ends_in m) = Ready f n n' m
  Final f n n' (ends_late k c) = Last f n n' k c

  wider : (f : ℕ → Event) (n n' : ℕ) → Calm f n → CalmFrom f (n + 1) n' → CalmFrom f n n'
  wider f n n' c cs i p q = elim (cases_eq i n) [ inl e ↦ rw e c | inr e ↦ cs i (omega arith) q ]

  longer : (f : ℕ → Event) (n n' : ℕ) (end : Ending) → Calm f n → Final f (n + 1) n' end → Final f n n' end
  longer f n n' (ends_in m) c r = record { r_know = r.r_know; r_calm = wider f n n' c r.r_calm }
  longer f n n' (ends_late k x) c r = record {
    l_slot = r.l_slot;
    l_is = r.l_is;
    l_calm = wider f n r.l_slot c r.l_calm;
    l_state = r.l_state;
    l_way = r.l_way;
    l_know = r.l_know;
    l_late = r.l_late;
  }

  pub record Told (f : ℕ → Event) (n n' : ℕ) (end : Ending) : Type 0 where
    pub laws : (i : ℕ) → n ≤ i → i < n' → Law f i
    pub final : Final f n n' end

  still_young : (f : ℕ → Event) (n' n : ℕ) (m : StateView) → Know f n' m → n' ≡ n + 1 → (k : ℕ) → MissesDeadline ds f k n → ⊥
  still_young f n' n m know e k x =
      let know' : Know f (n + 1) m = rw e at know in
      let d = x.e_view in
      let t = x.e_task in
      lives_young f k d (timed_of k d t) n (know' k d t).0.job (know' k d t).2 (x.e_since, x.e_pending, x.e_reached)

  pub follow : {m : StateView} {ways : List ℕ} {trace : List Event} {end : Ending} → RunFrom ds picks m ways trace end →
      (f : ℕ → Event) (n : ℕ) → ((i : ℕ) → n ≤ i → i < n + length trace → event_at trace (i - n) ≡ f i) → Know f n m →
      Told f n (n + length trace) end
  follow empty f n agree know =
      let e : n ≡ n + 0 = omega arith in
      record { laws = λ i p q. absurd (omega arith); final = rw (sym e) (record { r_know = know; r_calm = λ i p q. absurd (omega arith) }) }
  follow (last_late {m = m} {way = way} {k = k} {c = c} {e = e} h) f n agree know =
      let here : event ds picks m way ≡ f n = at_zero (event ds picks m way) [] f n (agree n (omega arith) (omega arith)) in
      elim (late_went ds picks m way k c e h) [
        | inl w ↦
            let w' : Crossed ds picks m way (f n) k c = rw here at w in
            record {
              laws = λ i p q k' d t x r.
                  let ie : i ≡ n = omega arith in
                  let r' : of_task k' (f n).ended ≡ Some x = rw ie at r in
                  let r'' : None ≡ Some x = sym (ap (of_task k') w'.x_ended) ∙ r' in
                  absurd (cc);
              final = record { l_slot = n; l_is = refl; l_calm = λ i p q. absurd (omega arith); l_state = m; l_way = way; l_know = know; l_late = inl w' };
            }
        | inr w ↦
            let w' : Tardy ds picks m way (f n) k c = rw here at w in
            record {
              laws = λ i p q. let ie : i ≡ n = omega arith in rw ie (clear_law f n m way w'.clear know);
              final = record { l_slot = n; l_is = refl; l_calm = λ i p q. absurd (omega arith); l_state = m; l_way = way; l_know = know; l_late = inr w' };
            }
      ]
  follow (way_then {m = m} {m' = m'} {way = way} {e = e} {ways = ways} {trace = trace} {end = end} h g) f n agree know =
      let here : event ds picks m way ≡ f n = at_zero (event ds picks m way) trace f n (agree n (omega arith) (omega arith)) in
      let w : Onward ds picks m way (f n) m' = rw here at (next_went ds picks m way m' e h) in
      let know' = clear_know f n m way w.clear know m' w.timely w.tasks_are in
      let rest = follow g f (n + 1) (λ i p q. at_suc (event ds picks m way) trace f n i p (agree i (omega arith) (omega arith))) know' in
      let calm : Calm f n = record { apart = clear_apart f n m way w.clear know; in_time = still_young f (n + 1) n m' know' refl } in
      let ne : n + 1 + length trace ≡ n + suc (length trace) = omega arith in
      let rest' : Told f (n + 1) (n + suc (length trace)) end = rw ne at rest in
      record {
        laws = λ i p q. elim (cases_eq i n) [ inl ie ↦ rw ie (clear_law f n m way w.clear know) | inr ie ↦ rest'.laws i (omega arith) q ];
        final = longer f n (n + suc (length trace)) end calm rest'.final;
      }

  pub know_first : (f : ℕ → Event) → Know f 0 (start_state ds)
  know_first f k d t = (
    record { position = d.stream.first; job = None },
    firsts_at ds (replicate 8 (record { position = 0; job = None })) (k - 1) d proper.few t.here,
    record { closed = λ a p q. absurd (omega arith) },
  )

  pub slot_of : {ways : List ℕ} (trace : List Event) {end : Ending} → Run ds picks ways trace end → (i : ℕ) → i < length trace → At (event_at trace) i
  slot_of trace r i p =
      slots r (event_at trace) 0 (λ i u v. let z : i - 0 ≡ i = omega arith in ap (event_at trace) z) (know_first (event_at trace)) refl i (omega arith) (omega arith)

  pub told : {ways : List ℕ} (trace : List Event) {end : Ending} → Run ds picks ways trace end → Told (event_at trace) 0 (length trace) end
  told trace {end} r =
      let z : 0 + length trace ≡ length trace = omega arith in
      let t = follow r (event_at trace) 0 (λ i p q. let z : i - 0 ≡ i = omega arith in ap (event_at trace) z) (know_first (event_at trace)) in
      rw z at t

pub responses_stand : (ds : List TaskView) (picks : Picks) → Proper ds → ResponseLaw ds picks
responses_stand ds picks proper ways trace end r k d t n x h =
    elim (cases_lt n (length trace)) [
      | inl p ↦ (told ds picks proper trace r).laws n (omega arith) p k d t x h
      | inr p ↦
          let e : event_at trace n ≡ blank = get_or_past trace n blank p in
          let h' : None ≡ Some x = sym (ap (λ s. response s k) e) ∙ h in
          absurd (cc)
    ]

-- what stands at the end
job_as_shown : (f : ℕ → Event) (k : ℕ) (d : TaskView) (t : Timed d) (n : ℕ) (o : Option Job) → Lives f k d t n o → JobAsShown f k d n o
job_as_shown f k d t n None l = λ a. none_pending f k d t n a l
job_as_shown f k d t n (Some j) l = record {
  within = l.l_within;
  since = record { before = omega (arith, l.l_some, l.l_within); came = l.l_came; alone = l.l_alone; unended = l.l_unended };
  work = l.l_work;
  below = l.l_below;
  young = l.l_young;
}

pub unfinished_stands : (ds : List TaskView) (picks : Picks) → Proper ds → UnfinishedLaw ds picks
unfinished_stands ds picks proper ways trace m r k d t =
    let x = (told ds picks proper trace r).final.r_know k d t in
    (x.0, x.1, job_as_shown (event_at trace) k d (timed_of ds picks proper k d t) (length trace) x.0.job x.2)
