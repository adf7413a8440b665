-- The task that a run picks. Assumes nothing.
use Rattle.std.proofs.Common.{◌≡◌, ℕ, zero, suc, ◌-◌, ◌<◌, ◌≤◌, true, false, ◌⊎◌, List, [], ◌∷◌, is_some, Some, None, Option, sym, refl, ◌∙◌, inl, inr, arith}
use Rattle.std.specs.List.{slice_get}
use Rattle.std.proofs.lemmas.Bool.{cases_order, both_ways}
use Rattle.dispatch.specs.declared.Seen.{Seen}
use Rattle.dispatch.specs.Picks.{Picks, job_at, has_job, by_priority, by_age, waited}
use Rattle.dispatch.specs.Order.{key_at, key_of, Before, Foremost}
use Rattle.dispatch.proofs.Foremost.{priority_first, age_first}
use Rattle.plans.specs.Tasks.{TaskView}
use Rattle.runs.specs.Dispatch.{AgeAsShown, SeenAsShown, last_runner, DispatchLaw, PriorityLaw, WaitingLaw}
use Rattle.runs.specs.Pending.{PendingIn}
use Rattle.runs.specs.Run.{arrives, Run, event_at, Proper, IsTask}
use Rattle.slot.specs.declared.event.Event.{Event}
use Rattle.runs.proofs.Response.{slot_of, clear_picked}
use Rattle.runs.proofs.Lateness.{crossed_here}

pub dispatch_stands : (ds : List TaskView) (picks : Picks) → Proper ds → DispatchLaw ds picks
dispatch_stands ds picks proper ways trace end r n p clear =
    let x = slot_of ds picks proper trace r n p in
    elim x.a_kind [
      | inl c ↦ clear_picked ds picks proper (event_at trace) n x.a_state x.a_way c x.a_know x.a_last
      | inr w ↦ elim (clear w.0 (crossed_here ds picks proper (event_at trace) n x.a_state x.a_way x.a_know w.0 w.1 w.2)) [ ]
    ]

job_nth : (ts : List Seen) (i : ℕ) (t : Seen) → slice_get ts i ≡ Some t → job_at ts i ≡ is_some t.age
job_nth [] i t h = absurd (cc)
job_nth (s ∷ ts) zero t h = let e : s ≡ t = cc in rw e refl
job_nth (s ∷ ts) (suc i) t h = job_nth ts i t h

nth_job : (ts : List Seen) (i : ℕ) → job_at ts i ≡ true → (t : Seen) × (slice_get ts i ≡ Some t)
nth_job [] i h = elim (both_ways false refl h) [ ]
nth_job (s ∷ ts) zero h = (s, refl)
nth_job (s ∷ ts) (suc i) h = nth_job ts i h

key_nth : (key : Seen → ℕ) (ts : List Seen) (i : ℕ) (t : Seen) → slice_get ts i ≡ Some t → key_at key ts i ≡ key t
key_nth key [] i t h = absurd (cc)
key_nth key (s ∷ ts) zero t h = let e : s ≡ t = cc in rw e refl
key_nth key (s ∷ ts) (suc i) t h = key_nth key ts i t h

has_nth : (ts : List Seen) (k : ℕ) → 1 ≤ k → has_job ts k ≡ job_at ts (k - 1)
has_nth ts zero h = absurd (omega arith)
has_nth ts (suc i) h = let e : suc i - 1 ≡ i = omega arith in rw e refl

has_some : (ts : List Seen) (k : ℕ) → has_job ts k ≡ true → 1 ≤ k
has_some ts zero h = elim (both_ways false refl h) [ ]
has_some ts (suc i) h = omega arith

module _ (ds : List TaskView) (f : ℕ → Event) (n : ℕ) (ts : List Seen) (seen-so : SeenAsShown ds f n ts) where
  one_since : (k a a' : ℕ) → PendingIn f k a n → PendingIn f k a' n → a ≡ a'
  one_since k a a' w w' =
      elim (cases_order a a') [
        | inl e ↦ e
        | inr c ↦ elim c [
          | inl p ↦ elim (both_ways (arrives (f a') k) (w.alone a' p w'.before) w'.came) [ ]
          | inr p ↦ elim (both_ways (arrives (f a) k) (w'.alone a p w.before) w.came) [ ]
        ]
      ]

  -- a task that waits, as the rule sees it
  record SeenTask (k : ℕ) (d : TaskView) : Type 0 where
    pub age : ℕ
    pub fits : age ≤ n
    pub ends_in : PendingIn f k (n - age) n
    pub is : slice_get ts (k - 1) ≡ Some (record { priority = d.priority; age = Some age })

  of_pending : (k : ℕ) (d : TaskView) → IsTask ds k d → (a : ℕ) → PendingIn f k a n → SeenTask k d
  of_pending k d t a w = let v = seen-so.seen_task k d t in go v.0 v.1 v.2
    where
      go : (o : Option ℕ) → slice_get ts (k - 1) ≡ Some (record { priority = d.priority; age = o }) → AgeAsShown f k n o → SeenTask k d
      go None e s = elim (s a w) [ ]
      go (Some x) e s = record { age = x; fits = s.0; ends_in = s.1; is = e }

  of_has : (k : ℕ) (d : TaskView) → IsTask ds k d → has_job ts k ≡ true → SeenTask k d
  of_has k d t h = let v = seen-so.seen_task k d t in go v.0 v.1 v.2
    where
      go : (o : Option ℕ) → slice_get ts (k - 1) ≡ Some (record { priority = d.priority; age = o }) → AgeAsShown f k n o → SeenTask k d
      go None e s =
          let q : job_at ts (k - 1) ≡ false = job_nth ts (k - 1) (record { priority = d.priority; age = None }) e in
          elim (both_ways (job_at ts (k - 1)) q (sym (has_nth ts k t.from_one) ∙ h)) [ ]
      go (Some x) e s = record { age = x; fits = s.0; ends_in = s.1; is = e }

  seen_has : (k : ℕ) (d : TaskView) → IsTask ds k d → SeenTask k d → has_job ts k ≡ true
  seen_has k d t s = has_nth ts k t.from_one ∙ job_nth ts (k - 1) _ s.is

  record Ahead (key : Seen → ℕ) (p k : ℕ) (d : TaskView) (a : ℕ) : Type 0 where
    pub task_view : TaskView
    pub task : IsTask ds p task_view
    pub theirs : SeenTask p task_view
    pub mine : SeenTask k d
    pub since_is : a ≡ n - mine.age
    pub order : (key (record { priority = d.priority; age = Some mine.age }) < key (record { priority = task_view.priority; age = Some theirs.age }))
        ⊎ ((key (record { priority = task_view.priority; age = Some theirs.age }) ≡ key (record { priority = d.priority; age = Some mine.age })) × (p ≤ k))

  ahead : (key : Seen → ℕ) (p : ℕ) → ((i : ℕ) → has_job ts i ≡ true → Foremost (Before (key_of key ts)) ts p) →
      (k : ℕ) (d : TaskView) (a : ℕ) → IsTask ds k d → PendingIn f k a n → Ahead key p k d a
  ahead key p fore k d a t w =
      let mine = of_pending k d t a w in
      let h = seen_has k d t mine in
      let fm = fore k h in
      let one = has_some ts p fm.has in
      let there = nth_job ts (p - 1) (sym (has_nth ts p one) ∙ fm.has) in
      let task_view = seen-so.only (p - 1) there.0 there.1 in
      let task : IsTask ds p task_view.0 = record { from_one = one; here = task_view.1 } in
      let theirs = of_has p task_view.0 task fm.has in
      let km = key_nth key ts (k - 1) _ mine.is in
      let kt = key_nth key ts (p - 1) _ theirs.is in
      record {
        task_view = task_view.0;
        task = task;
        theirs = theirs;
        mine = mine;
        since_is = one_since k a (n - mine.age) w mine.ends_in;
        order = elim (fm.before k h) [
          | inl q ↦ inl (omega (arith, km, kt, q))
          | inr q ↦ inr (sym kt ∙ q.0 ∙ km, q.1)
        ];
      }

pub priority_stands : (ds : List TaskView) (picks : Picks) → Proper ds → PriorityLaw ds picks
priority_stands ds picks proper is ways trace end r n p clear k d a t w =
    let r' : Run ds by_priority ways trace end = rw is at r in
    let x = dispatch_stands ds by_priority proper ways trace end r' n p clear in
    let y = ahead ds (event_at trace) n x.0 x.1 (λ s. s.priority) (by_priority x.0 (last_runner (event_at trace) n))
    (λ i h. (priority_first x.0 (last_runner (event_at trace) n)).first i h) k d a t w in
    let z : Ahead ds (event_at trace) n x.0 x.1 (λ s. s.priority) (event_at trace n).picked k d a = rw x.2 y in
    record { task_view = z.task_view; task = z.task; since = n - z.theirs.age; pending = z.theirs.ends_in; higher = z.order }

pub waiting_stands : (ds : List TaskView) (picks : Picks) → Proper ds → WaitingLaw ds picks
waiting_stands ds picks proper is ways trace end r n p clear k d a t w =
    let r' : Run ds by_age ways trace end = rw is at r in
    let x = dispatch_stands ds by_age proper ways trace end r' n p clear in
    let y = ahead ds (event_at trace) n x.0 x.1 waited (by_age x.0 (last_runner (event_at trace) n))
    (λ i h. (age_first x.0 (last_runner (event_at trace) n)).first i h) k d a t w in
    let z : Ahead ds (event_at trace) n x.0 x.1 waited (event_at trace n).picked k d a = rw x.2 y in
    record {
      task_view = z.task_view;
      task = z.task;
      since = n - z.theirs.age;
      pending = z.theirs.ends_in;
      older = elim z.order [
        | inl q ↦ inl (omega (arith, z.since_is, z.theirs.fits, z.mine.fits, q))
        | inr q ↦ inr (omega (arith, z.since_is, q.0), q.1)
      ];
    }
