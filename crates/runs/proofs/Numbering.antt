-- Which ways are void. Assumes nothing.
use Rattle.std.proofs.Common.{◌≡◌, ℕ, ◌+◌, ◌-◌, ◌*◌, ◌/◌, ◌<◌, ◌≤◌, Bool, true, false, eqb, leb, ◌⊎◌, List, [], ◌∷◌, ◌++◌, length, Some, None, Option, sym, refl, ap, ◌∙◌, inl, inr, mod-eq_of_lt, arith, eqb-true, leb-false, leb-true}
use lib.Arith.{digits_div, digits_mod}
use Rattle.std.proofs.lemmas.Bool.{cases_Bool, both_ways}
use Rattle.std.proofs.lemmas.List.{get_or_append_left, get_or-append_right}
use Rattle.dispatch.specs.Picks.{Picks}
use Rattle.outcome.specs.declared.Cause.{Cause}
use Rattle.slot.specs.declared.state.Job.{Job}
use Rattle.slot.specs.declared.state.TaskState.{TaskState}
use Rattle.slot.specs.Arrivals.{choices, arrived, overlapping}
use Rattle.plans.specs.Tasks.{TaskView}
use Rattle.outcome.specs.declared.Outcome.{Outcome}
use Rattle.outcome.specs.declared.Outcome.TheVariants.{Void as void, Late as late, Next as next}
use Rattle.slot.specs.Slot.{StateView, slot}
use Rattle.slot.specs.Work.{sees, serve_all, serve, serve_job}
use Rattle.runs.proofs.Releases.{given}
use Rattle.runs.specs.Numbering.{Chooses, NumberingLaw}
use Rattle.runs.specs.Response.{executed}
use Rattle.runs.specs.Run.{arrives, is_picked, event_at, blank, Timed, Proper, IsTask}
use Rattle.slot.specs.Slot.{event}
use Rattle.slot.specs.declared.event.Event.{Event}
use Rattle.runs.proofs.Outcomes.{mix, come_to, chosen, stays, over, round, Clear, Crossed, next_went, late_went, not_void, not_void_stay, stay_pending, none_beyond}
use Rattle.runs.proofs.TaskSlots.{choose_at, choose_all, chooser}
use Rattle.runs.proofs.JobLife.{Mid, mid_of, executed_on, age_as_shown}
use Rattle.runs.proofs.Response.{timed_of, Know, did, follow, know_first}
use Rattle.runs.proofs.Work.{told_job}

-- a job that may choose
record May (picked : Bool) (d : TaskView) (o : Option Job) : Type 0 where
  pub y_picked : picked ≡ true
  pub y_job : Job
  pub y_is : o ≡ Some y_job
  pub y_best : d.best ≤ y_job.work + 1
  pub y_worst : y_job.work + 1 < d.worst

may : (picked stay : Bool) (d : TaskView) (p : ℕ) (o : Option Job) → (serve_job picked stay d p o).may_choose ≡ true → May picked d o
may picked stay d p None h = elim (both_ways false refl h) [ ]
may false stay d p (Some j) h = elim (both_ways false refl h) [ ]
may true stay d p (Some j) h =
    elim (cases_Bool (leb d.worst (j.work + 1))) [
      | inl y ↦ let h' : false ≡ true = rw y at h in elim (both_ways false refl h') [ ]
      | inr y ↦ elim (cases_Bool (leb d.best (j.work + 1))) [
        | inl z ↦ record { y_picked = refl; y_job = j; y_is = refl; y_best = leb-true d.best (j.work + 1) z; y_worst = leb-false d.worst (j.work + 1) y }
        | inr z ↦ let h' : false ≡ true = rw (y, z) at h in elim (both_ways false refl h') [ ]
      ]
    ]

executed_up : (f : ℕ → Event) (k : ℕ) (d : TaskView) (t : Timed d) (n : ℕ) (j : Job) → Mid f k d t n j → is_picked (f n) k ≡ true →
    executed f k (n - j.age) (n + 1 - (n - j.age)) ≡ j.work + 1
executed_up f k d t n j m r =
    let len : n + 1 - (n - j.age) ≡ j.age + 1 = omega (arith, m.within) in
    rw len (executed_on f k d t n j m ∙ rw r refl)

le_is : {a b c : ℕ} → a ≤ b → c ≡ b → a ≤ c
le_is h e = rw e h

lt_is : {a b c : ℕ} → b < a → c ≡ b → c < a
lt_is h e = rw e h

module _ (ds : List TaskView) (picks : Picks) (proper : Proper ds) (m : StateView) (w : ℕ) (bounded : w < choices ds m.tasks) where
  abbrev more : ℕ
  more = 1 * choices ds m.tasks + w

  mixes : mix ds picks m more ≡ mix ds picks m w
  mixes = digits_mod 1 bounded ∙ sym (mod-eq_of_lt bounded)

  asks : stays ds picks m more ≡ true
  asks = let e : more / choices ds m.tasks ≡ 1 = digits_div 1 bounded in ap (λ x. eqb x 1) e

  over_same : over ds picks m more ≡ over ds picks m w
  over_same = ap (λ a. overlapping 1 ds m.tasks a) mixes

  choose_same : (round ds picks m more).may_choose ≡ (round ds picks m w).may_choose
  choose_same =
      ap (λ a. (serve_all (picks (sees ds (arrived ds m.tasks a)) m.last) (stays ds picks m more) 1 ds (arrived ds m.tasks a)).may_choose) mixes
      ∙ choose_all ds (come_to ds picks m w) (chosen ds picks m w) (stays ds picks m more) (stays ds picks m w) 1

  module _ (f : ℕ → Event) (n : ℕ) (here : event ds picks m w ≡ f n) (know : Know ds picks proper f n m) where
    abbrev Kind : Type 0
    Kind = Clear ds picks m w (f n) ⊎ ((k : ℕ) × (c : Cause) × Crossed ds picks m w (f n) k c)

    kind_of : (r : Outcome StateView) → slot ds picks m w ≡ r → Kind
    kind_of void h = elim (not_void ds picks m w bounded h) [ ]
    kind_of (late k c e) h =
        elim (late_went ds picks m w k c e h) [
          | inl x ↦ let x' : Crossed ds picks m w (f n) k c = rw here at x in inr (k, c, x')
          | inr x ↦ let x' : Clear ds picks m w (f n) = rw here at x.clear in inl x'
        ]
    kind_of (next m' e) h = let x' : Clear ds picks m w (f n) = rw here at (next_went ds picks m w m' e h).clear in inl x'

    kind : Kind
    kind = kind_of (slot ds picks m w) refl

    pub may_stay : Chooses ds f n → slot ds picks m more ≡ void → ⊥
    may_stay ch = elim kind [
      | inl c ↦
          let k = ch.task in
          let d = ch.task_view in
          let t = ch.is_task in
          let x = did ds picks proper f n m w c know k d t in
          let st = stays ds picks m w in
          let j = told_job f k d (timed_of ds picks proper k d t) ch.since n x.mid.position st (know k d t).0.job x.mid.job
          x.t_job (know k d t).2 x.t_fresh ch.pending ch.picked ch.best ch.worst in
          let e : k ≡ 1 + (k - 1) = omega (arith, t.from_one) in
          let y : (serve (eqb k (chosen ds picks m w)) st d x.mid).may_choose ≡ true = rw c.c_picked at j.may in
          let all = choose_at ds (come_to ds picks m w) (chosen ds picks m w) st 1 (k - 1) k d x.mid e t.here x.t_mid y in
          not_void_stay ds picks m more (omega arith) (over_same ∙ c.no_overlap) (choose_same ∙ all)
      | inr c ↦
          let z : ch.task ≡ (f n).picked = eqb-true ch.task (f n).picked ch.picked in
          elim (let bad : ⊥ = omega (arith, z, c.2.x_picked, ch.is_task.from_one) in bad) [ ]
    ]

    pub stay_may : (slot ds picks m more ≡ void → ⊥) → Chooses ds f n
    stay_may o =
        let s = stay_pending ds picks m more asks o in
        elim kind [
          | inl c ↦
              let z = chooser ds (come_to ds picks m w) (chosen ds picks m w) (stays ds picks m w) 1 (sym choose_same ∙ s.1) in
              let k : ℕ = 1 + z.z_index in
              let ki : k - 1 ≡ z.z_index = omega arith in
              let d = z.z_view in
              let t : IsTask ds k d = record { from_one = omega arith; here = rw ki z.z_in_views } in
              let x = did ds picks proper f n m w c know k d t in
              let tm = timed_of ds picks proper k d t in
              let same_mid : z.z_state ≡ x.mid = same z.z_state x.mid (sym (rw ki z.z_in_tasks) ∙ x.t_mid) in
              let y : (serve (is_picked (f n) k) (stays ds picks m w) d x.mid).may_choose ≡ true = rw (c.c_picked, sym same_mid) z.z_may in
              let v = may (is_picked (f n) k) (stays ds picks m w) d x.mid.position x.mid.job y in
              let j = v.y_job in
              let e : Some j ≡ given (arrives (f n) k) (know k d t).0.job = sym v.y_is ∙ x.t_job in
              let sn = age_as_shown f k d tm n (know k d t).0.job (Some j) e (know k d t).2 x.t_fresh in
              let md = mid_of f k d tm n (know k d t).0.job j (know k d t).2 x.t_fresh (sym e) in
              let wk = executed_up f k d tm n j md v.y_picked in
              record {
                task = k;
                task_view = d;
                is_task = t;
                since = n - j.age;
                pending = sn.1;
                picked = v.y_picked;
                best = le_is v.y_best wk;
                worst = lt_is v.y_worst wk;
              }
          | inr c ↦
              let both : Some c.0 ≡ None = sym c.2.x_task ∙ sym over_same ∙ s.0 in absurd (cc)
        ]
      where
        same : (a b : TaskState) → Some a ≡ Some b → a ≡ b
        same a b h = cc

pub numbering_stands : (ds : List TaskView) (picks : Picks) → Proper ds → NumberingLaw ds picks
numbering_stands ds picks proper ways trace m r =
    let f : ℕ → ℕ → Event = λ w. event_at (trace ++ (event ds picks m w ∷ [])) in
    let know : (w : ℕ) → Know ds picks proper (f w) (length trace) m = λ w.
    let z : 0 + length trace ≡ length trace = omega arith in
    let t = follow ds picks proper r (f w) 0
    (λ i p q. let z' : i - 0 ≡ i = omega arith in ap (event_at trace) z' ∙ sym (get_or_append_left trace (event ds picks m w ∷ []) blank i (omega arith)))
    (know_first ds picks proper (f w)) in
    rw z at t.final.r_know in
    let here : (w : ℕ) → event ds picks m w ≡ f w (length trace) = λ w.
    let z : length trace - length trace ≡ 0 = omega arith in
    sym (get_or-append_right trace (event ds picks m w ∷ []) (length trace) (length trace) blank refl (omega arith) ∙ rw z refl) in
    record {
      plain = λ w h. not_void ds picks m w h;
      stay_if = λ w h c. may_stay ds picks proper m w h (f w) (length trace) (here w) (know w) c;
      stay_then = λ w h o. stay_may ds picks proper m w h (f w) (length trace) (here w) (know w) o;
      beyond = λ w h. none_beyond ds picks m w h;
    }
