-- A run that is built by wishes shows them. Assumes nothing.
use Rattle.std.proofs.Common.{◌≡◌, ℕ, ◌+◌, ◌-◌, ◌<◌, ◌≤◌, Bool, true, false, cond, eqb, leb, List, [], length, Some, None, Option, sym, refl, ap, ◌∙◌, inl, inr, arith, eqb-true, le-leb}
use Rattle.std.proofs.lemmas.Bool.{cases_eq, cases_order, both_ways, lt-leb}
use Rattle.dispatch.specs.Picks.{Picks}
use Rattle.slot.specs.declared.state.Job.{Job}
use Rattle.plans.specs.Tasks.{TaskView}
use Rattle.slot.specs.Slot.{StateView}
use Rattle.slot.specs.Work.{serve, serve_job}
use Rattle.runs.proofs.Releases.{given}
use Rattle.runs.specs.Pending.{PendingIn}
use Rattle.runs.specs.Response.{executed}
use Rattle.runs.specs.Run.{arrives, is_picked, response, Ending, RunFrom, empty, last_late, way_then, event_at, Timed, Proper}
use Rattle.runs.specs.Work.{Obeyed, ChoiceLaw, WorkLaw}
use Rattle.slot.specs.Slot.{event}
use Rattle.slot.specs.declared.event.Event.{Event}
use Rattle.runs.proofs.Outcomes.{come_to, chosen, stays, over, round, Clear, Onward, Crossed, Tardy, next_went, late_went}
use Rattle.runs.proofs.TaskSlots.{choose_at}
use Rattle.runs.proofs.JobLife.{Lives, mid_of, executed_on, age_as_shown}
use Rattle.runs.proofs.Response.{at_zero, at_suc, timed_of, Know, did, clear_know, know_first, slot_of}
use Rattle.runs.proofs.Arrivals.{Obeys, built, first_at}

-- a job that may choose does as it is told
choosing : (stay : Bool) (d : TaskView) (p : ℕ) (j : Job) → d.best ≤ j.work + 1 → j.work + 1 < d.worst →
    ((serve_job true stay d p (Some j)).may_choose ≡ true) × ((serve_job true stay d p (Some j)).response ≡ cond stay None (Some (j.age + 1)))
choosing true d p j h g =
    let y : leb d.worst (j.work + 1) ≡ false = lt-leb d.worst (j.work + 1) g in
    let z : leb d.best (j.work + 1) ≡ true = le-leb d.best (j.work + 1) h in
    (rw (y, z) refl, rw (y, z) refl)
choosing false d p j h g =
    let y : leb d.worst (j.work + 1) ≡ false = lt-leb d.worst (j.work + 1) g in
    let z : leb d.best (j.work + 1) ≡ true = le-leb d.best (j.work + 1) h in
    (rw (y, z) refl, rw (y, z) refl)

pub one_since : (f : ℕ → Event) (n k a a' : ℕ) → PendingIn f k a n → PendingIn f k a' n → a ≡ a'
one_since f n k a a' w w' =
    elim (cases_order a a') [
      | inl e ↦ e
      | inr c ↦ elim c [
        | inl p ↦ elim (both_ways (arrives (f a') k) (w.alone a' p w'.before) w'.came) [ ]
        | inr p ↦ elim (both_ways (arrives (f a) k) (w'.alone a p w.before) w.came) [ ]
      ]
    ]

pub record ToldJob (f : ℕ → Event) (k : ℕ) (d : TaskView) (a n p : ℕ) (stay : Bool) (o : Option Job) : Type 0 where
  pub may : (serve_job (is_picked (f n) k) stay d p o).may_choose ≡ true
  pub does : (serve_job (is_picked (f n) k) stay d p o).response ≡ cond stay None (Some (n + 1 - a))

pub told_job : (f : ℕ → Event) (k : ℕ) (d : TaskView) (t : Timed d) (a n p : ℕ) (stay : Bool) (o o' : Option Job) → o' ≡ given (arrives (f n) k) o → Lives f k d t n o →
    (arrives (f n) k ≡ true → o ≡ None) → PendingIn f k a n → is_picked (f n) k ≡ true →
    d.best ≤ executed f k a (n + 1 - a) → executed f k a (n + 1 - a) < d.worst → ToldJob f k d a n p stay o'
told_job f k d t a n p stay o None e l fr w r h g = elim (age_as_shown f k d t n o None e l fr a w) [ ]
told_job f k d t a n p stay o (Some j) e l fr w r h g =
    let m = mid_of f k d t n o j l fr (sym e) in
    let s = age_as_shown f k d t n o (Some j) e l fr in
    let ae : a ≡ n - j.age = one_since f n k a (n - j.age) w s.1 in
    let len : n + 1 - a ≡ j.age + 1 = omega (arith, ae, s.0) in
    let wk : executed f k a (n + 1 - a) ≡ j.work + 1 = rw (len, ae) (executed_on f k d t n j m ∙ rw r refl) in
    let c = choosing stay d p j (omega arith) (omega arith) in
    record { may = rw r c.0; does = rw (r, len) c.1 }

module _ (ds : List TaskView) (picks : Picks) (proper : Proper ds) where
  clear_obeyed : (f : ℕ → Event) (n : ℕ) (m : StateView) (way : ℕ) (wish : Bool) → Clear ds picks m way (f n) → Know ds picks proper f n m →
      (over ds picks m way ≡ None → (round ds picks m way).may_choose ≡ true → stays ds picks m way ≡ wish) → Obeyed ds f wish n
  clear_obeyed f n m way wish c know ob k d a t w r h g =
      let x = did ds picks proper f n m way c know k d t in
      let st = stays ds picks m way in
      let j = told_job f k d (timed_of ds picks proper k d t) a n x.mid.position st (know k d t).0.job x.mid.job
      x.t_job (know k d t).2 x.t_fresh w r h g in
      let e : k ≡ 1 + (k - 1) = omega (arith, t.from_one) in
      let may : (serve (eqb k (chosen ds picks m way)) st d x.mid).may_choose ≡ true = rw c.c_picked at j.may in
      let all = choose_at ds (come_to ds picks m way) (chosen ds picks m way) st 1 (k - 1) k d x.mid e t.here x.t_mid may in
      let so : st ≡ wish = ob c.no_overlap all in
      let resp : response (f n) k ≡ cond wish None (Some (n + 1 - a)) = x.t_response ∙ j.does ∙ ap (λ b. cond b None (Some (n + 1 - a))) so in
      ((λ y. resp ∙ ap (λ b. cond b None (Some (n + 1 - a))) y), (λ y. resp ∙ ap (λ b. cond b None (Some (n + 1 - a))) y))

  pub obeyed : {m : StateView} {ways : List ℕ} {trace : List Event} {end : Ending} → RunFrom ds picks m ways trace end →
      (f : ℕ → Event) (wish : ℕ → Bool) (n : ℕ) → ((i : ℕ) → n ≤ i → i < n + length trace → event_at trace (i - n) ≡ f i) → Know ds picks proper f n m →
      Obeys ds picks wish n m ways → (i : ℕ) → n ≤ i → i < n + length trace → Obeyed ds f (wish i) i
  obeyed empty f wish n agree know ob i p q = absurd (omega arith)
  obeyed (last_late {m = m} {way = way} {k = k} {c = c} {e = e} h) f wish n agree know ob i p q =
      let here : event ds picks m way ≡ f n = at_zero (event ds picks m way) [] f n (agree n (omega arith) (omega arith)) in
      let ie : i ≡ n = omega arith in
      elim (late_went ds picks m way k c e h) [
        | inl w ↦ let w' : Crossed ds picks m way (f n) k c = rw here at w in
            rw ie (λ k' d a t ww r u v. let z : k' ≡ (f n).picked = eqb-true k' (f n).picked r in
            elim (let bad : ⊥ = omega (arith, z, w'.x_picked, t.from_one) in bad) [ ])
        | inr w ↦ let w' : Tardy ds picks m way (f n) k c = rw here at w in rw ie (clear_obeyed f n m way (wish n) w'.clear know ob.0)
      ]
  obeyed (way_then {m = m} {m' = m'} {way = way} {e = e} {trace = trace} h g) f wish n agree know ob i p q =
      let here : event ds picks m way ≡ f n = at_zero (event ds picks m way) trace f n (agree n (omega arith) (omega arith)) in
      let w : Onward ds picks m way (f n) m' = rw here at (next_went ds picks m way m' e h) in
      elim (cases_eq i n) [
        | inl ie ↦ rw ie (clear_obeyed f n m way (wish n) w.clear know ob.0)
        | inr ie ↦
            obeyed g f wish (n + 1) (λ i p q. at_suc (event ds picks m way) trace f n i p (agree i (omega arith) (omega arith)))
            (clear_know ds picks proper f n m way w.clear know m' w.timely w.tasks_are) (ob.1 m' e h) i (omega arith) (omega arith)
      ]

pub choice_stands : (ds : List TaskView) (picks : Picks) → Proper ds → ChoiceLaw ds picks
choice_stands ds picks proper choice wish n pre =
    let b = built ds picks choice wish n proper pre in
    record {
      ways = b.b_ways;
      trace = b.b_trace;
      end = b.b_end;
      run = b.b_goes;
      shows = λ k d t. b.b_shows k d t (record { position = d.stream.first; job = None }) (first_at ds picks proper k d t);
      obeys = λ i p. obeyed ds picks proper b.b_goes (event_at b.b_trace) wish 0 (λ i u v. let z : i - 0 ≡ i = omega arith in ap (event_at b.b_trace) z)
          (know_first ds picks proper (event_at b.b_trace)) b.b_obeys i (omega arith) (omega arith);
      long = b.b_long;
    }

-- what must be
bounded : (f : ℕ → Event) (k : ℕ) (d : TaskView) (t : Timed d) (a n p : ℕ) (stay : Bool) (o o' : Option Job) → o' ≡ given (arrives (f n) k) o → Lives f k d t n o →
    (arrives (f n) k ≡ true → o ≡ None) → PendingIn f k a n → is_picked (f n) k ≡ true →
    (d.worst ≤ executed f k a (n + 1 - a) → (serve_job (is_picked (f n) k) stay d p o').response ≡ Some (n + 1 - a))
    × (executed f k a (n + 1 - a) < d.best → (serve_job (is_picked (f n) k) stay d p o').response ≡ None)
bounded f k d t a n p stay o None e l fr w r = elim (age_as_shown f k d t n o None e l fr a w) [ ]
bounded f k d t a n p stay o (Some j) e l fr w r =
    let m = mid_of f k d t n o j l fr (sym e) in
    let s = age_as_shown f k d t n o (Some j) e l fr in
    let ae : a ≡ n - j.age = one_since f n k a (n - j.age) w s.1 in
    let len : n + 1 - a ≡ j.age + 1 = omega (arith, ae, s.0) in
    let wk : executed f k a (n + 1 - a) ≡ j.work + 1 = rw (len, ae) (executed_on f k d t n j m ∙ rw r refl) in (
      λ h.
          let y : leb d.worst (j.work + 1) ≡ true = le-leb d.worst (j.work + 1) (omega arith) in
          rw (r, len, y) refl,
      λ h.
          let y : leb d.worst (j.work + 1) ≡ false = lt-leb d.worst (j.work + 1) (omega (arith, t.order)) in
          let z : leb d.best (j.work + 1) ≡ false = lt-leb d.best (j.work + 1) (omega arith) in
          rw (r, y, z) refl,
    )

pub work_stands : (ds : List TaskView) (picks : Picks) → Proper ds → WorkLaw ds picks
work_stands ds picks proper ways trace end r n p =
    let x = slot_of ds picks proper trace r n p in
    let f = event_at trace in
    elim x.a_kind [
      | inl c ↦ record {
        ends = λ k d a t w u h.
            let y = did ds picks proper f n x.a_state x.a_way c x.a_know k d t in
            y.t_response ∙ (bounded f k d (timed_of ds picks proper k d t) a n y.mid.position (stays ds picks x.a_state x.a_way) (x.a_know k d t).0.job y.mid.job
            y.t_job (x.a_know k d t).2 y.t_fresh w u).0 h;
        stays = λ k d a t w u h.
            let y = did ds picks proper f n x.a_state x.a_way c x.a_know k d t in
            y.t_response ∙ (bounded f k d (timed_of ds picks proper k d t) a n y.mid.position (stays ds picks x.a_state x.a_way) (x.a_know k d t).0.job y.mid.job
            y.t_job (x.a_know k d t).2 y.t_fresh w u).1 h;
      }
      | inr w ↦
          let idle : (k : ℕ) → 1 ≤ k → is_picked (f n) k ≡ true → ⊥ = λ k h u.
          let z : k ≡ (f n).picked = eqb-true k (f n).picked u in omega (arith, z, w.2.x_picked) in
          record {
            ends = λ k d a t v u h. elim (idle k t.from_one u) [ ];
            stays = λ k d a t v u h. elim (idle k t.from_one u) [ ];
          }
    ]
