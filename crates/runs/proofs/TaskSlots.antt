-- What a slot does with the task at an index. Assumes nothing.
use Rattle.std.proofs.Common.{◌≡◌, ℕ, zero, suc, ◌+◌, ◌%◌, ◌<◌, ◌≤◌, Bool, true, false, eqb, leb, List, [], ◌∷◌, length, get_or, is_some, Some, None, Option, sym, refl, ap, ◌∙◌, inl, inr, arith, eq-eqb, ne_eqb, eqb-true}
use Rattle.std.specs.List.{slice_get}
use Rattle.std.proofs.lemmas.Bool.{cases_Bool, and_parts, both_ways}
use Rattle.outcome.specs.declared.Ended.{Ended}
use Rattle.slot.specs.declared.state.Job.{Job}
use Rattle.slot.specs.declared.state.TaskState.{TaskState}
use Rattle.slot.specs.Arrivals.{come, arrived, overlapping}
use Rattle.plans.specs.Tasks.{TaskView}
use Rattle.dispatch.specs.declared.Seen.{Seen}
use Rattle.slot.specs.Slot.{firsts}
use Rattle.slot.specs.Work.{sees, age_of, serve, serve_job, serve_all, ended_by}
use Rattle.runs.proofs.Releases.{given, overlap_is, arrives_is}
use Rattle.runs.specs.Run.{of_task}
use Rattle.slot.specs.Arrivals.{arrivals_in, overlaps}

pub record ArrivedAt (d : TaskView) (s : TaskState) (ds : List TaskView) (ss : List TaskState) (a i : ℕ) : Type 0 where
  pub part : ℕ
  pub after : TaskState
  pub a_nth : slice_get (arrived ds ss a) i ≡ Some after
  pub a_position : after.position ≡ (d.stream.answer s.position (part % d.stream.ways s.position)).1
  pub a_shows : get_or (arrivals_in ds ss a) i false ≡ (d.stream.answer s.position (part % d.stream.ways s.position)).0
  pub a_job : after.job ≡ given (get_or (arrivals_in ds ss a) i false) s.job

pub arrived_at : (ds : List TaskView) (ss : List TaskState) (a i : ℕ) (d : TaskView) (s : TaskState) → slice_get ds i ≡ Some d → slice_get ss i ≡ Some s → ArrivedAt d s ds ss a i
arrived_at [] ss a i d s hd hs = absurd (cc)
arrived_at (e ∷ ds) [] a i d s hd hs = absurd (cc)
arrived_at (e ∷ ds) (t ∷ ss) a zero d s hd hs =
    let de : e ≡ d = cc in
    let se : t ≡ s = cc in
    let shows = arrives_is (e.stream.answer t.position (a % e.stream.ways t.position)).0 t.job in
    rw (sym de, sym se) (record { part = a; after = (come e t a).state; a_nth = refl; a_position = refl; a_shows = shows; a_job = ap (λ b. given b t.job) (sym shows) })
arrived_at (e ∷ ds) (t ∷ ss) a (suc i) d s hd hs =
    let r = arrived_at ds ss (come e t a).left i d s hd hs in
    record { part = r.part; after = r.after; a_nth = r.a_nth; a_position = r.a_position; a_shows = r.a_shows; a_job = r.a_job }

none_is : (o : Option Job) → is_some o ≡ false → o ≡ None
none_is None h = refl
none_is (Some j) h = absurd (cc)

-- with no overlap, an arrival finds no job
pub alone_at : (ds : List TaskView) (ss : List TaskState) (n a i : ℕ) (d : TaskView) (s : TaskState) → overlapping n ds ss a ≡ None →
    slice_get ds i ≡ Some d → slice_get ss i ≡ Some s → get_or (arrivals_in ds ss a) i false ≡ true → s.job ≡ None
alone_at [] ss n a i d s ho hd hs b = absurd (cc)
alone_at (e ∷ ds) [] n a i d s ho hd hs b = absurd (cc)
alone_at (e ∷ ds) (t ∷ ss) n a zero d s ho hd hs b =
    let came = (e.stream.answer t.position (a % e.stream.ways t.position)).0 in
    elim (cases_Bool (overlaps (come e t a).release)) [
      | inl y ↦ let z : Some n ≡ None = rw y at ho in absurd (cc)
      | inr y ↦
          let b' : came ≡ true = sym (arrives_is came t.job) ∙ b in
          let y' = sym (overlap_is came t.job) ∙ y in
          let q : is_some t.job ≡ false = rw b' at y' in
          let se : t ≡ s = cc in
          rw (sym se) (none_is t.job q)
    ]
alone_at (e ∷ ds) (t ∷ ss) n a (suc i) d s ho hd hs b =
    elim (cases_Bool (overlaps (come e t a).release)) [
      | inl y ↦ let z : Some n ≡ None = rw y at ho in absurd (cc)
      | inr y ↦
          let ho' : overlapping (n + 1) ds ss (come e t a).left ≡ None = rw y at ho in
          alone_at ds ss (n + 1) (come e t a).left i d s ho' hd hs b
    ]

pub serve_all_at : (ds : List TaskView) (ss : List TaskState) (pick : ℕ) (stay : Bool) (n i k : ℕ) (d : TaskView) (s : TaskState) → k ≡ n + i →
    slice_get ds i ≡ Some d → slice_get ss i ≡ Some s → slice_get (serve_all pick stay n ds ss).tasks i ≡ Some (serve (eqb k pick) stay d s).state
serve_all_at [] ss pick stay n i k d s hk hd hs = absurd (cc)
serve_all_at (e ∷ ds) [] pick stay n i k d s hk hd hs = absurd (cc)
serve_all_at (e ∷ ds) (t ∷ ss) pick stay n zero k d s hk hd hs =
    let ke : k ≡ n = omega arith in
    let de : e ≡ d = cc in
    let se : t ≡ s = cc in
    rw (ke, sym de, sym se) refl
serve_all_at (e ∷ ds) (t ∷ ss) pick stay n (suc i) k d s hk hd hs = serve_all_at ds ss pick stay (n + 1) i k d s (omega arith) hd hs

idle_response : (stay : Bool) (d : TaskView) (p : ℕ) (o : Option Job) → (serve_job false stay d p o).response ≡ None
idle_response stay d p None = refl
idle_response stay d p (Some j) = refl

of_other : (n k : ℕ) (r : Option ℕ) (e : Option Ended) → (n ≡ k → ⊥) → of_task k e ≡ None → of_task k (ended_by n r e) ≡ None
of_other n k None e h q = q
of_other n k (Some x) e h q = rw (ne_eqb n k h) refl

of_self : (n : ℕ) (r : Option ℕ) (e : Option Ended) → of_task n e ≡ None → of_task n (ended_by n r e) ≡ r
of_self n None e q = q
of_self n (Some x) e q = rw (eq-eqb n n refl) refl

ended_below : (ds : List TaskView) (ss : List TaskState) (pick : ℕ) (stay : Bool) (n k : ℕ) → k < n → of_task k (serve_all pick stay n ds ss).ended ≡ None
ended_below [] ss pick stay n k h = refl
ended_below (e ∷ ds) [] pick stay n k h = refl
ended_below (e ∷ ds) (t ∷ ss) pick stay n k h =
    of_other n k (serve (eqb n pick) stay e t).response (serve_all pick stay (n + 1) ds ss).ended (λ q. omega arith) (ended_below ds ss pick stay (n + 1) k (omega arith))

-- a task that does not respond passes the word on
of_silent : (n k : ℕ) (r : Option ℕ) (e : Option Ended) → r ≡ None → of_task k (ended_by n r e) ≡ of_task k e
of_silent n k r e h = rw h refl

pub ended_at : (ds : List TaskView) (ss : List TaskState) (pick : ℕ) (stay : Bool) (n i k : ℕ) (d : TaskView) (s : TaskState) → k ≡ n + i →
    slice_get ds i ≡ Some d → slice_get ss i ≡ Some s → of_task k (serve_all pick stay n ds ss).ended ≡ (serve (eqb k pick) stay d s).response
ended_at [] ss pick stay n i k d s hk hd hs = absurd (cc)
ended_at (e ∷ ds) [] pick stay n i k d s hk hd hs = absurd (cc)
ended_at (e ∷ ds) (t ∷ ss) pick stay n zero k d s hk hd hs =
    let ke : k ≡ n = omega arith in
    let de : e ≡ d = cc in
    let se : t ≡ s = cc in
    rw (ke, sym de, sym se) (of_self n (serve (eqb n pick) stay e t).response (serve_all pick stay (n + 1) ds ss).ended (ended_below ds ss pick stay (n + 1) n (omega arith)))
ended_at (e ∷ ds) (t ∷ ss) pick stay n (suc i) k d s hk hd hs =
    let ih = ended_at ds ss pick stay (n + 1) i k d s (omega arith) hd hs in
    elim (cases_Bool (eqb n pick)) [
      | inl y ↦
          let q : eqb k pick ≡ false = ne_eqb k pick (λ z. omega (arith, eqb-true n pick y)) in
          let none : (serve (eqb k pick) stay d s).response ≡ None = rw q (idle_response stay d s.position s.job) in
          of_other n k (serve (eqb n pick) stay e t).response (serve_all pick stay (n + 1) ds ss).ended (λ z. omega arith) (ih ∙ none) ∙ sym none
      | inr y ↦
          of_silent n k (serve (eqb n pick) stay e t).response (serve_all pick stay (n + 1) ds ss).ended (rw y (idle_response stay e t.position t.job)) ∙ ih
    ]

pub timely_at : (ds : List TaskView) (ss : List TaskState) (pick : ℕ) (stay : Bool) (n i k : ℕ) (d : TaskView) (s : TaskState) → k ≡ n + i →
    slice_get ds i ≡ Some d → slice_get ss i ≡ Some s → (serve_all pick stay n ds ss).late ≡ None → (serve (eqb k pick) stay d s).late ≡ false
timely_at [] ss pick stay n i k d s hk hd hs h = absurd (cc)
timely_at (e ∷ ds) [] pick stay n i k d s hk hd hs h = absurd (cc)
timely_at (e ∷ ds) (t ∷ ss) pick stay n zero k d s hk hd hs h =
    let ke : k ≡ n = omega arith in
    let de : e ≡ d = cc in
    let se : t ≡ s = cc in
    elim (cases_Bool (serve (eqb n pick) stay e t).late) [
      | inl y ↦ let z : Some n ≡ None = rw y at h in absurd (cc)
      | inr y ↦ rw (ke, sym de, sym se) y
    ]
timely_at (e ∷ ds) (t ∷ ss) pick stay n (suc i) k d s hk hd hs h =
    elim (cases_Bool (serve (eqb n pick) stay e t).late) [
      | inl y ↦ let z : Some n ≡ None = rw y at h in absurd (cc)
      | inr y ↦ let h' : (serve_all pick stay (n + 1) ds ss).late ≡ None = rw y at h in timely_at ds ss pick stay (n + 1) i k d s (omega arith) hd hs h'
    ]

pub firsts_at : (ds : List TaskView) (ss : List TaskState) (i : ℕ) (d : TaskView) → length ds ≤ length ss → slice_get ds i ≡ Some d →
    slice_get (firsts ds ss) i ≡ Some (record { position = d.stream.first; job = None })
firsts_at [] ss i d h hd = absurd (cc)
firsts_at (e ∷ ds) [] i d h hd = absurd (omega arith)
firsts_at (e ∷ ds) (t ∷ ss) zero d h hd = let de : e ≡ d = cc in rw (sym de) refl
firsts_at (e ∷ ds) (t ∷ ss) (suc i) d h hd = firsts_at ds ss i d (omega arith) hd

some_is : (o : Option Job) → is_some o ≡ true → o ≡ None → ⊥
some_is None h e = cc
some_is (Some j) h e = cc

-- the first task whose arrival overlaps
pub record Crossing (ds : List TaskView) (ss : List TaskState) (n a k : ℕ) : Type 0 where
  pub x_index : ℕ
  pub x_number : k ≡ n + x_index
  pub x_view : TaskView
  pub x_state : TaskState
  pub x_in_views : slice_get ds x_index ≡ Some x_view
  pub x_in_tasks : slice_get ss x_index ≡ Some x_state
  pub x_arrives : get_or (arrivals_in ds ss a) x_index false ≡ true
  pub x_has : x_state.job ≡ None → ⊥
  pub x_first : (i : ℕ) (d : TaskView) (s : TaskState) → i < x_index → slice_get ds i ≡ Some d → slice_get ss i ≡ Some s → get_or (arrivals_in ds ss a) i false ≡ true → s.job ≡ None

pub crossing : (ds : List TaskView) (ss : List TaskState) (n a k : ℕ) → overlapping n ds ss a ≡ Some k → Crossing ds ss n a k
crossing [] ss n a k h = absurd (cc)
crossing (e ∷ ds) [] n a k h = absurd (cc)
crossing (e ∷ ds) (t ∷ ss) n a k h =
    let came = (e.stream.answer t.position (a % e.stream.ways t.position)).0 in
    elim (cases_Bool (overlaps (come e t a).release)) [
      | inl y ↦
          let q' : Some n ≡ Some k = rw y at h in
          let q : n ≡ k = cc in
          let b = and_parts came (is_some t.job) (sym (overlap_is came t.job) ∙ y) in
          record {
            x_index = 0;
            x_number = omega arith;
            x_view = e;
            x_state = t;
            x_in_views = refl;
            x_in_tasks = refl;
            x_arrives = arrives_is came t.job ∙ b.0;
            x_has = some_is t.job b.1;
            x_first = λ i d s p. absurd (omega arith);
          }
      | inr y ↦
          let h' : overlapping (n + 1) ds ss (come e t a).left ≡ Some k = rw y at h in
          let r = crossing ds ss (n + 1) (come e t a).left k h' in
          record {
            x_index = suc r.x_index;
            x_number = omega (arith, r.x_number);
            x_view = r.x_view;
            x_state = r.x_state;
            x_in_views = r.x_in_views;
            x_in_tasks = r.x_in_tasks;
            x_arrives = r.x_arrives;
            x_has = r.x_has;
            x_first = elim [
              | zero ↦ λ d s p hd hs b.
                  let b' : came ≡ true = sym (arrives_is came t.job) ∙ b in
                  let y' = sym (overlap_is came t.job) ∙ y in
                  let q : is_some t.job ≡ false = rw b' at y' in
                  let se : t ≡ s = cc in
                  rw (sym se) (none_is t.job q)
              | suc i ↦ λ d s p hd hs b. r.x_first i d s (omega arith) hd hs b
            ];
          }
    ]

-- the first task that is late
pub record StayingJob (ds : List TaskView) (ss : List TaskState) (pick : ℕ) (stay : Bool) (n k : ℕ) : Type 0 where
  pub y_index : ℕ
  pub y_number : k ≡ n + y_index
  pub y_view : TaskView
  pub y_state : TaskState
  pub y_in_views : slice_get ds y_index ≡ Some y_view
  pub y_in_tasks : slice_get ss y_index ≡ Some y_state
  pub y_late : (serve (eqb k pick) stay y_view y_state).late ≡ true
  pub y_first : (i j : ℕ) (d : TaskView) (s : TaskState) → i < y_index → j ≡ n + i → slice_get ds i ≡ Some d → slice_get ss i ≡ Some s → (serve (eqb j pick) stay d s).late ≡ false

pub staying_job : (ds : List TaskView) (ss : List TaskState) (pick : ℕ) (stay : Bool) (n k : ℕ) → (serve_all pick stay n ds ss).late ≡ Some k → StayingJob ds ss pick stay n k
staying_job [] ss pick stay n k h = absurd (cc)
staying_job (e ∷ ds) [] pick stay n k h = absurd (cc)
staying_job (e ∷ ds) (t ∷ ss) pick stay n k h =
    elim (cases_Bool (serve (eqb n pick) stay e t).late) [
      | inl y ↦
          let q' : Some n ≡ Some k = rw y at h in
          let q : n ≡ k = cc in
          record {
            y_index = 0;
            y_number = omega arith;
            y_view = e;
            y_state = t;
            y_in_views = refl;
            y_in_tasks = refl;
            y_late = rw (sym q) y;
            y_first = λ i j d s p. absurd (omega arith);
          }
      | inr y ↦
          let h' : (serve_all pick stay (n + 1) ds ss).late ≡ Some k = rw y at h in
          let r = staying_job ds ss pick stay (n + 1) k h' in
          record {
            y_index = suc r.y_index;
            y_number = omega (arith, r.y_number);
            y_view = r.y_view;
            y_state = r.y_state;
            y_in_views = r.y_in_views;
            y_in_tasks = r.y_in_tasks;
            y_late = r.y_late;
            y_first = elim [
              | zero ↦ λ j d s p hj hd hs.
                  let je : j ≡ n = omega arith in
                  let de : e ≡ d = cc in
                  let se : t ≡ s = cc in
                  rw (je, sym de, sym se) y
              | suc i ↦ λ j d s p hj hd hs. r.y_first i j d s (omega arith) (omega arith) hd hs
            ];
          }
    ]

pub sees_at : (ds : List TaskView) (ss : List TaskState) (i : ℕ) (d : TaskView) (s : TaskState) → slice_get ds i ≡ Some d → slice_get ss i ≡ Some s →
    slice_get (sees ds ss) i ≡ Some (record { priority = d.priority; age = age_of s.job })
sees_at [] ss i d s hd hs = absurd (cc)
sees_at (e ∷ ds) [] i d s hd hs = absurd (cc)
sees_at (e ∷ ds) (t ∷ ss) zero d s hd hs =
    let de : e ≡ d = cc in
    let se : t ≡ s = cc in
    rw (sym de, sym se) refl
sees_at (e ∷ ds) (t ∷ ss) (suc i) d s hd hs = sees_at ds ss i d s hd hs

pub sees_only : (ds : List TaskView) (ss : List TaskState) (i : ℕ) (t : Seen) → slice_get (sees ds ss) i ≡ Some t → (d : TaskView) × (slice_get ds i ≡ Some d)
sees_only [] ss i t h = absurd (cc)
sees_only (e ∷ ds) [] i t h = absurd (cc)
sees_only (e ∷ ds) (s ∷ ss) zero t h = (e, refl)
sees_only (e ∷ ds) (s ∷ ss) (suc i) t h = sees_only ds ss i t h

-- whether a job may choose does not hang on the choice
choose_same : (picked a b : Bool) (d : TaskView) (p : ℕ) (o : Option Job) → (serve_job picked a d p o).may_choose ≡ (serve_job picked b d p o).may_choose
choose_same picked a b d p None = refl
choose_same false a b d p (Some j) = refl
choose_same true a b d p (Some j) =
    elim (cases_Bool (leb d.worst (j.work + 1))) [
      | inl y ↦ rw y refl
      | inr y ↦ elim (cases_Bool (leb d.best (j.work + 1))) [
        | inl z ↦ elim (cases_Bool a) [
          | inl u ↦ elim (cases_Bool b) [ inl v ↦ rw (y, z, u, v) refl | inr v ↦ rw (y, z, u, v) refl ]
          | inr u ↦ elim (cases_Bool b) [ inl v ↦ rw (y, z, u, v) refl | inr v ↦ rw (y, z, u, v) refl ]
        ]
        | inr z ↦ rw (y, z) refl
      ]
    ]

pub choose_all : (ds : List TaskView) (ss : List TaskState) (pick : ℕ) (a b : Bool) (n : ℕ) → (serve_all pick a n ds ss).may_choose ≡ (serve_all pick b n ds ss).may_choose
choose_all [] ss pick a b n = refl
choose_all (e ∷ ds) [] pick a b n = refl
choose_all (e ∷ ds) (t ∷ ss) pick a b n =
    rw (choose_same (eqb n pick) a b e t.position t.job, choose_all ds ss pick a b (n + 1)) refl

pub choose_at : (ds : List TaskView) (ss : List TaskState) (pick : ℕ) (stay : Bool) (n i k : ℕ) (d : TaskView) (s : TaskState) → k ≡ n + i →
    slice_get ds i ≡ Some d → slice_get ss i ≡ Some s → (serve (eqb k pick) stay d s).may_choose ≡ true → (serve_all pick stay n ds ss).may_choose ≡ true
choose_at [] ss pick stay n i k d s hk hd hs h = absurd (cc)
choose_at (e ∷ ds) [] pick stay n i k d s hk hd hs h = absurd (cc)
choose_at (e ∷ ds) (t ∷ ss) pick stay n zero k d s hk hd hs h =
    let ke : k ≡ n = omega arith in
    let de : e ≡ d = cc in
    let se : t ≡ s = cc in
    let h' : (serve (eqb n pick) stay e t).may_choose ≡ true = rw (ke, sym de, sym se) at h in
    rw h' refl
choose_at (e ∷ ds) (t ∷ ss) pick stay n (suc i) k d s hk hd hs h =
    let ih = choose_at ds ss pick stay (n + 1) i k d s (omega arith) hd hs h in
    elim (cases_Bool (serve (eqb n pick) stay e t).may_choose) [ inl y ↦ rw y refl | inr y ↦ rw (y, ih) refl ]

-- the task that may choose
pub record Chooser (ds : List TaskView) (ss : List TaskState) (pick : ℕ) (stay : Bool) (n : ℕ) : Type 0 where
  pub z_index : ℕ
  pub z_view : TaskView
  pub z_state : TaskState
  pub z_in_views : slice_get ds z_index ≡ Some z_view
  pub z_in_tasks : slice_get ss z_index ≡ Some z_state
  pub z_may : (serve (eqb (n + z_index) pick) stay z_view z_state).may_choose ≡ true

pub chooser : (ds : List TaskView) (ss : List TaskState) (pick : ℕ) (stay : Bool) (n : ℕ) → (serve_all pick stay n ds ss).may_choose ≡ true → Chooser ds ss pick stay n
chooser [] ss pick stay n h = elim (both_ways false refl h) [ ]
chooser (e ∷ ds) [] pick stay n h = elim (both_ways false refl h) [ ]
chooser (e ∷ ds) (t ∷ ss) pick stay n h =
    elim (cases_Bool (serve (eqb n pick) stay e t).may_choose) [
      | inl y ↦ let z : n + 0 ≡ n = omega arith in
          record { z_index = 0; z_view = e; z_state = t; z_in_views = refl; z_in_tasks = refl; z_may = rw z y }
      | inr y ↦
          let h' : (serve_all pick stay (n + 1) ds ss).may_choose ≡ true = rw y at h in
          let r = chooser ds ss pick stay (n + 1) h' in
          let z : n + suc r.z_index ≡ n + 1 + r.z_index = omega arith in
          record { z_index = suc r.z_index; z_view = r.z_view; z_state = r.z_state; z_in_views = r.z_in_views; z_in_tasks = r.z_in_tasks; z_may = rw z r.z_may }
    ]
