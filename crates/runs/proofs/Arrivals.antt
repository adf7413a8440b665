-- The arrivals of a run are those of runs of the streams. Assumes nothing.
use Rattle.std.proofs.Common.{◌≡◌, ℕ, zero, suc, ◌+◌, ◌-◌, ◌*◌, ◌/◌, ◌%◌, ◌<◌, Bool, true, false, cond, not, is_some, ◌&&◌, eqb, leb, ◌⊎◌, List, [], ◌∷◌, length, get_or, take, replicate, Some, None, Option, sym, refl, ap, ◌∙◌, inl, inr, mod-lt, mod-eq_of_lt, arith}
use native.Mathlib.Nat.{div-eq_of_lt}
use Rattle.std.specs.List.{slice_get}
use Rattle.std.proofs.lemmas.Bool.{cases_Bool, cases_eq, and_parts, and_from}
use Rattle.streams.specs.Meaning.{Sound, IsRun, pattern}
use Rattle.dispatch.specs.Picks.{Picks}
use Rattle.outcome.specs.declared.Ended.{Ended}
use Rattle.slot.specs.declared.state.Job.{Job}
use Rattle.slot.specs.declared.state.TaskState.{TaskState}
use Rattle.slot.specs.Arrivals.{choices, arrived, overlapping}
use Rattle.plans.specs.Tasks.{TaskView}
use Rattle.outcome.specs.declared.Outcome.{Outcome}
use Rattle.outcome.specs.declared.Outcome.TheVariants.{Void as void, Late as late, Next as next}
use Rattle.slot.specs.Slot.{StateView, slot, start_state}
use Rattle.slot.specs.Work.{sees, serve_all, serve, serve_job}
use Rattle.runs.specs.Arrivals.{arrivals_of, ArrivalsLaw}
use Rattle.runs.specs.Run.{arrives, Ending, ends_in, ends_late, RunFrom, empty, last_late, way_then, Proper, IsTask}
use Rattle.runs.specs.Work.{IsLate, Chosen}
use Rattle.slot.specs.Slot.{event}
use Rattle.slot.specs.declared.event.Event.{Event}
use Rattle.runs.proofs.Outcomes.{mix, come_to, chosen, stays, over, round, Onward, next_went, event_arrivals, not_void, not_void_stay}
use Rattle.runs.proofs.MixedNumbers.{mixed, Fits, mixed_lt, MixedAt, mixed_at}
use Rattle.runs.proofs.TaskSlots.{arrived_at, serve_all_at, firsts_at, choose_all}
use lib.Arith.{digits_div, digits_mod}

position_kept : (picked stay : Bool) (d : TaskView) (p : ℕ) (o : Option Job) → (serve_job picked stay d p o).state.position ≡ p
position_kept picked stay d p None = refl
position_kept false stay d p (Some j) = refl
position_kept true stay d p (Some j) =
    elim (cases_Bool (leb d.worst (j.work + 1))) [
      | inl y ↦ rw y refl
      | inr y ↦ elim (cases_Bool (leb d.best (j.work + 1))) [
        | inl z ↦ elim (cases_Bool stay) [ inl u ↦ rw (y, z, u) refl | inr u ↦ rw (y, z, u) refl ]
        | inr z ↦ rw (y, z) refl
      ]
    ]

module _ (ds : List TaskView) (picks : Picks) (k : ℕ) (d : TaskView) (task : IsTask ds k d) where
  -- the stream stands after a slot where its arrival left it
  pub moved_at : (m m' : StateView) (way : ℕ) (g : Event) (after : TaskState) → Onward ds picks m way g m' → slice_get (come_to ds picks m way) (k - 1) ≡ Some after →
      (s : TaskState) × (slice_get m'.tasks (k - 1) ≡ Some s) × (s.position ≡ after.position)
  moved_at m m' way g after w h =
      let e : k ≡ 1 + (k - 1) = omega (arith, task.from_one) in
      let p = serve_all_at ds (come_to ds picks m way) (chosen ds picks m way) (stays ds picks m way) 1 (k - 1) k d after e task.here h in (
        (serve (eqb k (chosen ds picks m way)) (stays ds picks m way) d after).state,
        rw w.tasks_are p,
        position_kept (eqb k (chosen ds picks m way)) (stays ds picks m way) d after.position after.job,
      )

  module _ (sound : Sound d.stream) where
    abbrev ShownFrom : ℕ → List Bool → Type 0
    ShownFrom q bs = (ws : List ℕ) × IsRun d.stream q ws × (pattern d.stream q ws ≡ bs)

    pub shown_from : {m : StateView} {ways : List ℕ} {trace : List Event} {end : Ending} → RunFrom ds picks m ways trace end →
        (s : TaskState) → slice_get m.tasks (k - 1) ≡ Some s → ShownFrom s.position (arrivals_of trace k)
    shown_from empty s hs = ([], tt, refl)
    shown_from (last_late {m = m} {way = way} h) s hs =
        let a = arrived_at ds m.tasks (mix ds picks m way) (k - 1) d s task.here hs in
        let w : ℕ = a.part % d.stream.ways s.position in
        let b : w < d.stream.ways s.position = mod-lt a.part (sound.some_way s.position) in
        let e : arrives (event ds picks m way) k ≡ (d.stream.answer s.position w).0 = ap (λ l. get_or l (k - 1) false) (event_arrivals ds picks m way) ∙ a.a_shows in
        (w ∷ [], (b, tt), rw e refl)
    shown_from (way_then {m = m} {m' = m'} {way = way} {e = ended} {trace = trace} h g) s hs =
        let a = arrived_at ds m.tasks (mix ds picks m way) (k - 1) d s task.here hs in
        let w : ℕ = a.part % d.stream.ways s.position in
        let b : w < d.stream.ways s.position = mod-lt a.part (sound.some_way s.position) in
        let e : arrives (event ds picks m way) k ≡ (d.stream.answer s.position w).0 = ap (λ l. get_or l (k - 1) false) (event_arrivals ds picks m way) ∙ a.a_shows in
        let n = moved_at m m' way (event ds picks m way) a.after (next_went ds picks m way m' ended h) a.a_nth in
        let q : n.0.position ≡ (d.stream.answer s.position w).1 = n.2 ∙ a.a_position in
        let r : ShownFrom (d.stream.answer s.position w).1 (arrivals_of trace k) = rw q at (shown_from g n.0 n.1) in
        (w ∷ r.0, (b, r.1), rw (e, r.2) refl)

pub arrivals_stand : (ds : List TaskView) (picks : Picks) → Proper ds → ArrivalsLaw ds picks
arrivals_stand ds picks proper ways trace end r k d t =
    shown_from ds picks k d t (proper.sound (k - 1) d t.here) r (record { position = d.stream.first; job = None })
    (firsts_at ds (replicate 8 (record { position = 0; job = None })) (k - 1) d proper.few t.here)

abbrev hd : List ℕ → ℕ
hd [] = 0
hd (w ∷ ws) = w

abbrev tl : List ℕ → List ℕ
tl [] = []
tl (w ∷ ws) = ws

cons_is : (ws : List ℕ) (n : ℕ) → length ws ≡ suc n → ws ≡ hd ws ∷ tl ws
cons_is [] n h = absurd (omega arith)
cons_is (w ∷ ws) n h = refl

none_so : (o : Option ℕ) → not (is_some o) ≡ true → o ≡ None
none_so None h = refl
none_so (Some k) h = absurd (cc)

-- the way that takes the streams' ways of a number, and stays where that is wished and may be
module _ (ds : List TaskView) (picks : Picks) (m : StateView) (base : ℕ) (bounded : base < choices ds m.tasks) (wish : Bool) where
  abbrev want : Bool
  want = wish && (not (is_some (over ds picks m base)) && (round ds picks m base).may_choose)

  abbrev pub wished : ℕ
  wished = cond want (1 * choices ds m.tasks + base) base

  pub wished_mix : mix ds picks m wished ≡ base
  wished_mix = elim (cases_Bool want) [
    | inl y ↦ rw y (digits_mod 1 bounded)
    | inr y ↦ rw y (mod-eq_of_lt bounded)
  ]

  wished_stays : stays ds picks m wished ≡ want
  wished_stays = elim (cases_Bool want) [
    | inl y ↦ let e : (1 * choices ds m.tasks + base) / choices ds m.tasks ≡ 1 = digits_div 1 bounded in rw y (ap (λ x. eqb x 1) e)
    | inr y ↦ let e : base / choices ds m.tasks ≡ 0 = div-eq_of_lt bounded in rw y (ap (λ x. eqb x 1) e)
  ]

  over_same : over ds picks m wished ≡ over ds picks m base
  over_same = ap (λ a. overlapping 1 ds m.tasks a) (wished_mix ∙ sym (mod-eq_of_lt bounded))

  choose_same : (round ds picks m wished).may_choose ≡ (round ds picks m base).may_choose
  choose_same =
      ap (λ a. (serve_all (picks (sees ds (arrived ds m.tasks a)) m.last) (stays ds picks m wished) 1 ds (arrived ds m.tasks a)).may_choose) (wished_mix ∙ sym (mod-eq_of_lt bounded))
      ∙ choose_all ds (come_to ds picks m base) (chosen ds picks m base) (stays ds picks m wished) (stays ds picks m base) 1

  pub wished_open : slot ds picks m wished ≡ void → ⊥
  wished_open = elim (cases_Bool want) [
    | inl y ↦
        let p = and_parts wish (not (is_some (over ds picks m base)) && (round ds picks m base).may_choose) y in
        let q = and_parts (not (is_some (over ds picks m base))) (round ds picks m base).may_choose p.1 in
        let e : wished ≡ 1 * choices ds m.tasks + base = rw y refl in
        not_void_stay ds picks m wished (rw e (omega arith)) (over_same ∙ none_so (over ds picks m base) q.0) (choose_same ∙ q.1)
    | inr y ↦
        let e : wished ≡ base = rw y refl in
        not_void ds picks m wished (rw e bounded)
  ]

  pub wished_obeys : over ds picks m wished ≡ None → (round ds picks m wished).may_choose ≡ true → stays ds picks m wished ≡ wish
  wished_obeys z c =
      let z' : not (is_some (over ds picks m base)) ≡ true = ap (λ o. not (is_some o)) (sym over_same ∙ z) in
      let c' : (round ds picks m base).may_choose ≡ true = sym choose_same ∙ c in
      wished_stays ∙ ap (λ x. wish && x) (and_from (not (is_some (over ds picks m base))) (round ds picks m base).may_choose z' c') ∙ and_true wish
    where
      and_true : (x : Bool) → (x && true) ≡ x
      and_true true = refl
      and_true false = refl

-- each slot stays as wished, where it may
abbrev pub Obeys : List TaskView → Picks → (ℕ → Bool) → ℕ → StateView → List ℕ → Type 0
Obeys ds picks wish i m [] = Unit {0}
Obeys ds picks wish i m (w ∷ ws) =
    (over ds picks m w ≡ None → (round ds picks m w).may_choose ≡ true → stays ds picks m w ≡ wish i)
    × ((m' : StateView) (e : Option Ended) → slot ds picks m w ≡ next m' e → Obeys ds picks wish (i + 1) m' ws)

module _ (ds : List TaskView) (picks : Picks) where
  abbrev Ready : StateView → (ℕ → List ℕ) → ℕ → Type 0
  Ready m choice n = (k : ℕ) (d : TaskView) → IsTask ds k d → (s : TaskState) × (slice_get m.tasks (k - 1) ≡ Some s) × IsRun d.stream s.position (choice k) × (length (choice k) ≡ n)

  pub record Built (wish : ℕ → Bool) (i : ℕ) (m : StateView) (choice : ℕ → List ℕ) (n : ℕ) : Type 0 where
    pub b_ways : List ℕ
    pub b_trace : List Event
    pub b_end : Ending
    pub b_goes : RunFrom ds picks m b_ways b_trace b_end
    pub b_shows : (k : ℕ) (d : TaskView) → IsTask ds k d → (s : TaskState) → slice_get m.tasks (k - 1) ≡ Some s →
        arrivals_of b_trace k ≡ pattern d.stream s.position (take (length b_trace) (choice k))
    pub b_obeys : Obeys ds picks wish i m b_ways
    pub b_long : (length b_trace ≡ n) ⊎ (IsLate b_end × (length b_trace < n))

  module _ (wish : Bool) (m : StateView) (choice : ℕ → List ℕ) (n : ℕ) (ready : Ready m choice (suc n)) where
    abbrev heads : ℕ → ℕ
    heads i = hd (choice (i + 1))

    abbrev tails : ℕ → List ℕ
    tails k = tl (choice k)

    abbrev base : ℕ
    base = mixed ds m.tasks heads

    whole_is : (k : ℕ) (d : TaskView) → IsTask ds k d → choice k ≡ hd (choice k) ∷ tl (choice k)
    whole_is k d t = cons_is (choice k) n (ready k d t).3

    -- at the state of the task
    runs_on : (k : ℕ) (d : TaskView) → IsTask ds k d → (s : TaskState) → slice_get m.tasks (k - 1) ≡ Some s →
        IsRun d.stream s.position (hd (choice k) ∷ tl (choice k))
    runs_on k d t s hs =
        let r = ready k d t in
        let e : r.0 ≡ s = same r.0 s (sym r.1 ∙ hs) in
        let r'' : IsRun d.stream r.0.position (hd (choice k) ∷ tl (choice k)) = rw (whole_is k d t) at r.2 in
        rw e at r''
      where
        same : (a b : TaskState) → Some a ≡ Some b → a ≡ b
        same a b h = cc

    fits : Fits ds m.tasks heads
    fits i d s hd' hs =
        let z : i + 1 - 1 ≡ i = omega arith in
        let t : IsTask ds (i + 1) d = record { from_one = omega arith; here = rw z hd' } in
        (runs_on (i + 1) d t s (rw z hs)).0

    bounded : base < choices ds m.tasks
    bounded = mixed_lt ds m.tasks heads fits

    abbrev way : ℕ
    way = wished ds picks m base bounded wish

    at : (k : ℕ) (d : TaskView) → IsTask ds k d → (s : TaskState) → slice_get m.tasks (k - 1) ≡ Some s →
        MixedAt ds m.tasks (mix ds picks m way) (k - 1) (hd (choice k)) d s
    at k d t s hs =
        let z : k - 1 + 1 ≡ k = omega (arith, t.from_one) in
        let x = mixed_at ds m.tasks heads fits (k - 1) d s t.here hs in
        let x' : MixedAt ds m.tasks base (k - 1) (hd (choice k)) d s = rw z at x in
        rw (wished_mix ds picks m base bounded wish) x'

    shows_now : (k : ℕ) (d : TaskView) → IsTask ds k d → (s : TaskState) → slice_get m.tasks (k - 1) ≡ Some s →
        arrives (event ds picks m way) k ≡ (d.stream.answer s.position (hd (choice k))).0
    shows_now k d t s hs = ap (λ l. get_or l (k - 1) false) (event_arrivals ds picks m way) ∙ (at k d t s hs).m_shows

    ready_next : (m' : StateView) (e : Option Ended) → slot ds picks m way ≡ next m' e → Ready m' tails n
    ready_next m' e h k d t =
        let r = ready k d t in
        let x = at k d t r.0 r.1 in
        let v = moved_at ds picks k d t m m' way (event ds picks m way) x.after (next_went ds picks m way m' e h) x.m_nth in
        let q : v.0.position ≡ (d.stream.answer r.0.position (hd (choice k))).1 = v.2 ∙ x.m_position in
        let len : suc (length (tl (choice k))) ≡ suc n = sym (ap length (whole_is k d t)) ∙ r.3 in
        (v.0, v.1, rw q (runs_on k d t r.0 r.1).1, omega arith)

  same_next : (m m' : StateView) (e e' : Option Ended) → next m e ≡ next m' e' → m ≡ m'
  same_next m m' e e' h = cc

  module _ (wish : ℕ → Bool) where
    pub build : (n i : ℕ) (m : StateView) (choice : ℕ → List ℕ) → Ready m choice n → Built wish i m choice n
    build zero i m choice ready = record { b_ways = []; b_trace = []; b_end = ends_in m; b_goes = empty; b_shows = λ k d t s hs. refl; b_obeys = tt; b_long = inl refl }
    build (suc n) i m choice ready = go (λ m' r. build n (i + 1) m' (λ k. tl (choice k)) r) (slot ds picks m (way (wish i) m choice n ready)) refl
      where
        go : ((m' : StateView) → Ready m' (λ k. tl (choice k)) n → Built wish (i + 1) m' (λ k. tl (choice k)) n) → (r : Outcome StateView) → slot ds picks m (way (wish i) m choice n ready) ≡ r →
            Built wish i m choice (suc n)
        go onward void h = elim (wished_open ds picks m (base (wish i) m choice n ready) (bounded (wish i) m choice n ready) (wish i) h) [ ]
        go onward (late k c e) h = record {
          b_ways = way (wish i) m choice n ready ∷ [];
          b_trace = event ds picks m (way (wish i) m choice n ready) ∷ [];
          b_end = ends_late k c;
          b_goes = last_late h;
          b_shows = λ k' d t s hs. rw (whole_is (wish i) m choice n ready k' d t, shows_now (wish i) m choice n ready k' d t s hs) refl;
          b_obeys = (wished_obeys ds picks m (base (wish i) m choice n ready) (bounded (wish i) m choice n ready) (wish i), λ m' e' h'. tt);
          b_long = elim (cases_eq n 0) [ inl z ↦ inl (rw z refl) | inr z ↦ inr (tt, omega arith) ];
        }
        go onward (next m' e) h =
            let ready' = ready_next (wish i) m choice n ready m' e h in
            let rest = onward m' ready' in
            record {
              b_ways = way (wish i) m choice n ready ∷ rest.b_ways;
              b_trace = event ds picks m (way (wish i) m choice n ready) ∷ rest.b_trace;
              b_end = rest.b_end;
              b_goes = way_then h rest.b_goes;
              b_shows = λ k d t s hs.
                  let x = at (wish i) m choice n ready k d t s hs in
                  let v = moved_at ds picks k d t m m' (way (wish i) m choice n ready) (event ds picks m (way (wish i) m choice n ready)) x.after (next_went ds picks m (way (wish i) m choice n ready) m' e h) x.m_nth in
                  let q : v.0.position ≡ (d.stream.answer s.position (hd (choice k))).1 = v.2 ∙ x.m_position in
                  let more = rw q at (rest.b_shows k d t v.0 v.1) in
                  rw (whole_is (wish i) m choice n ready k d t, shows_now (wish i) m choice n ready k d t s hs, more) refl;
              b_obeys = (
                wished_obeys ds picks m (base (wish i) m choice n ready) (bounded (wish i) m choice n ready) (wish i),
                λ m'' e' h'. let q : m' ≡ m'' = same_next m' m'' e e' (sym h ∙ h') in rw (sym q) rest.b_obeys,
              );
              b_long = elim rest.b_long [ inl z ↦ inl (omega arith) | inr z ↦ inr (z.0, omega (arith, z.1)) ];
            }

  pub first_at : Proper ds → (k : ℕ) (d : TaskView) → IsTask ds k d → slice_get (start_state ds).tasks (k - 1) ≡ Some (record { position = d.stream.first; job = None })
  first_at proper k d t = firsts_at ds (replicate 8 (record { position = 0; job = None })) (k - 1) d proper.few t.here

  pub built : (choice : ℕ → List ℕ) (wish : ℕ → Bool) (n : ℕ) → Proper ds → Chosen ds choice n → Built wish 0 (start_state ds) choice n
  built choice wish n proper pre =
      build wish n 0 (start_state ds) choice (λ k d t. (record { position = d.stream.first; job = None }, first_at proper k d t, (pre k d t).0, (pre k d t).1))
