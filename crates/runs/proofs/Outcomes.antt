-- What a slot that goes on, and a slot that is late, went through. Assumes nothing.
use Rattle.std.proofs.Common.{◌≡◌, ℕ, ◌*◌, ◌/◌, ◌%◌, ◌<◌, ◌≤◌, Bool, true, false, cond, not, ◌&&◌, eqb, ltb, ◌⊎◌, List, Some, None, Option, sym, refl, ap, ◌∙◌, inl, inr, arith, le-ltb, lt-ltb}
use native.Mathlib.Nat.{div-eq_of_lt}
use Rattle.dispatch.specs.Picks.{Picks}
use Rattle.outcome.specs.declared.Cause.{Cause}
use Rattle.outcome.specs.declared.Cause.TheVariants.{Overlap, Deadline}
use Rattle.outcome.specs.declared.Ended.{Ended}
use Rattle.slot.specs.declared.state.TaskState.{TaskState}
use Rattle.slot.specs.Arrivals.{choices, arrived, overlapping}
use Rattle.plans.specs.Tasks.{TaskView}
use Rattle.outcome.specs.declared.Outcome.{Outcome}
use Rattle.outcome.specs.declared.Outcome.TheVariants.{Void as void, Late as late, Next as next}
use Rattle.slot.specs.Slot.{StateView, slot, runner_after}
use Rattle.slot.specs.Work.{RoundView, sees, serve_all}
use Rattle.std.specs.Option.{option_map_or}
use Rattle.slot.specs.Arrivals.{arrivals_in}
use Rattle.slot.specs.Slot.{event, ended_in}
use Rattle.slot.specs.declared.event.Event.{Event}

-- the parts of a slot, as variables
abbrev whole : Bool → Bool → Bool → Option ℕ → Option ℕ → StateView → Option Ended → Outcome StateView
whole fits stay may over tardy m e =
    cond fits
    (option_map_or (λ k. cond stay void (late k Overlap None)) over
    (cond (stay && not may) void (option_map_or (λ k. late k Deadline e) tardy (next m e))))
    void

record Went (over tardy : Option ℕ) (m m' : StateView) (e e' : Option Ended) : Type 0 where
  pub w_clear : over ≡ None
  pub w_timely : tardy ≡ None
  pub w_state : m ≡ m'
  pub w_ended : e ≡ e'

went : (fits stay may : Bool) (over tardy : Option ℕ) (m m' : StateView) (e e' : Option Ended) →
    whole fits stay may over tardy m e ≡ next m' e' → Went over tardy m m' e e'
went false stay may over tardy m m' e e' h = absurd (cc)
went true true may (Some k) tardy m m' e e' h = absurd (cc)
went true false may (Some k) tardy m m' e e' h = absurd (cc)
went true true false None tardy m m' e e' h = absurd (cc)
went true true true None None m m' e e' h = record { w_clear = refl; w_timely = refl; w_state = cc; w_ended = cc }
went true true true None (Some k) m m' e e' h = absurd (cc)
went true false may None None m m' e e' h = record { w_clear = refl; w_timely = refl; w_state = cc; w_ended = cc }
went true false may None (Some k) m m' e e' h = absurd (cc)

record Overlapped (over : Option ℕ) (k : ℕ) (c : Cause) (e' : Option Ended) : Type 0 where
  pub o_task : over ≡ Some k
  pub o_cause : c ≡ Overlap
  pub o_ended : e' ≡ None

record Overdue (over tardy : Option ℕ) (k : ℕ) (c : Cause) (e e' : Option Ended) : Type 0 where
  pub d_clear : over ≡ None
  pub d_task : tardy ≡ Some k
  pub d_cause : c ≡ Deadline
  pub d_ended : e ≡ e'

failed : (fits stay may : Bool) (over tardy : Option ℕ) (k : ℕ) (m : StateView) (c : Cause) (e e' : Option Ended) →
    whole fits stay may over tardy m e ≡ late k c e' → Overlapped over k c e' ⊎ Overdue over tardy k c e e'
failed false stay may over tardy k m c e e' h = absurd (cc)
failed true true may (Some j) tardy k m c e e' h = absurd (cc)
failed true false may (Some j) tardy k m c e e' h = inl (record { o_task = cc; o_cause = cc; o_ended = cc })
failed true true false None tardy k m c e e' h = absurd (cc)
failed true true true None None k m c e e' h = absurd (cc)
failed true true true None (Some j) k m c e e' h = inr (record { d_clear = refl; d_task = cc; d_cause = cc; d_ended = cc })
failed true false may None None k m c e e' h = absurd (cc)
failed true false may None (Some j) k m c e e' h = inr (record { d_clear = refl; d_task = cc; d_cause = cc; d_ended = cc })

-- a way that exists and does not ask to stay is not void
unvoid : (fits stay may : Bool) (over tardy : Option ℕ) (m : StateView) (e : Option Ended) → fits ≡ true → stay ≡ false →
    whole fits stay may over tardy m e ≡ void → ⊥
unvoid fits true may over tardy m e hf hs h = cc
unvoid false false may over tardy m e hf hs h = cc
unvoid true false may (Some k) tardy m e hf hs h = cc
unvoid true false may None None m e hf hs h = cc
unvoid true false may None (Some k) m e hf hs h = cc

-- a way that asks to stay and is not void
stay_unvoid : (fits may : Bool) (over tardy : Option ℕ) (m : StateView) (e : Option Ended) →
    (whole fits true may over tardy m e ≡ void → ⊥) → (over ≡ None) × (may ≡ true)
stay_unvoid false may over tardy m e h = absurd (h refl)
stay_unvoid true may (Some k) tardy m e h = absurd (h refl)
stay_unvoid true false None tardy m e h = absurd (h refl)
stay_unvoid true true None tardy m e h = (refl, refl)

-- and so is one that asks to stay, with no overlap and where it may choose
unvoid_stay : (fits stay may : Bool) (over tardy : Option ℕ) (m : StateView) (e : Option Ended) → fits ≡ true → over ≡ None → may ≡ true →
    whole fits stay may over tardy m e ≡ void → ⊥
unvoid_stay fits stay may (Some k) tardy m e hf ho hm h = cc
unvoid_stay fits stay false None tardy m e hf ho hm h = cc
unvoid_stay false stay true None tardy m e hf ho hm h = cc
unvoid_stay true true true None None m e hf ho hm h = cc
unvoid_stay true true true None (Some k) m e hf ho hm h = cc
unvoid_stay true false true None None m e hf ho hm h = cc
unvoid_stay true false true None (Some k) m e hf ho hm h = cc

module _ (ds : List TaskView) (picks : Picks) (m : StateView) (way : ℕ) where
  abbrev pub mix : ℕ
  mix = way % choices ds m.tasks

  abbrev pub come_to : List TaskState
  come_to = arrived ds m.tasks mix

  abbrev pub chosen : ℕ
  chosen = picks (sees ds come_to) m.last

  abbrev pub stays : Bool
  stays = eqb (way / choices ds m.tasks) 1

  abbrev pub over : Option ℕ
  over = overlapping 1 ds m.tasks mix

  abbrev pub round : RoundView
  round = serve_all chosen stays 1 ds come_to

  -- whether the way exists, and the state after it
  abbrev fits : Bool
  fits = ltb way (2 * choices ds m.tasks)

  abbrev after : StateView
  after = record { tasks = round.tasks; last = runner_after chosen round.ended }

  -- a slot with no overlap
  pub record Clear (s : Event) : Type 0 where
    pub no_overlap : over ≡ None
    pub c_arrivals : s.arrivals ≡ arrivals_in ds m.tasks mix
    pub c_picked : s.picked ≡ chosen
    pub c_ended : s.ended ≡ round.ended

  pub record Onward (s : Event) (m' : StateView) : Type 0 where
    pub clear : Clear s
    pub timely : round.late ≡ None
    pub tasks_are : m'.tasks ≡ round.tasks
    pub last_is : m'.last ≡ runner_after chosen round.ended

  pub record Crossed (s : Event) (k : ℕ) (c : Cause) : Type 0 where
    pub x_task : over ≡ Some k
    pub x_cause : c ≡ Overlap
    pub x_arrivals : s.arrivals ≡ arrivals_in ds m.tasks mix
    pub x_picked : s.picked ≡ 0
    pub x_ended : s.ended ≡ None

  pub record Tardy (s : Event) (k : ℕ) (c : Cause) : Type 0 where
    pub clear : Clear s
    pub t_task : round.late ≡ Some k
    pub t_cause : c ≡ Deadline

  pub next_went : (m' : StateView) (e : Option Ended) → slot ds picks m way ≡ next m' e → Onward (event ds picks m way) m'
  unfolding event
  next_went m' e h =
      let w = went fits stays round.may_choose over round.late after m' round.ended e h in
      record {
        clear = record { no_overlap = w.w_clear; c_arrivals = refl; c_picked = rw w.w_clear refl; c_ended = ap ended_in h ∙ sym w.w_ended };
        timely = w.w_timely;
        tasks_are = sym (ap (λ (x : StateView). x.tasks) w.w_state);
        last_is = sym (ap (λ (x : StateView). x.last) w.w_state);
      }

  pub late_went : (k : ℕ) (c : Cause) (e : Option Ended) → slot ds picks m way ≡ late k c e →
      Crossed (event ds picks m way) k c ⊎ Tardy (event ds picks m way) k c
  unfolding event
  late_went k c e h =
      elim (failed fits stays round.may_choose over round.late k after c round.ended e h) [
        | inl w ↦ inl (record { x_task = w.o_task; x_cause = w.o_cause; x_arrivals = refl; x_picked = rw w.o_task refl; x_ended = ap ended_in h ∙ w.o_ended })
        | inr w ↦ inr (record {
          clear = record { no_overlap = w.d_clear; c_arrivals = refl; c_picked = rw w.d_clear refl; c_ended = ap ended_in h ∙ sym w.d_ended };
          t_task = w.d_task;
          t_cause = w.d_cause;
        })
      ]

  pub event_arrivals : (event ds picks m way).arrivals ≡ arrivals_in ds m.tasks mix
  unfolding event
  event_arrivals = refl

  pub not_void : way < choices ds m.tasks → slot ds picks m way ≡ void → ⊥
  not_void h =
      unvoid fits stays round.may_choose over round.late after round.ended
      (lt-ltb way (2 * choices ds m.tasks) (omega arith)) (ap (λ x. eqb x 1) (div-eq_of_lt h))

  pub not_void_stay : way < 2 * choices ds m.tasks → over ≡ None → round.may_choose ≡ true → slot ds picks m way ≡ void → ⊥
  not_void_stay h = unvoid_stay fits stays round.may_choose over round.late after round.ended (lt-ltb way (2 * choices ds m.tasks) h)

  pub stay_pending : stays ≡ true → (slot ds picks m way ≡ void → ⊥) → (over ≡ None) × (round.may_choose ≡ true)
  stay_pending h o =
      stay_unvoid fits round.may_choose over round.late after round.ended
      (λ v. o (ap (λ b. whole fits b round.may_choose over round.late after round.ended) h ∙ v))

  pub none_beyond : 2 * choices ds m.tasks ≤ way → slot ds picks m way ≡ void
  none_beyond h = rw (le-ltb way (2 * choices ds m.tasks) h) refl
