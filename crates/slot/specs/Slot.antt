-- One slot: the arrivals, the pick, the work, the ages and the deadlines.
use Rattle.std.specs.Prelude.{ℕ, ◌*◌, ◌/◌, ◌%◌, Bool, cond, not, ◌&&◌, List, [], ◌∷◌, replicate, is_some, Some, None, Option, nat_eq, nat_lt}
use Rattle.std.specs.Option.{option_map_or}
use Rattle.dispatch.specs.Picks.{Picks}
use Rattle.outcome.specs.declared.Cause.TheVariants.{Overlap, Deadline}
use Rattle.outcome.specs.declared.Ended.{Ended}
use Rattle.outcome.specs.declared.Outcome.{Outcome}
use Rattle.outcome.specs.declared.Outcome.TheVariants.{Void, Late, Next}
use Rattle.outcome.specs.Outcomes.{outcome_by}
pub use Rattle.outcome.specs.Outcomes.{ended_in}
use Rattle.slot.specs.declared.state.TaskState.{TaskState}
use Rattle.slot.specs.declared.state.State.{State}
use Rattle.slot.specs.declared.event.Event.{Event}
use Rattle.plans.specs.Tasks.{TaskView}
use Rattle.slot.specs.Arrivals.{choices, arrived, arrivals_in, overlapping}
use Rattle.slot.specs.Work.{RoundView, sees, serve_all}

-- A state without the bounds that its type keeps.
pub record StateView : Type 0 where
  pub tasks : List TaskState
  pub last : ℕ

abbrev pub state_view : State → StateView
state_view s = record { tasks = s.tasks; last = s.last }

-- An outcome, by the view of its state.
abbrev pub outcome_view : Outcome State → Outcome StateView
outcome_view = outcome_by state_view

-- The start: streams at their first positions, with no job, and no last runner; free places stand at 0.
abbrev pub firsts : List TaskView → List TaskState → List TaskState
firsts [] ss = ss
firsts (t ∷ ts) [] = []
firsts (t ∷ ts) (s ∷ ss) = record { position = t.stream.first; job = None } ∷ firsts ts ss

abbrev pub start_state : List TaskView → StateView
start_state ts = record { tasks = firsts ts (replicate 8 (record { position = 0; job = None })); last = 0 }

-- The last runner: the task that was picked if its job stayed, else 0.
abbrev pub runner_after : ℕ → Option Ended → ℕ
runner_after pick None = pick
runner_after pick (Some e) = 0

abbrev pub settled : Bool → ℕ → RoundView → Outcome StateView
settled stay pick r =
    cond (stay && not r.may_choose) Void
    (option_map_or (λ task. Late task Deadline r.ended) r.late (Next (record { tasks = r.tasks; last = runner_after pick r.ended }) r.ended))

-- The whole slot, at the way a + A f: the streams take the ways of a, and f = 1 means that the picked job stays where it
-- may choose.
abbrev pub slot : List TaskView → Picks → StateView → ℕ → Outcome StateView
slot ts picks m way =
    let all = choices ts m.tasks in
    let a = way % all in
    let stay = nat_eq (way / all) 1 in
    let tasks = arrived ts m.tasks a in
    let over = overlapping 1 ts m.tasks a in
    let pick = picks (sees ts tasks) m.last in
    cond (nat_lt way (2 * all))
    (option_map_or (λ task. cond stay Void (Late task Overlap None)) over (settled stay pick (serve_all pick stay 1 ts tasks)))
    Void

-- What the slot of a way shows: who has an arrival, the task picked (0 for none, and in a slot with an overlap), and the
-- job that ends.
unfoldable pub event : List TaskView → Picks → StateView → ℕ → Event
event ts picks m way =
    let a = way % choices ts m.tasks in
    record {
      arrivals = arrivals_in ts m.tasks a;
      picked = cond (is_some (overlapping 1 ts m.tasks a)) 0 (picks (sees ts (arrived ts m.tasks a)) m.last);
      ended = ended_in (slot ts picks m way);
    }
