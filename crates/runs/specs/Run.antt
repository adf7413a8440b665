-- Runs of a plan, and what each of their slots shows.
use Rattle.std.specs.Prelude.{◌≡◌, ℕ, ◌-◌, ◌≤◌, Bool, false, cond, List, [], ◌∷◌, length, Some, None, Option, ◌==◌, slice_index_or}
use Rattle.std.specs.List.{slice_get}
use Rattle.streams.specs.Meaning.{Sound}
use Rattle.dispatch.specs.Picks.{Picks}
use Rattle.outcome.specs.declared.Cause.{Cause}
use Rattle.outcome.specs.declared.Ended.{Ended}
use Rattle.slot.specs.declared.event.Event.{Event}
use Rattle.plans.specs.Tasks.{TaskView}
use Rattle.outcome.specs.declared.Outcome.TheVariants.{Late, Next}
use Rattle.slot.specs.Slot.{StateView, slot, start_state, event}

-- Whether task k has an arrival in a slot, whether it is picked, and the response of its job if that ends.
abbrev pub arrives : Event → ℕ → Bool
arrives e k = slice_index_or e.arrivals (k - 1) false

abbrev pub is_picked : Event → ℕ → Bool
is_picked e k = k == e.picked

abbrev pub of_task : ℕ → Option Ended → Option ℕ
of_task k None = None
of_task k (Some e) = cond (e.task == k) (Some e.response) None

abbrev pub response : Event → ℕ → Option ℕ
response e k = of_task k e.ended

-- How a run ends: in a state, or late with a task and a cause.
pub data Ending : Type 0 where
  ends_in : StateView → Ending
  ends_late : ℕ → Cause → Ending

-- From a state, a list of ways, none void and only the last late, shows a trace (what each slot shows) and ends so.
pub data RunFrom (ts : List TaskView) (picks : Picks) : StateView → List ℕ → List Event → Ending → Type 0 where
  empty : {m : StateView} → RunFrom ts picks m [] [] (ends_in m)
  last_late : {m : StateView} {way k : ℕ} {c : Cause} {e : Option Ended} → slot ts picks m way ≡ Late k c e →
      RunFrom ts picks m (way ∷ []) (event ts picks m way ∷ []) (ends_late k c)
  way_then : {m m' : StateView} {way : ℕ} {e : Option Ended} {ways : List ℕ} {trace : List Event} {end : Ending} →
      slot ts picks m way ≡ Next m' e → RunFrom ts picks m' ways trace end →
      RunFrom ts picks m (way ∷ ways) (event ts picks m way ∷ trace) end

-- A run of a plan begins at its start.
abbrev pub Run : List TaskView → Picks → List ℕ → List Event → Ending → Type 0
Run ts picks ways trace end = RunFrom ts picks (start_state ts) ways trace end

-- What slot n of a run shows; past its end, nothing.
abbrev pub blank : Event
blank = record { arrivals = []; picked = 0; ended = None }

abbrev pub event_at : List Event → ℕ → Event
event_at trace n = slice_index_or trace n blank

-- Task k of the plan, counted from 1.
pub record IsTask (ts : List TaskView) (k : ℕ) (t : TaskView) : Type 0 where
  pub from_one : 1 ≤ k
  pub here : slice_get ts (k - 1) ≡ Some t

-- What every plan keeps by its type: at most eight tasks, with ordered times, over sound streams.
pub record Timed (t : TaskView) : Type 0 where
  pub some : 1 ≤ t.best
  pub order : t.best ≤ t.worst
  pub fit : t.worst ≤ t.deadline

pub record Proper (ts : List TaskView) : Type 0 where
  pub few : length ts ≤ 8
  pub timed : (i : ℕ) (t : TaskView) → slice_get ts i ≡ Some t → Timed t
  pub sound : (i : ℕ) (t : TaskView) → slice_get ts i ≡ Some t → Sound t.stream
