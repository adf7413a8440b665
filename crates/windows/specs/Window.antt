-- What a table that is kept for a plan says of the plan's own runs.
use Rattle.std.specs.Prelude.{◌≡◌, ℕ, ◌+◌, ◌⊎◌, List, length, Some, None, Option}
use Rattle.dispatch.specs.Picks.{Picks}
use Rattle.outcome.specs.declared.Cause.{Cause}
use Rattle.plans.specs.Tasks.{TaskView}
use Rattle.slot.specs.declared.event.Event.{Event}
use Rattle.slot.specs.Slot.{StateView}
use Rattle.runs.specs.Run.{response, Ending, ends_late, Run, event_at, IsTask}
use Rattle.runs.specs.Response.{Responds}
use Rattle.exploration.specs.declared.Row.{Row}
use Rattle.exploration.specs.declared.Shown.{Shown}
use Rattle.exploration.specs.declared.Stage.{Stage}
use Rattle.exploration.specs.declared.Stage.TheVariants.{Walking, Complete, Late}
use Rattle.exploration.specs.Table.{Table}
use Rattle.exploration.specs.Rows.{SpellsOut}
use Rattle.exploration.specs.Truth.{Within}

module _ (ts : List TaskView) (picks : Picks) where
  -- In the last slot of a run of the plan, of these ways, a job of task k ends with response x.
  pub record RespondsLast (ways : List ℕ) (k x : ℕ) : Type 0 where
    pub trace : List Event
    pub end : Ending
    pub run : Run ts picks ways trace end
    pub slot : ℕ
    pub last : length ways ≡ slot + 1
    pub shows : response (event_at trace slot) k ≡ Some x
    pub task : TaskView
    pub is_task : IsTask ts k task
    pub responds : Responds (event_at trace) k task slot x

  -- A time shown for task k is the response in the last slot of a run of the plan, which the rows spell out.
  abbrev pub ShownByRun : List (Row StateView) → ℕ → Option Shown → Type 0
  ShownByRun rows k None = Unit {0}
  ShownByRun rows k (Some x) = (ways : List ℕ) × SpellsOut rows x.row x.way ways × RespondsLast ways k x.response

  -- A late table spells out a run of the plan that is late with the task and cause shown.
  abbrev pub LateByRun : List (Row StateView) → Stage → Type 0
  LateByRun rows Walking = Unit {0}
  LateByRun rows Complete = Unit {0}
  LateByRun rows (Late i w k c) =
      (ways : List ℕ) × SpellsOut rows i w ways × ((trace : List Event) × Run ts picks ways trace (ends_late k c))

  -- No run of the plan is late.
  abbrev pub NoLateRun : Type 0
  NoLateRun = (ways : List ℕ) (trace : List Event) (k : ℕ) (c : Cause) → Run ts picks ways trace (ends_late k c) → ⊥

  -- Every response of task k, in every slot of every run of the plan, is so.
  abbrev pub EachResponse : ℕ → (ℕ → Type 0) → Type 0
  EachResponse k P = (ways : List ℕ) (trace : List Event) (end : Ending) → Run ts picks ways trace end →
      (n x : ℕ) → response (event_at trace n) k ≡ Some x → P x

  -- A complete table: no run is late; every response lies within the times shown for its task; and a task that shows none has none.
  pub record AllRuns (t : Table) : Type 0 where
    pub never_late : NoLateRun
    pub within : (k : ℕ) → EachResponse k (Within (t.times k))
    pub none : (k : ℕ) → ((t.times k).least ≡ None) ⊎ ((t.times k).greatest ≡ None) → EachResponse k (λ x. ⊥)

  -- What a table says of the plan's own runs.
  pub record WindowLaw (t : Table) (rows : List (Row StateView)) : Type 0 where
    pub least : (k : ℕ) → ShownByRun rows k (t.times k).least
    pub greatest : (k : ℕ) → ShownByRun rows k (t.times k).greatest
    pub late_run : LateByRun rows t.stage
    pub complete_table : t.stage ≡ Complete → AllRuns t
