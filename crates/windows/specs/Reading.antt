-- The window of a task that a table tells, and what it says of the plan's runs.
use Rattle.std.specs.Prelude.{◌≡◌, ℕ, ◌≤◌, Bool, List, Some, None, Ok, Err, Option, Result}
use Rattle.refusals.specs.declared.Fault.{Fault}
use Rattle.dispatch.specs.Picks.{Picks}
use Rattle.plans.specs.Tasks.{TaskView}
use Rattle.slot.specs.declared.state.State.{State}
use Rattle.slot.specs.Slot.{state_view}
use Rattle.exploration.specs.declared.Row.{Row}
use Rattle.exploration.specs.declared.Shown.{Shown}
use Rattle.exploration.specs.declared.Times.{Times}
use Rattle.exploration.specs.declared.Stage.{Stage}
use Rattle.exploration.specs.declared.Stage.TheVariants.{Walking, Complete, Late}
use Rattle.table.specs.declared.numbers.Numbers.{Numbers}
use Rattle.table.specs.Readings.{times_read}
use Rattle.table.specs.View.{table_of, rows_of}
use Rattle.schedule.specs.PlanSystem.{plan_system}
use Rattle.evidence.specs.Keeping.{LedByBytes}
use Rattle.windows.specs.declared.window.Window.{Window}
use Rattle.windows.specs.Window.{RespondsLast, NoLateRun, EachResponse, WindowLaw}

-- Both times of a task, if both are shown.
abbrev pub both_times : Option Shown → Option Shown → Option Window
both_times None greatest = None
both_times (Some x) None = None
both_times (Some x) (Some y) = Some (record { least = x.response; greatest = y.response })

-- Only a complete table tells a window.
abbrev pub window_at : Stage → Times → Option Window
window_at Walking times = None
window_at (Late i w k c) times = None
window_at Complete times = both_times times.least times.greatest

abbrev pub window_in : Stage → Result Times Fault → Result (Option Window) Fault
window_in stage (Err f) = Err f
window_in stage (Ok times) = Ok (window_at stage times)

-- The window of task k, if the table was opened with it.
abbrev pub window_read : Numbers → ℕ → Result (Option Window) Fault
window_read p k = window_in p.stage (times_read p k)

module _ (ts : List TaskView) (picks : Picks) where
  -- A window of task k that holds: no run of the plan is late, every response of task k lies in the window, and each of its two figures
  -- is the response in the last slot of some run.
  pub record Holds (k : ℕ) (w : Window) : Type 0 where
    pub never_late : NoLateRun ts picks
    pub within : EachResponse ts picks k (λ x. (w.least ≤ x) × (x ≤ w.greatest))
    pub least : (ways : List ℕ) × RespondsLast ts picks ways k w.least
    pub greatest : (ways : List ℕ) × RespondsLast ts picks ways k w.greatest

  -- A window that is told holds, and where a complete table tells none, task k has no response in any run.
  abbrev pub Says : Stage → ℕ → Option Window → Type 0
  Says stage k (Some w) = Holds k w
  Says stage k None = stage ≡ Complete → EachResponse ts picks k (λ x. ⊥)

  -- A history through bytes led here.
  abbrev pub Led : List (List ℕ) → Bool → Numbers → List (Row State) → Type 0
  Led kept full p rows = LedByBytes state_view (plan_system ts picks) kept full p rows

  -- Of every history that led here: what the table says of the plan's own runs, and what the answer does.
  abbrev pub WindowsKept : Numbers → List (Row State) → Type 0
  WindowsKept p rows = (kept : List (List ℕ)) (full : Bool) → Led kept full p rows →
      WindowLaw ts picks (table_of p) (rows_of state_view p.held rows)

  abbrev pub SaysKept : Numbers → List (Row State) → ℕ → Result (Option Window) Fault → Type 0
  SaysKept p rows k r = (kept : List (List ℕ)) (full : Bool) → Led kept full p rows →
      (o : Option Window) → r ≡ Ok o → Says p.stage k o
