-- Which numbers are ways at the end of a run.
use Rattle.std.specs.Prelude.{◌≡◌, ℕ, ◌+◌, ◌-◌, ◌*◌, ◌<◌, ◌≤◌, true, List, [], ◌∷◌, ◌++◌, length, ◌≢◌}
use Rattle.dispatch.specs.Picks.{Picks}
use Rattle.slot.specs.declared.event.Event.{Event}
use Rattle.plans.specs.Tasks.{TaskView}
use Rattle.slot.specs.Arrivals.{choices}
use Rattle.outcome.specs.declared.Outcome.TheVariants.{Void}
use Rattle.slot.specs.Slot.{StateView, slot, event}
use Rattle.runs.specs.Run.{is_picked, ends_in, Run, event_at, IsTask}
use Rattle.runs.specs.Pending.{PendingIn}
use Rattle.runs.specs.Response.{executed}

-- In slot n the picked job may choose: with this slot it was picked from its best to below its worst time.
pub record Chooses (ts : List TaskView) (f : ℕ → Event) (n : ℕ) : Type 0 where
  pub task : ℕ
  pub task_view : TaskView
  pub is_task : IsTask ts task task_view
  pub since : ℕ
  pub pending : PendingIn f task since n
  pub picked : is_picked (f n) task ≡ true
  pub best : task_view.best ≤ executed f task since (n + 1 - since)
  pub worst : executed f task since (n + 1 - since) < task_view.worst

-- The streams have A ways together. No number below A is void; A + w, with w below A, is void exactly if the picked job may not
-- choose in the slot of w; and every number from 2 A on is void.
pub record Numbered (ts : List TaskView) (picks : Picks) (trace : List Event) (m : StateView) : Type 0 where
  pub plain : (w : ℕ) → w < choices ts m.tasks → slot ts picks m w ≢ Void
  pub stay_if : (w : ℕ) → w < choices ts m.tasks → Chooses ts (event_at (trace ++ (event ts picks m w ∷ []))) (length trace) →
      slot ts picks m (1 * choices ts m.tasks + w) ≢ Void
  pub stay_then : (w : ℕ) → w < choices ts m.tasks → (slot ts picks m (1 * choices ts m.tasks + w) ≢ Void) →
      Chooses ts (event_at (trace ++ (event ts picks m w ∷ []))) (length trace)
  pub beyond : (w : ℕ) → 2 * choices ts m.tasks ≤ w → slot ts picks m w ≡ Void

abbrev pub NumberingLaw : List TaskView → Picks → Type 0
NumberingLaw ts picks = (ways : List ℕ) (trace : List Event) (m : StateView) → Run ts picks ways trace (ends_in m) →
    Numbered ts picks trace m
