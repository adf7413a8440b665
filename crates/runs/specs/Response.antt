-- What a response says about a run.
use Rattle.std.specs.Prelude.{◌≡◌, ℕ, zero, suc, ◌+◌, ◌-◌, ◌<◌, ◌≤◌, true, false, cond, List, Some, None}
use Rattle.dispatch.specs.Picks.{Picks}
use Rattle.slot.specs.declared.event.Event.{Event}
use Rattle.plans.specs.Tasks.{TaskView}
use Rattle.runs.specs.Run.{arrives, is_picked, response, Ending, Run, event_at, IsTask}

-- In how many of the c slots from slot a on task k is picked.
abbrev pub executed : (ℕ → Event) → ℕ → ℕ → ℕ → ℕ
executed f k a zero = 0
executed f k a (suc c) = executed f k a c + cond (is_picked (f (a + c)) k) 1 0

-- The job of task k that ends in slot n with response x arrived in slot n + 1 - x. Since then task k had no other arrival
-- and no other job of it ended; it is picked in slot n, and in as many slots as its best to its worst time.
pub record Responds (f : ℕ → Event) (k : ℕ) (t : TaskView) (n x : ℕ) : Type 0 where
  pub some : 1 ≤ x
  pub within : x ≤ n + 1
  pub came : arrives (f (n + 1 - x)) k ≡ true
  pub alone : (i : ℕ) → n + 1 - x < i → i ≤ n → arrives (f i) k ≡ false
  pub unended : (i : ℕ) → n + 1 - x ≤ i → i < n → response (f i) k ≡ None
  pub picked : is_picked (f n) k ≡ true
  pub best : t.best ≤ executed f k (n + 1 - x) x
  pub worst : executed f k (n + 1 - x) x ≤ t.worst

abbrev pub ResponseLaw : List TaskView → Picks → Type 0
ResponseLaw ts picks = (ways : List ℕ) (trace : List Event) (end : Ending) → Run ts picks ways trace end →
    (k : ℕ) (t : TaskView) → IsTask ts k t →
    (n x : ℕ) → response (event_at trace n) k ≡ Some x → Responds (event_at trace) k t n x
