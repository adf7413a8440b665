-- What a replay says of a list of ways.
use Rattle.std.specs.Prelude.{◌≡◌, ℕ, ◌<◌, ◌≤◌, min, List, length, take, drop, slice_index}
use Rattle.dispatch.specs.Picks.{Picks}
use Rattle.slot.specs.declared.event.Event.{Event}
use Rattle.plans.specs.Tasks.{TaskView}
use Rattle.outcome.specs.declared.Outcome.TheVariants.{Void as NoWay}
use Rattle.slot.specs.Slot.{StateView, slot, state_view}
use Rattle.runs.specs.declared.Replayed.{Replayed}
use Rattle.runs.specs.declared.Stop.{Stop}
use Rattle.runs.specs.declared.Stop.TheVariants.{Void, Late, End}
use Rattle.runs.specs.Run.{ends_in, ends_late, Run}

-- Why it stopped after n slots, whose ways are a run with the trace that was written: the next way is void; or the run is late; or
-- the ways, or the places for events, came to an end.
abbrev pub Stopped : List TaskView → Picks → List ℕ → List Event → ℕ → Stop → Type 0
Stopped ts picks ways trace n Void =
    (m : StateView) × Run ts picks (take n ways) (take n trace) (ends_in m) × (n < length ways) × (slot ts picks m (slice_index ways n) ≡ NoWay)
Stopped ts picks ways trace n (Late k c) = Run ts picks (take n ways) (take n trace) (ends_late k c)
Stopped ts picks ways trace n (End s) =
    (n ≡ min (length ways) (length trace)) × Run ts picks (take n ways) (take n trace) (ends_in (state_view s))

pub record Replays (ts : List TaskView) (picks : Picks) (ways : List ℕ) (before after : List Event) (r : Replayed) : Type 0 where
  pub within_ways : r.slots ≤ length ways
  pub within_trace : r.slots ≤ length after
  pub rest : drop r.slots after ≡ drop r.slots before
  pub stop : Stopped ts picks ways after r.slots r.stop
