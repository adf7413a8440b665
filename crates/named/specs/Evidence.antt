-- Evidence for the sample plan, drawn up by the rules.
use Rattle.std.specs.Prelude.{◌≡◌, ℕ, true, List, [], ◌∷◌, Ok}
use Rattle.refusals.specs.declared.Refusal.TheVariants.{StateHeld, NoRowLeft}
use Rattle.streams.specs.Periodic.{periodic}
use Rattle.dispatch.specs.Picks.{by_priority}
use Rattle.plans.specs.Tasks.{TaskView}
use Rattle.plans.specs.Record.{read_plan}
use Rattle.slot.specs.Slot.{StateView}
use Rattle.exploration.specs.declared.Claim.TheVariants.{Target, Void}
use Rattle.exploration.specs.declared.Record.{Record}
use Rattle.exploration.specs.declared.Record.TheVariants.{Grow, Walk}
use Rattle.exploration.specs.System.{System, NeverLate}
use Rattle.exploration.specs.Table.{opened, opened_rows}
use Rattle.exploration.specs.Calls.{After, accepted, refused}
use Rattle.exploration.specs.Evidence.{DrawnUp}
use Rattle.exploration.specs.NewTable.{RowsEnough}
use Rattle.evidence.specs.Wire.{written}
use Rattle.evidence.specs.Calls.{take_bytes, step_into}
use Rattle.evidence.specs.History.{ByteHistory}
use Rattle.schedule.specs.PlanSystem.{plan_system}
use Rattle.named.specs.Plans.{sample}

-- The tasks of the sample plan, and its system.
abbrev pub sample_tasks : List TaskView
sample_tasks =
    record { stream = periodic 2 0 0; priority = 2; best = 1; worst = 1; deadline = 2 }
    ∷ record { stream = periodic 4 0 0; priority = 1; best = 1; worst = 2; deadline = 4 } ∷ []

abbrev pub sample_system : System StateView
sample_system = plan_system sample_tasks by_priority

-- Rows are grown as soon as they can be, the run in which the second task works two slots first.
abbrev pub other_order : List Record
other_order =
    Grow 1 0 ∷ Grow 2 1 ∷ Grow 3 0 ∷ Grow 2 0 ∷ Grow 5 0
    ∷ Walk 1 0 (Target 2) ∷ Walk 1 1 Void ∷ Walk 2 0 (Target 5) ∷ Walk 2 1 (Target 3) ∷ Walk 3 0 (Target 4) ∷ Walk 3 1 Void
    ∷ Walk 4 0 (Target 1) ∷ Walk 4 1 Void ∷ Walk 5 0 (Target 6) ∷ Walk 5 1 Void ∷ Walk 6 0 (Target 1) ∷ Walk 6 1 Void ∷ []

-- There is evidence drawn up by the rules for a plan that is never late, and six rows are enough for its states.
pub record EvidenceExists : Type 0 where
  pub tasks : read_plan sample ≡ Ok sample_tasks
  pub never_late : NeverLate sample_system
  pub enough : RowsEnough sample_system 6
  pub drawn_up : DrawnUp sample_system other_order

-- A table of five rows, and one more call on it: a take of bytes, and a step with a place of 32 bytes.
abbrev pub new_of_five : After StateView
new_of_five = record { answer = accepted; table = opened sample_system 5; rows = opened_rows sample_system; records = [] }

abbrev pub then_take : Record → After StateView → After StateView
then_take r a = take_bytes sample_system (written r) a.table a.rows

abbrev pub then_step : After StateView → After StateView
then_step a = step_into sample_system 32 a.table a.rows

-- Row 2 is grown, and once more, which is refused; then seven steps, of which the last finds no row left.
abbrev pub grown_twice : After StateView
grown_twice = then_take (Grow 1 0) (then_take (Grow 1 0) new_of_five)

abbrev pub full_of_five : After StateView
full_of_five = then_step (then_step (then_step (then_step (then_step (then_step (then_step grown_twice))))))

-- There is a history of such a table, with takes, steps and refusals.
pub record HistoryExists : Type 0 where
  pub kept : List (List ℕ)
  pub history : ByteHistory sample_system kept true full_of_five.table full_of_five.rows
  pub refused_take : grown_twice.answer ≡ refused (record { refusal = StateHeld; at = (1, 0) })
  pub refused_step : full_of_five.answer ≡ refused (record { refusal = NoRowLeft; at = (4, 0) })
  pub walked : full_of_five.table.walked ≡ 6
