-- The listing of a plan and of evidence for it, and what it rests on.
use Rattle.std.specs.Prelude.{◌≡◌, ℕ, ◌≤◌, Bool, cond, List, ◌++◌, length, drop, Ok, Err, Result, nat_lt}
use Rattle.refusals.specs.declared.Fault.{Fault}
use Rattle.refusals.specs.declared.Refusal.TheVariants.{Length}
use Rattle.dispatch.specs.Picks.{Picks}
use Rattle.exploration.specs.Table.{opened, opened_rows}
use Rattle.plans.specs.Tasks.{TaskView}
use Rattle.plans.specs.Record.{read_plan}
use Rattle.slot.specs.Slot.{StateView}
use Rattle.table.specs.Calls.{Opening, new, none}
use Rattle.evidence.specs.History.{ByteHistory}
use Rattle.evidence.specs.Law.{KeptLaw}
use Rattle.evidence.specs.Opening.{open_plan}
use Rattle.schedule.specs.PlanSystem.{plan_system}
use Rattle.windows.specs.Window.{WindowLaw}
use Rattle.listing.specs.declared.part.Part.TheVariants.{Plan}
use Rattle.listing.specs.Lines.{table_lines, refused_line, halt_lines}
use Rattle.listing.specs.Finish.{Progress, finished}
use Rattle.listing.specs.Bringing.{Ended}

-- The lines of a table, and of the refusal that ended the work on it, if any.
abbrev pub progress_lines : {S : Type 0} → Progress S → List ℕ
progress_lines p = table_lines p.table ++ halt_lines p.halt

abbrev pub plan_refused : Fault → List ℕ
plan_refused f = refused_line (record { part = Plan; fault = f })

module _ (picks : Picks) (size : ℕ) (evidence : List ℕ) where
  -- A table that does not open is refused; else all evidence is taken, and steps are made until the stage is not walking.
  abbrev pub opening_lines : (ts : List TaskView) → Opening StateView → List ℕ
  opening_lines ts (none f) = plan_refused f
  opening_lines ts (new t rows) = progress_lines (finished (plan_system ts picks) evidence t rows)

  abbrev pub plan_lines : Result (List TaskView) Fault → List ℕ
  plan_lines (Err f) = plan_refused f
  plan_lines (Ok ts) = opening_lines ts (open_plan (plan_system ts picks) size)

-- The listing of a plan's bytes and of evidence, under a dispatch rule, with so many rows.
abbrev pub listing_of : Picks → ℕ → List ℕ → List ℕ → List ℕ
listing_of picks size plan evidence = plan_lines picks size evidence (read_plan plan)

-- What a listing says of a plan rests on a table that was kept: a history through bytes led to it, the law of kept tables holds of it, and
-- so does what it says of the plan's own runs. Unless a refusal ended the work, it is complete or late.
pub record RestsOn (ts : List TaskView) (picks : Picks) (p : Progress StateView) : Type 0 where
  pub kept : List (List ℕ)
  pub full : Bool
  pub history : ByteHistory (plan_system ts picks) kept full p.table p.rows
  pub law : KeptLaw (plan_system ts picks) kept full p.table p.rows
  pub windows : WindowLaw ts picks p.table p.rows
  pub ended : Ended p.halt p.table.stage

abbrev pub PlanRests : Picks → ℕ → List ℕ → List TaskView → Type 0
PlanRests picks size evidence ts =
    1 ≤ length ts → RestsOn ts picks (finished (plan_system ts picks) evidence (opened (plan_system ts picks) size) (opened_rows (plan_system ts picks)))

abbrev pub ListingLaw : Picks → ℕ → List ℕ → List ℕ → Type 0
ListingLaw picks size plan evidence = (ts : List TaskView) → read_plan plan ≡ Ok ts → PlanRests picks size evidence ts

-- A place of under 512 bytes is refused.
abbrev pub answer_for : List ℕ → List ℕ → Result ℕ Fault
answer_for text place = cond (nat_lt (length place) 512) (Err (record { refusal = Length; at = (0, 0) })) (Ok (length text))

abbrev pub place_after : List ℕ → List ℕ → List ℕ
place_after text place = cond (nat_lt (length place) 512) place (text ++ drop (length text) place)

-- The answer is the length of the text, which stands in the first bytes of the place; the rest of the place is as it was.
pub record Writes (text : List ℕ) (r : Result ℕ Fault) (place place' : List ℕ) : Type 0 where
  pub answer : r ≡ answer_for text place
  pub after : place' ≡ place_after text place

-- The listing is written so, and rests on the law.
pub record Lists (picks : Picks) (size : ℕ) (plan evidence : List ℕ) (r : Result ℕ Fault) (place place' : List ℕ) : Type 0 where
  pub writes : Writes (listing_of picks size plan evidence) r place place'
  pub law : 512 ≤ length place → ListingLaw picks size plan evidence
