-- Adding a task to a plan.
use Rattle.std.specs.Prelude.{◌≡◌, ℕ, ◌+◌, true, cond, List, [], ◌∷◌, ◌++◌, length, is_ok, Some, None, Ok, Err, Option, Result, nat_lt}
use Rattle.refusals.specs.declared.Fault.{Fault}
use Rattle.refusals.specs.declared.Refusal.{Refusal}
use Rattle.refusals.specs.declared.Refusal.TheVariants.{TaskBounds, PlanFull}
use Rattle.streams.specs.Meaning.{Meaning}
use Rattle.plans.specs.declared.field.Field.{Field}
use Rattle.plans.specs.Fields.{times_fault, field_offset}
use Rattle.plans.specs.Limits.{task_limit}
use Rattle.plans.specs.Tasks.{TaskView}

-- A fault at a plan record: the record's number, and the offset of the first field at fault.
abbrev pub fault_at : Refusal → ℕ → ℕ → Fault
fault_at why number offset = record { refusal = why; at = (number, offset) }

-- A task is read from its numbers, or the first that is out of bounds refused.
abbrev pub task_or_fault : ℕ → TaskView → Option Field → Result TaskView Fault
task_or_fault number t None = Ok t
task_or_fault number t (Some f) = Err (fault_at TaskBounds number (field_offset f))

abbrev pub read_numbers : ℕ → Meaning → ℕ → ℕ → ℕ → ℕ → Result TaskView Fault
read_numbers number stream priority best worst deadline =
    task_or_fault number (record { stream = stream; priority = priority; best = best; worst = worst; deadline = deadline })
    (times_fault priority best worst deadline)

-- A task that was read comes after the others; a plan of eight tasks refuses it.
abbrev pub adding : List TaskView → Result TaskView Fault → Result (List TaskView) Fault
adding ts (Err f) = Err f
adding ts (Ok t) = cond (nat_lt (length ts) task_limit) (Ok (ts ++ (t ∷ []))) (Err (fault_at PlanFull (length ts + 1) 0))

-- The plan's tasks before and after, and the answer, are those of adding.
abbrev pub AddedSo : {U : Type 0} → List TaskView → Result U Fault → Result (List TaskView) Fault → Type 0
AddedSo after r (Ok ts) = (is_ok r ≡ true) × (after ≡ ts)
AddedSo after r (Err f) = r ≡ Err f

abbrev pub Added : {U : Type 0} → List TaskView → List TaskView → Result TaskView Fault → Result U Fault → Type 0
Added before after reading r = AddedSo after r (adding before reading)
