-- The refusals by number and in words.
use Rattle.std.specs.Prelude.{◌≡◌, ℕ, List, ◌++◌, codes, decimal}
use Rattle.refusals.specs.declared.Fault.{Fault}
use Rattle.refusals.specs.declared.Refusal.{Refusal}
use Rattle.refusals.specs.declared.Refusal.TheVariants.{RecordLength, Kind, TaskBounds, StreamBounds, ZeroBytes, PlanFull, PlanEmpty, RowCount, Length, Letters, Closed, RowNotHeld, NoSuchWay, WayVoidOrLate, StateHeld, NoRowLeft, NotNext, OutcomeWrong, NoSuchTask}

abbrev pub number_of : Refusal → ℕ
number_of RecordLength = 1
number_of Kind = 2
number_of TaskBounds = 3
number_of StreamBounds = 4
number_of ZeroBytes = 5
number_of PlanFull = 6
number_of PlanEmpty = 7
number_of RowCount = 8
number_of Length = 9
number_of Letters = 10
number_of Closed = 11
number_of RowNotHeld = 12
number_of NoSuchWay = 13
number_of WayVoidOrLate = 14
number_of StateHeld = 15
number_of NoRowLeft = 16
number_of NotNext = 17
number_of OutcomeWrong = 18
number_of NoSuchTask = 19

-- Two refusals of one number are the same.
abbrev pub OneToOne : Type 0
OneToOne = (a b : Refusal) → number_of a ≡ number_of b → a ≡ b

abbrev pub meaning_of : Refusal → List ℕ
meaning_of RecordLength = codes "plan record is not 24 bytes"
meaning_of Kind = codes "byte 0 is not P or S"
meaning_of TaskBounds = codes "priority, best or worst execution time, or deadline out of bounds"
meaning_of StreamBounds = codes "offset, period, jitter or gap out of bounds"
meaning_of ZeroBytes = codes "a byte that must be zero is not"
meaning_of PlanFull = codes "plan has eight tasks already"
meaning_of PlanEmpty = codes "plan has no task"
meaning_of RowCount = codes "number of rows is none or over 65535 at open, or later not as many"
meaning_of Length = codes "evidence record is not 16 bytes, step place under 32 or listing place under 512"
meaning_of Letters = codes "evidence letters or zero bytes are wrong"
meaning_of Closed = codes "table is complete or late"
meaning_of RowNotHeld = codes "row is not held"
meaning_of NoSuchWay = codes "row has no such way"
meaning_of WayVoidOrLate = codes "way is void or late"
meaning_of StateHeld = codes "state is already held"
meaning_of NoRowLeft = codes "state is new, but no row is left"
meaning_of NotNext = codes "not the next row and way"
meaning_of OutcomeWrong = codes "outcome is wrong"
meaning_of NoSuchTask = codes "task is not in the plan as opened"

-- A fault as it is shown: 'refused', the number, the two places, and the meaning.
abbrev pub text_of : Fault → List ℕ
text_of f =
    codes "refused " ++ (decimal (number_of f.refusal) ++ (codes " " ++ (decimal f.at.0 ++ (codes " " ++ (decimal f.at.1 ++
    (codes ": " ++ meaning_of f.refusal))))))
