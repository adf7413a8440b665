-- Plan records: 24 bytes, little-endian, one for each task.
use Rattle.std.specs.Prelude.{◌≡◌, ℕ, ◌+◌, ◌*◌, cond, List, [], ◌∷◌, length, drop, Some, None, Ok, Err, Option, Result, ◌==◌, not, slice_index}
use Rattle.std.specs.List.{position}
use Rattle.std.specs.Option.{option_map}
use Rattle.refusals.specs.declared.Fault.{Fault}
use Rattle.refusals.specs.declared.Refusal.TheVariants.{RecordLength, Kind, StreamBounds, ZeroBytes}
use Rattle.streams.specs.declared.either.Either.{Either}
use Rattle.streams.specs.declared.either.Either.TheVariants.{Left, Right}
use Rattle.streams.specs.declared.parameter.Parameter.{Parameter}
use Rattle.streams.specs.declared.periodic.Periodic.{Periodic}
use Rattle.streams.specs.declared.sporadic.Sporadic.{Sporadic}
use Rattle.streams.specs.Meaning.{Meaning}
use Rattle.streams.specs.Parameters.{periodic_fault, sporadic_fault}
use Rattle.streams.specs.Periodic.{periodic}
use Rattle.streams.specs.Sporadic.{sporadic}
use Rattle.plans.specs.declared.record.Letter.{Letter}
use Rattle.plans.specs.declared.record.Letter.TheVariants.{P, S}
use Rattle.plans.specs.Fields.{parameter_offset}
use Rattle.plans.specs.declared.plan.Plan.{Plan}
use Rattle.plans.specs.declared.plan.Task.{Task}
use Rattle.plans.specs.Tasks.{TaskView, task_view, task_views}
use Rattle.plans.specs.Cut.{pieces}
use Rattle.plans.specs.Adding.{fault_at, read_numbers, adding}

-- What a stream of either kind means.
abbrev pub kind_meaning : Either Periodic Sporadic → Meaning
kind_meaning (Left s) = periodic s.period s.jitter s.offset
kind_meaning (Right s) = sporadic s.least s.greatest s.offset

-- The letter of a kind, and the number of two bytes.
abbrev pub letter_of : ℕ → Option Letter
letter_of b = cond (b == 80) (Some P) (cond (b == 83) (Some S) None)

abbrev pub word : List ℕ → ℕ → ℕ
word bs i = slice_index bs i + 256 * slice_index bs (i + 1)

-- The stream that a record names: offset in bytes 8 and 9, period or least gap in 10 and 11, jitter or greatest gap in 12 and 13.
abbrev pub stream_fault : Letter → ℕ → ℕ → ℕ → Option Parameter
stream_fault P o x y = periodic_fault x y o
stream_fault S o x y = sporadic_fault x y o

abbrev pub stream_meaning : Letter → ℕ → ℕ → ℕ → Meaning
stream_meaning P o x y = periodic x y o
stream_meaning S o x y = sporadic x y o

-- The offset of the first byte that is not 0, counted from i.
abbrev pub first_nonzero : ℕ → List ℕ → Option ℕ
first_nonzero i bs = option_map (λ n. i + n) (position (λ b. not (b == 0)) bs)

-- The checks of a record, in their order: its length, its letter, the task's numbers, the stream's, and the bytes that are 0.
abbrev pub check_zeros : ℕ → Option ℕ → TaskView → Result TaskView Fault
check_zeros number None t = Ok t
check_zeros number (Some i) t = Err (fault_at ZeroBytes number i)

abbrev pub check_stream : ℕ → Option Parameter → Result TaskView Fault → Result TaskView Fault
check_stream number None rest = rest
check_stream number (Some p) rest = Err (fault_at StreamBounds number (parameter_offset p))

abbrev pub then_check : Result TaskView Fault → (TaskView → Result TaskView Fault) → Result TaskView Fault
then_check (Ok t) rest = rest t
then_check (Err f) rest = Err f

abbrev pub read_lettered : ℕ → List ℕ → Option Letter → Result TaskView Fault
read_lettered number bs None = Err (fault_at Kind number 0)
read_lettered number bs (Some k) =
    then_check (read_numbers number (stream_meaning k (word bs 8) (word bs 10) (word bs 12)) (slice_index bs 1) (word bs 2) (word bs 4) (word bs 6))
    (λ t. check_stream number (stream_fault k (word bs 8) (word bs 10) (word bs 12)) (check_zeros number (first_nonzero 14 (drop 14 bs)) t))

abbrev pub read_record : ℕ → List ℕ → Result TaskView Fault
read_record number bs = cond (length bs == 24) (read_lettered number bs (letter_of (slice_index bs 0))) (Err (fault_at RecordLength number 0))

-- The code's answer is what is read.
abbrev pub Reads : Result (Task (Either Periodic Sporadic)) Fault → Result TaskView Fault → Type 0
Reads (Ok t) reading = reading ≡ Ok (task_view kind_meaning t)
Reads (Err f) reading = reading ≡ Err f

-- The records of a plan's bytes, at most n of them: each has 24 bytes, and a shorter rest is the last.
abbrev pub records : ℕ → List ℕ → List (List ℕ)
records = pieces 24

-- All records are added in order; the first refusal is the answer.
abbrev pub add_next : Result (List TaskView) Fault → List ℕ → Result (List TaskView) Fault
add_next (Ok ts) r = adding ts (read_record (length ts + 1) r)
add_next (Err f) r = Err f

abbrev pub add_records : Result (List TaskView) Fault → List (List ℕ) → Result (List TaskView) Fault
add_records so_far [] = so_far
add_records so_far (r ∷ rs) = add_records (add_next so_far r) rs

-- The tasks of a plan's bytes. Nine records are enough to tell: a plan has at most eight tasks.
abbrev pub read_plan : List ℕ → Result (List TaskView) Fault
read_plan bs = add_records (Ok []) (records 9 bs)

abbrev pub ReadsPlan : Result (Plan (Either Periodic Sporadic)) Fault → Result (List TaskView) Fault → Type 0
ReadsPlan (Ok p) reading = reading ≡ Ok (task_views kind_meaning p.tasks)
ReadsPlan (Err f) reading = reading ≡ Err f
