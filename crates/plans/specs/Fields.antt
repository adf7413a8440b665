-- Which numbers a task may have, and where they stand in a plan record.
use Rattle.std.specs.Prelude.{ℕ, cond, ◌||◌, Some, None, Option, nat_lt}
use Rattle.streams.specs.declared.parameter.Parameter.{Parameter}
use Rattle.streams.specs.declared.parameter.Parameter.TheVariants.{Offset, Period, Jitter, LeastGap, GreatestGap}
use Rattle.plans.specs.declared.field.Field.{Field}
use Rattle.plans.specs.declared.field.Field.TheVariants.{Priority, Best, Worst, Deadline}
use Rattle.plans.specs.Limits.{worst_limit, deadline_limit}

-- The first number of a task that is out of bounds: the priority is at least 1, and so is the best time; the worst time is at
-- least the best and at most its limit; the deadline is at least the worst time and at most its limit.
abbrev pub times_fault : ℕ → ℕ → ℕ → ℕ → Option Field
times_fault priority best worst deadline =
    cond (nat_lt priority 1) (Some Priority)
    (cond (nat_lt best 1) (Some Best)
    (cond (nat_lt worst best || nat_lt worst_limit worst) (Some Worst)
    (cond (nat_lt deadline worst || nat_lt deadline_limit deadline) (Some Deadline) None)))

-- Where a task's number, and a stream's parameter, stands in a plan record.
abbrev pub field_offset : Field → ℕ
field_offset Priority = 1
field_offset Best = 2
field_offset Worst = 4
field_offset Deadline = 6

abbrev pub parameter_offset : Parameter → ℕ
parameter_offset Offset = 8
parameter_offset Period = 10
parameter_offset LeastGap = 10
parameter_offset Jitter = 12
parameter_offset GreatestGap = 12
