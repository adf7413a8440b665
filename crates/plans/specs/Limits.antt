-- The limits of a plan's numbers. Each stands once in the code too, in limits.rt.
use Rattle.std.specs.Prelude.{ℕ}

-- A plan has at most so many tasks.
abbrev pub task_limit : ℕ
task_limit = 8

-- The greatest worst execution time, in slots.
abbrev pub worst_limit : ℕ
worst_limit = 1000

-- The greatest deadline, in slots: no job that stands has more work or age.
abbrev pub deadline_limit : ℕ
deadline_limit = 1023
