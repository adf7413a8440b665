-- The lines of a listing.
use Rattle.std.specs.Prelude.{ℕ, zero, suc, List, [], ◌∷◌, ◌++◌, Some, None, codes, decimal, Option}
use Rattle.refusals.specs.Refusals.{number_of}
use Rattle.outcome.specs.Letters.{letter_of}
use Rattle.exploration.specs.declared.Shown.{Shown}
use Rattle.exploration.specs.declared.Times.{Times}
use Rattle.exploration.specs.declared.Stage.{Stage}
use Rattle.exploration.specs.declared.Stage.TheVariants.{Walking as walking, Complete as complete, Late as late}
use Rattle.exploration.specs.Table.{Table}
use Rattle.listing.specs.declared.part.Halt.{Halt}
use Rattle.listing.specs.Parts.{part_letter}

-- A line: fields parted by one space, and byte 10 at its end.
abbrev pub line : List ℕ → List (List ℕ) → List ℕ
line field [] = field ++ (10 ∷ [])
line field (next ∷ rest) = field ++ (32 ∷ line next rest)

-- A response time, or - for none.
abbrev pub time_field : Option Shown → List ℕ
time_field None = codes "-"
time_field (Some x) = decimal x.response

-- A task, its least and its greatest response time.
abbrev pub task_line : ℕ → Times → List ℕ
task_line k times = line (decimal k) (time_field times.least ∷ time_field times.greatest ∷ [])

abbrev pub task_lines : (ℕ → Times) → ℕ → List ℕ
task_lines times zero = []
task_lines times (suc n) = task_lines times n ++ task_line (suc n) (times (suc n))

-- The stage, the rows held and the ways walked; a late table adds the task and the cause.
abbrev pub stage_field : Stage → List ℕ
stage_field walking = codes "walking"
stage_field complete = codes "complete"
stage_field (late i w k c) = codes "late"

abbrev pub late_fields : Stage → List (List ℕ)
late_fields walking = []
late_fields complete = []
late_fields (late i w k c) = decimal k ∷ (letter_of c ∷ []) ∷ []

abbrev pub stage_line : Stage → ℕ → ℕ → List ℕ
stage_line stage held walked = line (stage_field stage) (decimal held ∷ decimal walked ∷ late_fields stage)

-- A table: a line for each task, and the line of its stage.
abbrev pub table_lines : Table → List ℕ
table_lines t = task_lines t.times t.tasks ++ stage_line t.stage t.held t.walked

-- A refusal: what it ended, its number and its two places.
abbrev pub refused_line : Halt → List ℕ
refused_line h =
    line (codes "refused")
    ((part_letter h.part ∷ []) ∷ decimal (number_of h.fault.refusal) ∷ decimal h.fault.at.0 ∷ decimal h.fault.at.1 ∷ [])

abbrev pub halt_lines : Option Halt → List ℕ
halt_lines None = []
halt_lines (Some h) = refused_line h
