-- The letters of the causes.
use Rattle.std.specs.Prelude.{ℕ}
use Rattle.outcome.specs.declared.Cause.{Cause}
use Rattle.outcome.specs.declared.Cause.TheVariants.{Overlap, Deadline}

-- O and D.
abbrev pub letter_of : Cause → ℕ
letter_of Overlap = 79
letter_of Deadline = 68
