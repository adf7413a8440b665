-- Which parameters a kind takes, and which one is at fault.
use Rattle.std.specs.Prelude.{ℕ, cond, ◌||◌, Some, None, Option, nat_le, nat_lt}
use Rattle.streams.specs.declared.parameter.Parameter.{Parameter}
use Rattle.streams.specs.declared.parameter.Parameter.TheVariants.{Offset, Period, Jitter, LeastGap, GreatestGap}

-- No offset, period or gap is longer.
abbrev pub slot_limit : ℕ
slot_limit = 4000

-- The first at fault of offset, period and jitter.
abbrev pub periodic_fault : ℕ → ℕ → ℕ → Option Parameter
periodic_fault p j o =
    cond (nat_lt slot_limit o) (Some Offset)
    (cond (nat_lt p 1 || nat_lt slot_limit p) (Some Period)
    (cond (nat_le p j) (Some Jitter) None))

-- The first at fault of offset, least gap and greatest gap.
abbrev pub sporadic_fault : ℕ → ℕ → ℕ → Option Parameter
sporadic_fault a b o =
    cond (nat_lt slot_limit o) (Some Offset)
    (cond (nat_lt a 1) (Some LeastGap)
    (cond (nat_lt b a || nat_lt slot_limit b) (Some GreatestGap) None))
