-- What an outcome tells.
use Rattle.std.specs.Prelude.{◌≡◌, None, Option, refl}
use Rattle.outcome.specs.declared.Ended.{Ended}
use Rattle.outcome.specs.declared.Outcome.{Outcome}
use Rattle.outcome.specs.declared.Outcome.TheVariants.{Void, Late, Next}

-- The job that ended in the slot, if any.
abbrev pub ended_in : {T : Type 0} → Outcome T → Option Ended
ended_in Void = None
ended_in (Late task cause ended) = ended
ended_in (Next state ended) = ended

-- An outcome, by a view of its state.
abbrev pub outcome_by : {T V : Type 0} → (T → V) → Outcome T → Outcome V
outcome_by view Void = Void
outcome_by view (Late task cause ended) = Late task cause ended
outcome_by view (Next state ended) = Next (view state) ended

-- A view tells the same job.
pub ended_seen : {T V : Type 0} (view : T → V) (o : Outcome T) → ended_in (outcome_by view o) ≡ ended_in o
ended_seen view Void = refl
ended_seen view (Late task cause ended) = refl
ended_seen view (Next state ended) = refl
