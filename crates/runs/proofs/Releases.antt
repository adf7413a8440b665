-- What an arrival brings, by whether there is one and whether a job stands. Assumes nothing.
use Rattle.std.proofs.Common.{◌≡◌, Bool, true, false, ◌&&◌, is_some, Some, None, Option, refl}
use Rattle.slot.specs.declared.state.Job.{Job}
use Rattle.slot.specs.Arrivals.{release_of, arrives, job_after, overlaps}

-- the job of a task after its stream's answer
abbrev pub given : Bool → Option Job → Option Job
given b o = job_after (release_of b o) o

pub overlap_is : (b : Bool) (o : Option Job) → overlaps (release_of b o) ≡ (b && is_some o)
overlap_is false o = refl
overlap_is true None = refl
overlap_is true (Some j) = refl

pub arrives_is : (b : Bool) (o : Option Job) → arrives (release_of b o) ≡ b
arrives_is false o = refl
arrives_is true None = refl
arrives_is true (Some j) = refl
