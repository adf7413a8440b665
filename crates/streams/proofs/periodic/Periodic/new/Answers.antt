-- What the stream of good parameters keeps.
use Rattle.std.proofs.Common.{arith, rules}
use Rattle.streams.specs.Kind.{admits, one_to_one}
use Rattle.streams.specs.PeriodicRule.{periodic_kind}
use Rattle.streams.proofs.periodic.Periodic.new.Goals as goal

pub returns-else-jitter-period : goal.returns-else-jitter-period
returns-else-jitter-period c =
    let kind = periodic_kind c.args.period c.args.jitter c.args.offset (omega arith) in
    record { value = search rules; fault = search rules; patterns = admits kind; coding = one_to_one kind }
