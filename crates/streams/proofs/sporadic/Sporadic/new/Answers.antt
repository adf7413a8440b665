-- What the stream of good parameters keeps.
use Rattle.std.proofs.Common.{arith, rules}
use Rattle.streams.specs.Kind.{admits, one_to_one}
use Rattle.streams.specs.SporadicRule.{sporadic_kind}
use Rattle.streams.proofs.sporadic.Sporadic.new.Goals as goal

pub returns-else-greatest_gap-gt-SLOT_LIMIT : goal.returns-else-greatest_gap-gt-SLOT_LIMIT
returns-else-greatest_gap-gt-SLOT_LIMIT c =
    let kind = sporadic_kind c.args.least_gap c.args.greatest_gap c.args.offset (omega arith) (omega arith) in
    record { value = search rules; fault = search rules; patterns = admits kind; coding = one_to_one kind }
