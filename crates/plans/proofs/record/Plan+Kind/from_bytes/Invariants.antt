use Rattle.std.proofs.Common.{◌≡◌, ◌-◌, length, Ok}
use Rattle.std.specs.Slice.Iter.{chunks_rest, chunks_size}
use Rattle.plans.specs.Tasks.{task_views}
use Rattle.plans.specs.Record.{kind_meaning, records, add_records, read_plan}
use Rattle.plans.proofs.record.Plan+Kind.from_bytes.Given as goal

-- what is left to add, to what was added, gives the answer
abbrev pub invariant-loop-record : goal.invariant-loop-record
invariant-loop-record l =
    (chunks_size l.record-iterator ≡ 24)
    × (add_records (Ok (task_views kind_meaning l.plan.tasks)) (records (9 - length (task_views kind_meaning l.plan.tasks)) (chunks_rest l.record-iterator))
    ≡ read_plan l.bytes)
