use Rattle.std.proofs.Common.{◌≤◌}
use Rattle.peer.proofs.scheduler.Peer.ways.Given as goal

abbrev pub invariant-loop-task : goal.invariant-loop-task
invariant-loop-task l = 2 ≤ l.ways
