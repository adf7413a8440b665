use Rattle.std.proofs.Common.{◌≡◌, vec_len}
use Rattle.peer.proofs.scheduler.Peer.new.Given as goal

abbrev pub invariant-loop-i : goal.invariant-loop-i
invariant-loop-i l = vec_len l.tasks ≡ l.i
