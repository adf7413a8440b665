use Rattle.std.proofs.Common.{◌≡◌, ◌+◌, drop}
use Rattle.dispatch.specs.Picks.{best, greatest}
use Rattle.dispatch.proofs.greatest.first_job.Given as goal

-- what is left to see, from what was seen, gives the answer
abbrev pub invariant-loop-i : goal.invariant-loop-i
invariant-loop-i g l =
    let key = g.K.Keyed.key l.rule in
    (best key (l.i + 1) (drop l.i l.tasks) (record { task = l.task; rank = l.rank })).task ≡ greatest key l.tasks 0
