use Rattle.named.proofs.Drawn.{evidence_exists, history_exists}
use Rattle.named.proofs.sample_kept.Goals as goal

pub returns : goal.returns
returns c = record { evidence = evidence_exists; history = history_exists }
