use Rattle.std.proofs.lemmas.Bool.Decides.{Decides-at}
use Rattle.slot.specs.Same.{states_decide}
use Rattle.slot.proofs.state.State.is.Goals as goal

pub returns-clause-exact : goal.returns-clause-exact
returns-clause-exact c = Decides-at _ _ c.eq.ensures (states_decide _ _)
