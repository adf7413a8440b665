use Rattle.std.proofs.Common.{[], ◌∷◌}
use Rattle.listing.proofs.Puts.{then_put}
use Rattle.listing.proofs.page.Page.put_word.Goals as goal

pub returns-clause-put : goal.returns-clause-put
returns-clause-put c = then_put c.args.word.now (c.args.end ∷ []) _ _ _ c.put.ensures c.put-2.ensures
