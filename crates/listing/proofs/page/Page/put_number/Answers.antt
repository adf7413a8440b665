use Rattle.std.proofs.Common.{[], ◌∷◌, decimal}
use Rattle.listing.proofs.Puts.{then_put}
use Rattle.listing.proofs.page.Page.put_number.Goals as goal

pub returns-clause-put : goal.returns-clause-put
returns-clause-put c = then_put (decimal c.args.n) (c.args.end ∷ []) _ _ _ c.put_digits.ensures c.put.ensures
