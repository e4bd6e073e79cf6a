use Rattle.order_search.proofs.Alike.{ids_decide}
use Rattle.order_search.proofs.failures.are_same_ids.Goals as goal

pub returns : goal.returns
returns c = (ids_decide _ _ _ c.eq.ensures).0
