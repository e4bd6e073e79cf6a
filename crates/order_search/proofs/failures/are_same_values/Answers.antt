use Rattle.order_search.proofs.Alike.{values_decide}
use Rattle.order_search.proofs.failures.are_same_values.Goals as goal

pub returns : goal.returns
returns c = (values_decide _ _ _ c.eq.ensures).0
