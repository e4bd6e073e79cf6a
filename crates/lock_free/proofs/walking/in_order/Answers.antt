use Rattle.lock_free.proofs.ByKey.{sorted_by_key}
use Rattle.lock_free.proofs.walking.in_order.Goals as goal

pub returns : goal.returns
returns c = sorted_by_key _ _ c.sort_unstable.ensures.permutation c.sort_unstable.ensures.sorted
