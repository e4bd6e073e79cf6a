use Rattle.std.proofs.Common.{◌∙◌}
use Rattle.snapshot.proofs.Sorting.{sorted_by_key}
use Rattle.snapshot.proofs.taken.in_order.Goals as goal

pub returns : goal.returns
returns c = c.from_vec.ensures ∙ sorted_by_key _ _ c.sort_unstable.ensures.permutation c.sort_unstable.ensures.sorted
