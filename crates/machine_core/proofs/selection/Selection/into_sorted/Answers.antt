use Rattle.std.specs.BinaryHeap.{heap_items}
use Rattle.machine_core.proofs.Sorting.{sorted_by_key}
use Rattle.machine_core.proofs.selection.Selection.into_sorted.Goals as goal

pub returns : goal.returns
returns c =
    sorted_by_key (heap_items c.args.self.pairs) c.into_sorted_vec.result.items c.into_sorted_vec.ensures.permutation (c.into_sorted_vec.ensures.sorted c.args.self.ordered)
