use Rattle.std.proofs.Common.{ℕ, List, ◌+◌, ◌*◌, length}
use Rattle.std.specs.List.{flat_map}
use Rattle.machine_core.specs.Vocabulary.{pairs_below, Grows, entries_below, Covers}
use Rattle.machine_core.proofs.comparing.+comparing.Given as goal

abbrev pub decreases-compare : goal.decreases-compare
decreases-compare l = 2 * l.levels

abbrev pub decreases-compare_mains : goal.decreases-compare_mains
decreases-compare_mains l = 2 * l.levels + 1

-- what covers the entries that are left, and these keys, covers all
abbrev pub invariant-compare_mains-loop-news : goal.invariant-compare_mains-loop-news
invariant-compare_mains-loop-news l = record {
  grows : Grows l.initial.keys.items l.keys.items;
  covers : (later : List ℕ) → Grows l.keys.items later →
      Covers later (flat_map (pairs_below l.levels l.heap.heap) l.olds.entries.now) (flat_map (pairs_below l.levels l.heap.heap) l.news.entries.now) →
      Covers later (flat_map (pairs_below l.levels l.heap.heap) (entries_below l.heap.heap l.fn.older)) (flat_map (pairs_below l.levels l.heap.heap) (entries_below l.heap.heap l.fn.newer));
}

abbrev pub decreases-compare_mains-loop-news : goal.decreases-compare_mains-loop-news
decreases-compare_mains-loop-news l = length l.olds.entries.now + length l.news.entries.now
