use Rattle.std.proofs.Common.{◌≡◌, false, length}
use Rattle.ctrie_map.specs.Vocabulary.{KeyMap}
use Rattle.ctrie_map.specs.Beneath.map_worlds.specs.Worlds.{world_of}
use Rattle.ctrie_map.specs.Cores.{IsCalm, is_worn_out}
use Rattle.ctrie_map.specs.Drafts.{HasMap, IsWritable}
use Rattle.ctrie_map.specs.Batches.{IsChanging}
use Rattle.ctrie_map.proofs.batches.change_each.Given as goal

-- some are changed, and these are left
abbrev pub invariant-loop-pair : goal.invariant-loop-pair
invariant-loop-pair l =
    IsCalm l.core.state × (is_worn_out l.core.state ≡ false) × IsWritable (world_of l.core.state) l.fn.handle
    × ((m : KeyMap) → HasMap (world_of l.fn.core.state) l.fn.handle m → IsChanging l.fn.batch l.fn.handle m l.fn.pairs l.fn.core.state l.left l.core.state)

abbrev pub decreases-loop-pair : goal.decreases-loop-pair
decreases-loop-pair l = length l.left
