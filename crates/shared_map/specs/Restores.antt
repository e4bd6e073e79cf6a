-- What a restore makes of the handles, and why it isn't begun.
use Rattle.std.specs.Prelude.{◌≡◌, ℕ, ◌+◌, ◌&&◌, not, nat_eq, nat_le, Option, Some}
use Rattle.std.specs.FinMap as map
use Rattle.shared_map.specs.Vocabulary.{Writable, naming, HandleMap, HandleState, handle_limit}
use Rattle.ctrie_map.specs.Costs.{work_of_a_close, work_of_a_copy}
use Rattle.ctrie_map.specs.declared.errors.MapError.{MapError}
use Rattle.ctrie_map.specs.Drafts.{IsWritable}
use Rattle.ctrie_map.specs.Restoring.{restore_denial_by}

-- The writable handle has the map of the copy, whatever the copy's kind; all other handles stay.
abbrev pub RestoresAmong : HandleMap → ℕ → ℕ → HandleMap → Type 0
RestoresAmong world handle copy next =
    (shown : HandleState) × IsWritable world handle × (map.get world copy ≡ Some shown) × (next ≡ naming world handle Writable shown.pairs)

-- why it isn't begun where these handles are open
abbrev pub restore_denial_among : HandleMap → ℕ → ℕ → Option MapError
restore_denial_among world handle copy =
    restore_denial_by (map.get world handle) (map.get world copy) (not (nat_eq handle copy) && nat_le handle_limit (map.len world))

abbrev pub work_of_a_restore : ℕ
work_of_a_restore = work_of_a_copy + work_of_a_close
