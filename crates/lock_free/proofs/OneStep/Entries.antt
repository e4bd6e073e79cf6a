-- What stands in a live branch is an indirection or a single, and in a list or a tomb a single.
use Rattle.std.proofs.Common.{◌≡◌, ℕ, true}
use Rattle.machine_model.specs.Beneath.slot_arena.specs.declared.refs.Ref.{Ref}
use Rattle.machine_model.specs.Beneath.slot_arena.specs.Heaps.{node_at, entry_at}
use Rattle.machine_model.specs.Machine.{AreBounds}
use Rattle.proof_memory.specs.Wants.{Holds, Is, ABranch, AnEntry, ASingle, TombOrList, WithEntry, is_entry, meets}
use Rattle.proof_memory.proofs.Claims.Nodes.{branch_entries, listed_entries, at_position}
use Rattle.proof_memory.proofs.Safety.AtEachTime.{safe_along}
use Rattle.proof_garbage.proofs.Known.{heaped_known}
use Rattle.lock_free.specs.declared.accounts.Account.{Account}
use Rattle.lock_free.specs.declared.sizes.Sizes.{Sizes}
use Rattle.lock_free.specs.Accounts.{bounds_for, state_of}
use Rattle.lock_free.specs.Live.{IsLive}

pub entry_stands : (sizes : Sizes) (account : Account) → AreBounds (bounds_for sizes account.steps) → (main : Ref) (position : ℕ) →
    Holds (IsLive (state_of sizes account)) (state_of sizes account).heap (Is main ABranch) → Holds (IsLive (state_of sizes account)) (state_of sizes account).heap (Is main (WithEntry position)) →
    is_entry (node_at (state_of sizes account).heap (entry_at (state_of sizes account).heap main position)) ≡ true
entry_stands sizes account bounds main position branch within =
    let state = state_of sizes account in
    let safe = safe_along (bounds_for sizes account.steps) bounds account.steps in
    (at_position (IsLive state) state.heap AnEntry position (branch_entries (IsLive state) state.heap (heaped_known state safe (λ id. Unit {0})) branch) within).1

pub listed_stands : (sizes : Sizes) (account : Account) → AreBounds (bounds_for sizes account.steps) → (main : Ref) (position : ℕ) →
    Holds (IsLive (state_of sizes account)) (state_of sizes account).heap (Is main TombOrList) → Holds (IsLive (state_of sizes account)) (state_of sizes account).heap (Is main (WithEntry position)) →
    meets ASingle (node_at (state_of sizes account).heap (entry_at (state_of sizes account).heap main position)) ≡ true
listed_stands sizes account bounds main position listed within =
    let state = state_of sizes account in
    let safe = safe_along (bounds_for sizes account.steps) bounds account.steps in
    (at_position (IsLive state) state.heap ASingle position (listed_entries (IsLive state) state.heap (heaped_known state safe (λ id. Unit {0})) listed) within).1
