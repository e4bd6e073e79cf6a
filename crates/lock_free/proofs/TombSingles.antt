-- The single of a tomb that is live.
use Rattle.std.proofs.Common.{◌≡◌, ◌<◌, true, length, get_or, refl, sym, ap, subst, arith}
use Rattle.machine_model.specs.Beneath.slot_arena.specs.declared.refs.Ref.{Ref}
use Rattle.machine_model.specs.Beneath.slot_arena.specs.declared.nodes.Node.{Node}
use Rattle.machine_model.specs.Beneath.slot_arena.specs.declared.nodes.Node.TheVariants.{Indirection, Branch, Single, Tomb, List as Listed}
use Rattle.machine_model.specs.Beneath.slot_arena.specs.Heaps.{node_at, no_ref, entries_of}
use Rattle.machine_model.specs.Machine.{AreBounds}
use Rattle.proof_memory.specs.Wants.{Holds, Is, TombOrList, ASingle, meets, is}
use Rattle.proof_memory.proofs.Claims.Nodes.{listed_entries}
use Rattle.proof_memory.proofs.Claims.Uses.{Meets}
use Rattle.proof_memory.proofs.Safety.AtEachTime.{safe_along}
use Rattle.proof_garbage.proofs.Known.{heaped_known}
use Rattle.lock_free.specs.declared.accounts.Account.{Account}
use Rattle.lock_free.specs.declared.sizes.Sizes.{Sizes}
use Rattle.lock_free.specs.Accounts.{bounds_for, state_of}
use Rattle.lock_free.specs.Live.{IsLive}
use Rattle.lock_free.specs.Nodes.{is_single}

pub same_kind : (node : Node) → meets ASingle node ≡ true → is_single node ≡ true
same_kind (Single key value) e = refl
same_kind (Indirection generation main) e = e
same_kind (Branch bitmap entries) e = e
same_kind (Tomb single) e = e
same_kind (Listed singles) e = e

pub tomb_single : (sizes : Sizes) (account : Account) → AreBounds (bounds_for sizes account.steps) → (main single : Ref) → IsLive (state_of sizes account) main →
    node_at (state_of sizes account).heap main ≡ Tomb single → is_single (node_at (state_of sizes account).heap single) ≡ true
tomb_single sizes account bounds main single lives tomb =
    let state = state_of sizes account in
    let safe = safe_along (bounds_for sizes account.steps) bounds account.steps in
    let taken : Holds (IsLive state) state.heap (Is main TombOrList) = is lives (ap (meets TombOrList) tomb) in
    let all = listed_entries (IsLive state) state.heap (heaped_known state safe (λ id. Unit {0})) {main = main} taken in
    let one : Meets (IsLive state) state.heap ASingle single = subst (λ n. Meets (IsLive state) state.heap ASingle (get_or (entries_of n) 0 no_ref)) tomb
    (all 0 no_ref (subst (λ n. 0 < length (entries_of n)) (sym tomb) (omega arith))) in
    same_kind (node_at state.heap single) one.1
