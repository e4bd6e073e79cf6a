-- What an operation holds is live, and stays so while others take steps.
use Rattle.std.proofs.Common.{inl, inr, Contains, sym, subst}
use Rattle.machine_model.specs.Beneath.slot_arena.specs.declared.refs.Ref.{Ref}
use Rattle.machine_model.specs.Beneath.slot_arena.specs.Refs.{slot_of}
use Rattle.machine_model.specs.declared.operations.Operation.{Operation}
use Rattle.lock_free.specs.declared.accounts.Account.{Account}
use Rattle.lock_free.specs.declared.rules.View.{View}
use Rattle.lock_free.specs.Accounts.{running}
use Rattle.lock_free.specs.Live.{at_hand, from_operation, IsLive}
use Rattle.lock_free.specs.Loading.{now, seen, Holds, Waited}
use Rattle.lock_free.proofs.Asked.{nodes_stay}
use Rattle.lock_free.proofs.LastingNodes.{entry_lives, hand_by, same_hash, same_entries}

module _ (v : View) (account : Account) (w : Waited v account) where
  hand_then : (o : Operation) → running v.sizes v.account v.actor o → (r : Ref) → Contains (at_hand (now v) o) r → IsLive (now (seen v account)) r
  hand_then o runs r c =
      let there = w.stays o runs in
      from_operation v.actor (record o { is_marked = there.0 }) r there.1 tt (subst (λ h. Contains (hand_by h o) r) (same_hash v.sizes v.account account) c)

  pub held_then : (r : Ref) → Holds v r → IsLive (now (seen v account)) r
  held_then r (o, runs, inl c) = hand_then o runs r c
  held_then r (o, runs, inr (main, slot, c, is, e)) =
      let there = nodes_stay v.sizes v.actor v.account account w.waited w.sound.bounds (slot_of main) slot is in
      entry_lives v.sizes account main r there.0 (hand_then o runs main c) there.1 (subst (λ xs. Contains xs r) (sym (same_entries slot.node there.0.node there.2)) e)
