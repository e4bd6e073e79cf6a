-- A step that changes no word.
use Rattle.std.proofs.Common.{◌≡◌, ℕ, false, Some, ap, inl, inr}
use Rattle.machine_model.specs.Beneath.slot_arena.specs.declared.refs.Ref.{Ref}
use Rattle.machine_model.specs.Beneath.slot_arena.specs.Refs.{slot_of}
use Rattle.machine_model.specs.declared.operations.Operation.{Operation}
use Rattle.machine_model.specs.Acting.{gone, operation_after}
use Rattle.machine_model.specs.Machine.{AreBounds}
use Rattle.machine_model.specs.Moves.{GoesOn}
use Rattle.machine_model.specs.Operations.{action_of}
use Rattle.machine_model.specs.States.{State, with_operation}
use Rattle.lock_free.specs.declared.accounts.Account.{Account}
use Rattle.lock_free.specs.declared.rules.Retired.{Retired}
use Rattle.lock_free.specs.declared.sizes.Sizes.{Sizes}
use Rattle.lock_free.specs.Accounts.{bounds_for, state_of, running, gone_on, HasGrown, WasRoot}
use Rattle.lock_free.specs.Live.{IsLive}
use Rattle.lock_free.specs.Making.{over_of}
use Rattle.lock_free.specs.Rules.{WasGarbage}
use Rattle.lock_free.specs.Steps.{Dropped, Leads}
use Rattle.lock_free.specs.Trying.{KeepsTries}
use Rattle.lock_free.proofs.OneStep.Aheads.{ahead_of}
use Rattle.lock_free.proofs.OneStep.Changing.{then, slot_then, births_then, live_less, live_then, roots_then, generations_then, others_then, own_then, no_more_then, still_then}
use Rattle.lock_free.proofs.OneStep.Doing.{CompletesNone}
use Rattle.lock_free.proofs.OneStep.Going.{bounds_after}

module _ (sizes : Sizes) (account : Account) (bounds : AreBounds (bounds_for sizes account.steps)) (actor : ℕ) (operation : Operation) (runs : running sizes account actor operation)
    (g : GoesOn (action_of (state_of sizes account) operation)) (none : CompletesNone (action_of (state_of sizes account) operation))
    (same : gone (state_of sizes account) actor operation ≡ with_operation (state_of sizes account) actor (Some (operation_after (state_of sizes account) operation))) where
  abbrev state : State
  state = state_of sizes account

  pub leads : (dropped : Dropped) → ((r : Ref) → IsLive (then sizes account bounds actor operation runs g) r → dropped (slot_of r) ≡ false) →
      ((r : Ref) → WasRoot sizes account r → dropped (slot_of r) ≡ false) → ((x : Retired) → WasGarbage sizes x → HasGrown x.account account → dropped x.number ≡ false) →
      ((i a : Ref) → over_of operation.line ≡ Some (i, a) → ⊥) →
      ((i a f : Ref) → ahead_of operation.line ≡ Some (i, a, f) → dropped (slot_of f) ≡ false → ⊥) → KeepsTries account.offers state (state_of sizes (gone_on actor account)) →
      Leads sizes account (gone_on actor account) actor dropped (operation_after state operation)
  leads dropped kept once never makes_none publishes_none tries =
      let same_heap = ap (λ (s : State). s.heap) same in
      record {
        bounds = bounds_after sizes account bounds actor operation runs g;
        nodes = slot_then sizes account bounds actor operation runs g state.heap same_heap;
        births = births_then sizes account bounds actor operation runs g state.heap same_heap;
        live = λ r k. (live_then sizes account bounds actor operation runs g state.heap same_heap (λ q used. used) r k, kept r (live_less sizes account bounds actor operation runs g r k));
        reached = once;
        retired = never;
        roots = roots_then sizes account bounds actor operation runs g (ap (λ (s : State). s.roots) same);
        generations = generations_then sizes account bounds actor operation runs g state.generations (ap (λ (s : State). s.generations) same);
        others = others_then sizes account bounds actor operation runs g none;
        own = own_then sizes account bounds actor operation runs g none;
        tries = tries;
        aheads = no_more_then sizes account bounds actor operation runs g none makes_none;
        still = λ i a f x standing. elim (still_then sizes account bounds actor operation runs g none i a f x) [
          | inl is ↦ is
          | inr gone ↦ absurd (publishes_none i a f gone standing)
        ];
      }
