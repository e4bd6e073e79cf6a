-- What is followed in a safe state is in use and closed under slots, so what lines follow and actions name is followed.
use Rattle.std.proofs.Common.{◌≡◌, ℕ, Contains, get_or, Some, None, refl, subst, inl, inr}
use Rattle.std.proofs.lemmas.List.Elements.{Contains-append_cases, All-contains}
use Rattle.proof_followed.specs.Beneath.slot_arena.specs.declared.refs.Ref.{Ref}
use Rattle.proof_followed.specs.Beneath.slot_arena.specs.Heaps.{Heap}
use Rattle.proof_followed.specs.Beneath.machine_model.specs.declared.operations.Operation.{Operation}
use Rattle.proof_followed.specs.Beneath.machine_model.specs.declared.roots.Root.{Root}
use Rattle.proof_followed.specs.Beneath.machine_model.specs.declared.roots.RootWord.{RootWord}
use Rattle.proof_followed.specs.Beneath.machine_model.specs.declared.roots.RootWord.TheVariants.{Plain, Offer}
use Rattle.proof_followed.specs.Beneath.machine_model.specs.Operations.{action_of}
use Rattle.proof_followed.specs.Beneath.machine_model.specs.States.{State, root_at, root_of, operation_of}
use Rattle.proof_followed.specs.Beneath.proof_memory.specs.Laws.{IsInUse}
use Rattle.proof_followed.specs.Beneath.proof_memory.specs.Wants.{AnIndirection, Is, Holds, AllHold, word_wants}
use Rattle.proof_followed.specs.Beneath.proof_memory.proofs.Claims.Uses.{safe_of, meets_of, from_meets}
use Rattle.proof_followed.specs.Beneath.proof_memory.proofs.Safety.Guards.{Safe}
use Rattle.proof_followed.specs.Beneath.proof_memory.proofs.Safety.Standing.{in_any_slot}
use Rattle.proof_followed.specs.Beneath.proof_memory.proofs.Safety.States.{IsSafe}
use Rattle.proof_followed.specs.Beneath.proof_memory.proofs.Safety.Steps.{of_actor}
use Rattle.proof_garbage.specs.Live.{refs_of_claims}
use Rattle.proof_garbage.proofs.Claims.{Are, first_of, last_of, refs_held, hold_by}
use Rattle.proof_garbage.proofs.Closed.{IsClosed, entries_closed, heaped_closed}
use Rattle.proof_followed.specs.Followed.{IsFollowed, from_root, from_operation, from_slot, followed_by, followed_claims, followed_action_wants}
use Rattle.proof_followed.proofs.Asked.{followed_of}
use Rattle.proof_followed.proofs.Acts.{followed_does}

-- the root of a root word
pub root_claim : (S : Ref → Type 0) (heap : Heap) (word : RootWord) → AllHold S heap (word_wants word) → Holds S heap (Is (root_of word) AnIndirection)
root_claim S heap (Plain r) h = h.0
root_claim S heap (Offer offer) h = h.0

module _ (state : State) (I : IsSafe state) (P : ℕ → Type 0) where
  abbrev F : Ref → Type 0
  F = IsFollowed state P

  -- what an operation's line follows is safe
  claims_safe : (k : ℕ) (operation : Operation) → get_or state.actors k None ≡ Some operation → AllHold (Safe state operation.epoch) state.heap (followed_claims state operation)
  claims_safe k operation at_k = followed_of (Safe state operation.epoch) state.heap state.limits.hash operation.call operation.access operation.line (I.lines k operation at_k)

  place : (actor : ℕ) (operation : Operation) → operation_of state actor ≡ Some operation → (k : ℕ) × (get_or state.actors k None ≡ Some operation)
  place actor operation e = of_actor state (λ k operation. get_or state.actors k None ≡ Some operation) (λ k operation e. e) actor operation e

  operation_used : (actor : ℕ) (operation : Operation) (r : Ref) → operation_of state actor ≡ Some operation → Contains (followed_by state operation) r → IsInUse state.heap r
  operation_used actor operation r e c =
      let (k, at_k) = place actor operation e in
      elim (Contains-append_cases (refs_of_claims (followed_claims state operation)) operation.private r c) [
        | inl a ↦ (refs_held (Safe state operation.epoch) state.heap (followed_claims state operation) (claims_safe k operation at_k) r a).used
        | inr b ↦ All-contains (IsInUse state.heap) operation.private r (I.privates k operation at_k) b
      ]

  pub followed_used : {r : Ref} → IsFollowed state P r → IsInUse state.heap r
  followed_used (from_root handle root r e is) = subst (IsInUse state.heap) is (safe_of (root_claim (IsInUse state.heap) state.heap root.word (I.words handle root e)))
  followed_used (from_operation actor operation r e p c) = operation_used actor operation r e c
  followed_used (from_slot q r k c) = in_any_slot state I q r c

  pub closed : IsClosed state F
  closed = record { used = followed_used; under = from_slot }

  pub root_followed : (handle : ℕ) (root : Root) → root_at state handle ≡ Some root → Holds F state.heap (Is (root_of root.word) AnIndirection)
  root_followed handle root e =
      from_meets (root_of root.word) (from_root handle root (root_of root.word) e refl, meets_of (root_claim (IsInUse state.heap) state.heap root.word (I.words handle root e)))

  module _ (actor : ℕ) (operation : Operation) (e : operation_of state actor ≡ Some operation) (p : P operation.id) where
    pub line_followed : AllHold F state.heap (followed_claims state operation)
    line_followed =
        let (k, at_k) = place actor operation e in
        hold_by (Safe state operation.epoch) F state.heap (entries_closed state I F closed) (followed_claims state operation) (claims_safe k operation at_k)
        (first_of F (refs_of_claims (followed_claims state operation)) operation.private (λ r c. from_operation actor operation r e p c))

    pub privates_followed : Are F operation.private
    privates_followed = last_of F (refs_of_claims (followed_claims state operation)) operation.private (λ r c. from_operation actor operation r e p c)

    -- what its action names
    pub action_followed : AllHold F state.heap (followed_action_wants (action_of state operation))
    action_followed = followed_does state operation F (heaped_closed state I F closed) operation.line line_followed

    pub named_followed : Are F (refs_of_claims (followed_action_wants (action_of state operation)))
    named_followed = refs_held F state.heap (followed_action_wants (action_of state operation)) action_followed
