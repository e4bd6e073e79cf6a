-- Garbage is garbage under the bounds of a longer account too.
use Rattle.std.proofs.Common.{inl, inr, ℕ, Contains, subst}
use Rattle.machine_model.specs.Beneath.slot_arena.specs.Heaps.{refs_of_slot}
use Rattle.machine_model.specs.Beneath.slot_arena.specs.declared.refs.Ref.{Ref}
use Rattle.machine_model.specs.declared.operations.Operation.{Operation}
use Rattle.machine_model.specs.States.{State}
use Rattle.proof_claims.specs.Beneath.proof_reuse.specs.Beneath.proof_followed.specs.Followed.{IsFollowed, from_root, from_operation, from_slot}
use Rattle.proof_claims.specs.Beneath.proof_reuse.specs.Beneath.proof_followed.specs.Grace.{IsToBring}
use Rattle.proof_claims.specs.Beneath.proof_reuse.specs.Laws.{IsGarbage}
use Rattle.proof_waiting.specs.Beneath.proof_slots.specs.Lasting.{widened}
use Rattle.proof_waiting.specs.Beneath.proof_slots.proofs.Padded.Heaps.{stored_wide}
use Rattle.lock_free.proofs.OneStep.Retired.{used_wide}

module _ (more m : ℕ) (state : State) where
  abbrev wide : State
  wide = widened more m state

  followed_in : {P : ℕ → Type 0} {r : Ref} → IsFollowed wide P r → IsFollowed state P r
  followed_in (from_root handle root r e is) = from_root handle root r e is
  followed_in (from_operation actor operation r e p c) = from_operation actor operation r e p c
  followed_in (from_slot q r k c) = from_slot q r (followed_in k) (subst (λ o. Contains (refs_of_slot o) r) (stored_wide more state.limits.slots state.heap q) c)

  brings_in : (operation : Operation) (r : Ref) → IsToBring wide operation r → IsToBring state operation r
  brings_in operation r (inl c) = inl c
  brings_in operation r (inr (q, c, named, other)) = inr (q, c, subst (λ o. Contains (refs_of_slot o) r) (stored_wide more state.limits.slots state.heap q) named, other)

  pub garbage_wide : (r : Ref) → IsGarbage state r → IsGarbage wide r
  garbage_wide r g = record {
    in_use = used_wide more m state r g.in_use;
    unfollowed = λ f. g.unfollowed (followed_in f);
    private_to_none = λ actor operation runs c. g.private_to_none actor operation runs c;
    unbrought = λ actor operation runs unmarked b. g.unbrought actor operation runs unmarked (brings_in operation r b);
  }
