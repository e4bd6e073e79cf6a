-- What is dead once stays so as long as it is in use.
use Rattle.std.proofs.Common.{◌≡◌, List, [], ◌∷◌, ◌++◌, refl, sym, subst, arith, append_assoc, append-nil}
use Rattle.proof_claims.specs.Beneath.slot_arena.specs.declared.refs.Ref.{Ref}
use Rattle.proof_claims.specs.Beneath.machine_model.specs.declared.steps.Bounds.{Bounds}
use Rattle.proof_claims.specs.Beneath.machine_model.specs.declared.steps.Step.{Step}
use Rattle.proof_claims.specs.Beneath.machine_model.specs.Machine.{AreBounds, run}
use Rattle.proof_claims.specs.Beneath.machine_model.specs.States.{State, first_state}
use Rattle.proof_claims.specs.Beneath.machine_model.specs.Times.{last_of, states_of}
use Rattle.proof_claims.specs.Beneath.machine_model.proofs.Along.{by_last, run_push}
use Rattle.proof_claims.specs.Beneath.machine_model.proofs.Grown.{grown_in_use}
use Rattle.proof_claims.specs.Beneath.machine_model.proofs.Times.{run_ends, run_is}
use Rattle.proof_claims.specs.Beneath.proof_garbage.specs.Live.{IsLive}
use Rattle.proof_claims.specs.Beneath.proof_garbage.proofs.Stays.{stays_dead}
use Rattle.proof_claims.specs.Beneath.proof_memory.specs.Laws.{IsInUse}
use Rattle.proof_claims.specs.Beneath.proof_memory.proofs.Heap.Moves.{grown_stays, used_before}
use Rattle.proof_claims.specs.Beneath.proof_reuse.proofs.InLists.{state_then, time_within}

module _ (limits : Bounds) (ok : AreBounds limits) where
  -- what is in use after some of the steps, and after all, is in use between
  pub used_between : (before middle last : List Step) (r : Ref) → IsInUse (run limits before).heap r → IsInUse (run limits ((before ++ middle) ++ last)).heap r →
      IsInUse (run limits (before ++ middle)).heap r
  used_between before middle last r first then =
      let all = (before ++ middle) ++ last in
      let is_run = run_is limits all ok in
      let low = time_within limits (before ++ middle) before middle refl in
      let high = time_within limits all (before ++ middle) last refl in
      let at_first = state_then limits all before (middle ++ last) (append_assoc before middle last) in
      let between = state_then limits all (before ++ middle) last refl in
      let used : IsInUse (states_of limits all (last_of limits before)).heap r = subst (λ (s : State). IsInUse s.heap r) (sym at_first) first in
      let grown_first = grown_in_use (states_of limits all) (last_of limits before) r used.0 used.1 in
      let grown_then = grown_stays is_run (last_of limits before) (last_of limits (before ++ middle)) low high r used.0 grown_first in
      subst (λ (s : State). IsInUse s.heap r) between
      (used_before is_run (last_of limits (before ++ middle)) (last_of limits all) high (omega arith) r grown_then.0 grown_then.1
      (subst (λ (s : State). IsInUse s.heap r) (sym (run_ends limits all)) then))

  pub dead_later : (before : List Step) (r : Ref) → IsInUse (run limits before).heap r → (IsLive (run limits before) r → ⊥) → (since : List Step) →
      IsInUse (run limits (before ++ since)).heap r → IsLive (run limits (before ++ since)) r → ⊥
  dead_later before r used dead since =
      by_last (λ since. IsInUse (run limits (before ++ since)).heap r → IsLive (run limits (before ++ since)) r → ⊥)
      (λ u live. dead (subst (λ l. IsLive (run limits l) r) (append-nil before) live))
      (λ xs s so_far u live.
      let is : before ++ (xs ++ s ∷ []) ≡ (before ++ xs) ++ s ∷ [] = sym (append_assoc before xs (s ∷ [])) in
      let between = used_between before xs (s ∷ []) r used (subst (λ l. IsInUse (run limits l).heap r) is u) in
      so_far between
      (stays_dead limits (before ++ xs) s r ok between
      (subst (λ (a : State). IsLive a r) (run_push (first_state limits) (before ++ xs) s) (subst (λ l. IsLive (run limits l) r) is live)))) since
