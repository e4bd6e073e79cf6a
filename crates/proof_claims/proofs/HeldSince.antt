-- What each step that is taken keeps of claims holds after more steps.
use Rattle.std.proofs.Common.{◌≡◌, List, [], ◌∷◌, ◌++◌, Ok, Err, cond, refl, sym, ap, subst, ◌∙◌, append_assoc, append-nil}
use Rattle.proof_claims.specs.Beneath.machine_model.specs.declared.steps.Bounds.{Bounds}
use Rattle.proof_claims.specs.Beneath.machine_model.specs.declared.steps.Outcome.{Outcome}
use Rattle.proof_claims.specs.Beneath.machine_model.specs.declared.steps.Step.{Step}
use Rattle.proof_claims.specs.Beneath.machine_model.specs.Machine.{Answer, is_taken_step, next, run, state_after}
use Rattle.proof_claims.specs.Beneath.machine_model.specs.Moves.{Moves, MovesIfTaken}
use Rattle.proof_claims.specs.Beneath.machine_model.specs.States.{State, first_state}
use Rattle.proof_claims.specs.Beneath.machine_model.proofs.Along.{by_last, run_push}
use Rattle.proof_claims.specs.Beneath.machine_model.proofs.Moves.{moves}
use Rattle.proof_claims.specs.Changes.{change_of}
use Rattle.proof_claims.specs.Claims.{held_of}
use Rattle.proof_claims.specs.Held.{Held, held_after}
use Rattle.proof_claims.proofs.Along.{held_push}

module _ (limits : Bounds) (before : List Step) (P : Held → Type 0) (keeps : (since : List Step) (s : Step) (o : Outcome) →
    Moves (run limits (before ++ since)) s o (run limits ((before ++ since) ++ s ∷ [])) → P (held_of limits (before ++ since)) →
    P (held_after (change_of (run limits (before ++ since)) (held_of limits (before ++ since)) s) (held_of limits (before ++ since)))) where
  by_answer : (since : List Step) (s : Step) → P (held_of limits (before ++ since)) → (a : Answer) → next (run limits (before ++ since)) s ≡ a → MovesIfTaken (run limits (before ++ since)) s a →
      P (cond (is_taken_step a) (held_after (change_of (run limits (before ++ since)) (held_of limits (before ++ since)) s) (held_of limits (before ++ since)))
      (held_of limits (before ++ since)))
  by_answer since s h (Ok done) e m =
      let xs = before ++ since in
      let is : done.1 ≡ run limits (xs ++ s ∷ []) = sym (run_push (first_state limits) xs s ∙ ap (state_after (run limits xs)) e) in
      keeps since s done.0 (subst (λ (z : State). Moves (run limits xs) s done.0 z) is m) h
  by_answer since s h (Err refusal) e m = h

  one_more : (since : List Step) (s : Step) → P (held_of limits (before ++ since)) → P (held_of limits (before ++ (since ++ s ∷ [])))
  one_more since s h =
      let xs = before ++ since in
      subst (λ l. P (held_of limits l)) (append_assoc before since (s ∷ []))
      (subst P (sym (held_push limits xs s)) (by_answer since s h (next (run limits xs) s) refl (moves (run limits xs) s)))

  pub held_since : P (held_of limits before) → (since : List Step) → P (held_of limits (before ++ since))
  held_since h = by_last (λ since. P (held_of limits (before ++ since))) (subst (λ l. P (held_of limits l)) (sym (append-nil before)) h) one_more
