-- What each step that is taken keeps holds after every list of steps.
use Rattle.std.proofs.Common.{cond, ◌≡◌, inl, inr, List, [], ◌∷◌, ◌++◌, Ok, Err, refl, sym, ap, subst, ◌∙◌}
use Rattle.proof_claims.specs.Beneath.slot_arena.specs.declared.refs.Ref.{Ref}
use Rattle.proof_claims.specs.Beneath.machine_model.specs.declared.steps.Bounds.{Bounds}
use Rattle.proof_claims.specs.Beneath.machine_model.specs.declared.steps.Outcome.{Outcome}
use Rattle.proof_claims.specs.Beneath.machine_model.specs.declared.steps.Step.{Step}
use Rattle.proof_claims.specs.Beneath.machine_model.specs.Machine.{Answer, AreBounds, is_taken_step, next, next_state, run, state_after}
use Rattle.proof_claims.specs.Beneath.machine_model.specs.Moves.{Moves, MovesIfTaken}
use Rattle.proof_claims.specs.Beneath.machine_model.specs.States.{State, first_state}
use Rattle.proof_claims.specs.Beneath.machine_model.proofs.Along.{by_last, run_push}
use Rattle.proof_claims.specs.Beneath.machine_model.proofs.Moves.{moves}
use Rattle.proof_claims.specs.Beneath.proof_followed.specs.Followed.{IsFollowedByRoots}
use Rattle.proof_claims.specs.Held.{Held, held_after}
use Rattle.proof_claims.specs.Changes.{change_of}
use Rattle.proof_claims.specs.Claims.{held_of}
use Rattle.proof_claims.specs.Clauses.{EachIsHeld}
use Rattle.proof_claims.specs.Dropped.{WasDropped}
use Rattle.proof_claims.specs.Laws.{EachHeld, IsHeldFromRoots}
use Rattle.proof_claims.proofs.Along.{dropped_later, held_push}
use Rattle.proof_claims.proofs.FirstClaims.{first_each}
use Rattle.proof_claims.proofs.FromRoots.{held_from_roots}

-- each reference is held in its place, but by what was dropped
abbrev pub Each : Bounds → List Step → Type 0
Each limits xs = EachHeld limits xs

-- so it is in the state after a step that is taken
abbrev pub EachAfter : Bounds → List Step → Step → State → Type 0
EachAfter limits xs s after = EachIsHeld after (held_after (change_of (run limits xs) (held_of limits xs) s) (held_of limits xs)) (λ j. WasDropped limits (xs ++ s ∷ []) j)

-- more may hold nothing any more
wider : (state : State) (held : Held) (Gone Lost : Ref → Type 0) → ((j : Ref) → Gone j → Lost j) → EachIsHeld state held Gone → EachIsHeld state held Lost
wider state held Gone Lost lost h = record {
  roots = h.roots;
  successors = h.successors;
  seconds = h.seconds;
  nodes = λ j k u c. elim (h.nodes j k u c) [ inl has ↦ inl has | inr other ↦ elim other [ inl gone ↦ inr (inl (lost j gone)) | inr takes ↦ inr (inr takes) ] ];
  before = λ i p has c. elim (h.before i p has c) [ inl there ↦ inl there | inr gone ↦ inr (lost i gone) ];
}

module _ (limits : Bounds) (ok : AreBounds limits)
    (keeps : (xs : List Step) (s : Step) (o : Outcome) (after : State) → Moves (run limits xs) s o after → next (run limits xs) s ≡ Ok (o, after) →
    run limits (xs ++ s ∷ []) ≡ after → Each limits xs → EachAfter limits xs s after) where
  by_answer : (xs : List Step) (s : Step) → Each limits xs → (a : Answer) → next (run limits xs) s ≡ a → MovesIfTaken (run limits xs) s a →
      EachIsHeld (state_after (run limits xs) a)
      (cond (is_taken_step a) (held_after (change_of (run limits xs) (held_of limits xs) s) (held_of limits xs)) (held_of limits xs)) (λ j. WasDropped limits (xs ++ s ∷ []) j)
  by_answer xs s h (Ok done) e m = keeps xs s done.0 done.1 m e (run_push (first_state limits) xs s ∙ ap (state_after (run limits xs)) e) h
  by_answer xs s h (Err refusal) e m =
      wider (run limits xs) (held_of limits xs) (λ j. WasDropped limits xs j) (λ j. WasDropped limits (xs ++ s ∷ []) j) (dropped_later limits xs s) h

  one_more : (xs : List Step) (s : Step) → Each limits xs → Each limits (xs ++ s ∷ [])
  one_more xs s h =
      subst (λ (state : State). EachIsHeld state (held_of limits (xs ++ s ∷ [])) (λ j. WasDropped limits (xs ++ s ∷ []) j)) (sym (run_push (first_state limits) xs s))
      (subst (λ (held : Held). EachIsHeld (next_state (run limits xs) s) held (λ j. WasDropped limits (xs ++ s ∷ []) j)) (sym (held_push limits xs s))
      (by_answer xs s h (next (run limits xs) s) refl (moves (run limits xs) s)))

  pub each_is_held : (xs : List Step) → Each limits xs
  each_is_held xs = by_last (Each limits) (first_each limits ok) one_more xs

  -- so what roots lead to is held, where what was dropped no root leads to
  pub followed_is_held : (xs : List Step) → ((j : Ref) → WasDropped limits xs j → IsFollowedByRoots (run limits xs) j → ⊥) → (k : Ref) → IsFollowedByRoots (run limits xs) k →
      IsHeldFromRoots (run limits xs) (held_of limits xs) k
  followed_is_held xs unlinked k followed = held_from_roots limits xs ok (held_of limits xs) (λ j. WasDropped limits xs j) (each_is_held xs) unlinked k followed
