-- What a root led to once never comes to be private.
use Rattle.std.proofs.Common.{◌≡◌, ℕ, suc, ◌≤◌, List, [], ◌∷◌, ◌++◌, Contains, get_or, Option, Some, None, refl, sym, ap, ◌∙◌, subst, inl, inr, arith, append_assoc, append-nil}
use Rattle.std.proofs.lemmas.List.Elements.{Contains-push_cases}
use Rattle.proof_garbage.specs.Beneath.slot_arena.specs.Refs.{birth_of}
use Rattle.proof_garbage.specs.Beneath.slot_arena.specs.declared.refs.Ref.{Ref}
use Rattle.proof_garbage.specs.Beneath.slot_arena.specs.declared.nodes.Node.TheVariants.{Single}
use Rattle.proof_garbage.specs.Beneath.slot_arena.specs.Heaps.{next_ref}
use Rattle.proof_garbage.specs.Beneath.machine_model.specs.declared.actions.Action.{Action}
use Rattle.proof_garbage.specs.Beneath.machine_model.specs.declared.actions.Action.TheVariants as act
use Rattle.proof_garbage.specs.Beneath.machine_model.specs.declared.operations.Operation.{Operation}
use Rattle.proof_garbage.specs.Beneath.machine_model.specs.declared.steps.Bounds.{Bounds}
use Rattle.proof_garbage.specs.Beneath.machine_model.specs.declared.steps.Outcome.{Outcome}
use Rattle.proof_garbage.specs.Beneath.machine_model.specs.declared.steps.Step.{Step}
use Rattle.proof_garbage.specs.Beneath.machine_model.specs.Contents as contents
use Rattle.proof_garbage.specs.Beneath.machine_model.specs.Contents.{IsReached}
use Rattle.proof_garbage.specs.Beneath.machine_model.specs.States.{State, first_state}
use Rattle.proof_garbage.specs.Beneath.machine_model.specs.Operations.{action_of}
use Rattle.proof_garbage.specs.Beneath.machine_model.specs.Acting.{operation_after, private_after, with_made}
use Rattle.proof_garbage.specs.Beneath.machine_model.specs.Machine.{AreBounds, run}
use Rattle.proof_garbage.specs.Beneath.machine_model.specs.Moves.{Moves, Begins, Goes, Ends, Sweeps, GivesUp, begun_operation}
use Rattle.proof_garbage.specs.Beneath.machine_model.proofs.Actors.{IsOf, is_of, mark_only, marks_in, marks_by, of_others, of_itself, of_begin, of_end, of_giving_up}
use Rattle.proof_garbage.specs.Beneath.machine_model.proofs.Along.{run_push, by_last, kept_by_moves}
use Rattle.proof_garbage.specs.Beneath.proof_memory.proofs.Heap.Under.{taken_all}
use Rattle.proof_garbage.specs.Beneath.proof_memory.proofs.Safety.AtEachTime.{safe_along}
use Rattle.proof_garbage.specs.Beneath.proof_memory.proofs.Safety.EachStep.{at_place}
use Rattle.proof_garbage.specs.Beneath.proof_memory.proofs.Safety.States.{IsSafe, births_grow}
use Rattle.proof_garbage.specs.Beneath.proof_memory.proofs.Safety.Steps.{step_effect}
use Rattle.proof_garbage.specs.Live.{IsKnown, from_root, from_slot}
use Rattle.proof_garbage.proofs.Claims.{none_in}
use Rattle.proof_garbage.proofs.Known.{known_used}
use Rattle.proof_garbage.proofs.Private.{Others, private_along}

-- it was made, and is no operation's own
pub record IsPublic (r : Ref) (state : State) : Type 0 where
  pub made : birth_of r ≤ state.heap.births
  pub apart : (k : ℕ) (operation : Operation) → get_or state.actors k None ≡ Some operation → Contains operation.private r → ⊥

-- what roots lead to they lead to whoever else leads there
pub reached_known : (state : State) (P : ℕ → Type 0) {r : Ref} → IsReached state r → IsKnown state P r
reached_known state P (contents.from_root handle r c) = from_root handle r c
reached_known state P (contents.from_slot q r k c) = from_slot q r (reached_known state P k) c

module _ (limits : Bounds) (ok : AreBounds limits) (steps : List Step) (r : Ref) where
  abbrev state : State
  state = run limits steps

  I : IsSafe state
  I = safe_along limits ok steps

  first_public : IsReached state r → IsPublic r state
  first_public reached =
      let used = known_used state I (λ id. Unit {0}) (reached_known state (λ id. Unit {0}) reached) in record {
        made = I.births r used.0 used.1;
        apart = λ k operation found c. private_along limits ok steps k operation found r c (reached_known state (Others operation.id) reached);
      }

  module _ (h : IsPublic r state) where
    fresh_is_another : (fresh : Ref) → next_ref state.heap ≡ Some fresh → fresh ≡ r → ⊥
    fresh_is_another fresh e same =
        let (here, none, others, birth) = taken_all state.limits.slots state.heap (I.sound.heap) (Single 0 0) fresh e in
        let made = h.made in
        omega (arith, made, birth, ap birth_of same)

    made_apart : (private : List Ref) → (Contains private r → ⊥) → (fresh : Option Ref) → next_ref state.heap ≡ fresh → Contains (with_made private fresh) r → ⊥
    made_apart private before None e c = none_in r c
    made_apart private before (Some fresh) e c = elim (Contains-push_cases private fresh r c) [
      | inl was ↦ before was
      | inr same ↦ fresh_is_another fresh e same
    ]

    own_apart : (private : List Ref) → (Contains private r → ⊥) → (action : Action) → Contains (private_after state private action) r → ⊥
    own_apart private before (act.Publish i replaced fresh) c = none_in r c
    own_apart private before (act.Offer offer) c = none_in r c
    own_apart private before (act.Make node) c = made_apart private before (next_ref state.heap) refl c
    own_apart private before (act.MakeRoot main) c = made_apart private before (next_ref state.heap) refl c
    own_apart private before action c = before c

    by_owner : (s : Step) (o : Outcome) (after : State) (m : Moves state s o after) (k : ℕ) → Dec (IsOf (suc k) s) → (found : Operation) → get_or after.actors k None ≡ Some found →
        Contains found.private r → ⊥
    by_owner s o after m k (no other) found at_k c =
        let (was, at_was, same) = of_others state s o after m k other found at_k in
        h.apart k was at_was (subst (λ (y : Operation). Contains y.private r) (same ∙ mark_only (marks_in state s) was) c)
    by_owner s o after (Begins {actor} {call} {number} d) k (yes own) found at_k c =
        none_in r (subst (λ (y : Operation). Contains y.private r) (of_begin state actor call (begun_operation state call number) k own found at_k) c)
    by_owner s o after (Goes {actor} {operation} d is a g) k (yes own) found at_k c =
        own_apart operation.private (h.apart k operation (at_place state actor k operation own is)) (action_of state operation)
        (subst (λ (y : Operation). Contains y.private r) (of_itself state actor operation k own found at_k ∙ mark_only (marks_by state (Some operation)) (operation_after state operation)) c)
    by_owner s o after (Ends {actor} d is a) k (yes own) found at_k c = absurd (of_end state actor k own found at_k)
    by_owner s o after (Sweeps spent) k (yes own) found at_k c = absurd own
    by_owner s o after (GivesUp {actor} {operation} {answer} d is a) k (yes own) found at_k c =
        none_in r (subst (λ (y : Operation). Contains y.private r) (sym (of_giving_up state actor operation answer k own found at_k)) c)

    pub public_then : (s : Step) (o : Outcome) (after : State) → Moves state s o after → IsPublic r after
    public_then s o after m =
        let more = births_grow _ _ _ _ _ _ ((step_effect state I s o after m).3) in
        let made = h.made in record { made = omega (arith, more, made); apart = λ k found at_k c. by_owner s o after m k (is_of (suc k) s) found at_k c }

-- and stays so
pub public_on : (limits : Bounds) → AreBounds limits → (before since : List Step) (r : Ref) → IsPublic r (run limits before) → IsPublic r (run limits (before ++ since))
public_on limits ok before since r first =
    by_last (λ xs. IsPublic r (run limits (before ++ xs))) (subst (λ xs. IsPublic r (run limits xs)) (sym (append-nil before)) first)
    (λ xs s h.
    subst (λ ys. IsPublic r (run limits ys)) (append_assoc before xs (s ∷ []))
    (subst (IsPublic r) (sym (run_push (first_state limits) (before ++ xs) s))
    (kept_by_moves (IsPublic r) (run limits (before ++ xs)) s h (λ o after m. public_then limits ok (before ++ xs) r h s o after m)))) since

pub public_along : (limits : Bounds) → AreBounds limits → (before since : List Step) (r : Ref) → IsReached (run limits before) r → IsPublic r (run limits (before ++ since))
public_along limits ok before since r reached = public_on limits ok before since r (first_public limits ok before r reached)
