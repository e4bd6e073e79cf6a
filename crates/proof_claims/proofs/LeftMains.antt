-- Main nodes that who has swapped one in leaves: each stood in an indirection's word, and is pending no more, then and later.
use Rattle.std.proofs.Common.{◌≡◌, ◌≤◌, ℕ, List, ◌++◌, Some, refl, sym, ap, subst, ◌∙◌, arith}
use Rattle.proof_claims.specs.Beneath.slot_arena.specs.declared.nodes.Prev.TheVariants as prev
use Rattle.proof_claims.specs.Beneath.slot_arena.specs.declared.refs.Ref.{Ref}
use Rattle.proof_claims.specs.Beneath.slot_arena.specs.Heaps.{prev_at}
use Rattle.proof_claims.specs.Beneath.machine_model.specs.declared.lines.Line.TheVariants as line
use Rattle.proof_claims.specs.Beneath.machine_model.specs.declared.lines.Purpose.{Purpose}
use Rattle.proof_claims.specs.Beneath.machine_model.specs.declared.operations.Operation.{Operation}
use Rattle.proof_claims.specs.Beneath.machine_model.specs.declared.reading.SwapLine.TheVariants as swap
use Rattle.proof_claims.specs.Beneath.machine_model.specs.declared.steps.Bounds.{Bounds}
use Rattle.proof_claims.specs.Beneath.machine_model.specs.declared.steps.Step.{Step}
use Rattle.proof_claims.specs.Beneath.machine_model.specs.Machine.{AreBounds, run}
use Rattle.proof_claims.specs.Beneath.machine_model.specs.States.{State, operation_of}
use Rattle.proof_claims.specs.Beneath.machine_model.specs.Times.{last_of, states_of}
use Rattle.proof_claims.specs.Beneath.machine_model.proofs.Grown.{prev_grown}
use Rattle.proof_claims.specs.Beneath.machine_model.proofs.Times.{run_is}
use Rattle.proof_claims.specs.Beneath.proof_commits.proofs.Known.Sounds.{sound_at}
use Rattle.proof_claims.specs.Beneath.proof_commits.specs.Protocol.{Protocol}
use Rattle.proof_claims.specs.Beneath.proof_commits.specs.Stages.{stage_of, stage_of_actor}
use Rattle.proof_claims.specs.Beneath.proof_commits.proofs.Course.Finals.{failed_final, none_final}
use Rattle.proof_claims.specs.Beneath.proof_commits.proofs.Known.Owners.{Staged}
use Rattle.proof_claims.specs.Beneath.proof_commits.proofs.Words.Stood.{Decided, Stood, none≢pending, pending≢failed, stood_still}
use Rattle.proof_claims.specs.Beneath.proof_generations.proofs.Falling.KnownRoots.{protocol_of}
use Rattle.proof_claims.specs.Beneath.proof_memory.specs.Laws.{IsInUse}
use Rattle.proof_claims.specs.Beneath.proof_reuse.proofs.InLists.{state_then, time_within}
use Rattle.proof_claims.proofs.SwapOn.{swap_at}

-- it stood there, and isn't pending
pub record IsLeft (limits : Bounds) (ok : AreBounds limits) (xs : List Step) (i j : Ref) : Type 0 where
  pub stood : Stood (protocol_of (run_is limits xs ok)).words (last_of limits xs) i j
  pub decided : (a : Ref) → (protocol_of (run_is limits xs ok)).words.prev (last_of limits xs) j ≡ prev.Pending a → ⊥

module _ (limits : Bounds) (ok : AreBounds limits) (before since : List Step) where
  abbrev all : List Step
  all = before ++ since

  abbrev p : Protocol
  p = protocol_of (run_is limits all ok)

  abbrev t : ℕ
  t = last_of limits before

  then_is : states_of limits all t ≡ run limits before
  then_is = state_then limits all before since refl

  low : t ≤ last_of limits all
  low = time_within limits all before since refl

  -- who is at the last line of its SWAP
  module _ (actor : ℕ) (operation : Operation) (why : Purpose) (i m f : Ref) (runs : operation_of (run limits before) actor ≡ Some operation)
      (on : operation.line ≡ line.Swap why (swap_at i m f swap.Check)) where
    at_check : Stood p.words t i f × Decided p.words t i m
    at_check =
        subst (Staged p.words t actor) (ap (λ (s : State). stage_of_actor (operation_of s actor)) then_is ∙ ap stage_of_actor runs ∙ ap stage_of on) ((sound_at p t low).staged actor)

    pub replaced_left : IsLeft limits ok (before ++ since) i m
    replaced_left = record {
      stood = stood_still low at_check.1.stood;
      decided = λ a e. none≢pending (none_final p i m t (last_of limits all) low (omega arith) at_check.1.stood at_check.1.none) e;
    }

    pub failed_left : (q : Ref) → IsInUse (run limits before).heap f → prev_at (run limits before).heap f ≡ prev.Failed q →
        IsLeft limits ok (before ++ since) i f × (p.words.prev (last_of limits (before ++ since)) f ≡ prev.Failed q)
    failed_left q used_f failed = (record { stood = stood_still low at_check.0; decided = λ a e. pending≢failed e later }, later)
      where
        used_then : IsInUse (states_of limits all t).heap f
        used_then = subst (λ (s : State). IsInUse s.heap f) (sym then_is) used_f

        later : p.words.prev (last_of limits all) f ≡ prev.Failed q
        later =
            failed_final p f q t (last_of limits all) low (omega arith)
            (sym (prev_grown (states_of limits all) t f used_then.0 used_then.1) ∙ ap (λ (s : State). prev_at s.heap f) then_is ∙ failed)
