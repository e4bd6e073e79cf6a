-- The first branch stood in a word from the first on, and stays decided.
use Rattle.std.proofs.Common.{◌≡◌, ℕ, List, Some, refl, sym, ap, subst, ◌∙◌, arith}
use Rattle.proof_garbage.specs.Beneath.slot_arena.specs.declared.refs.Ref.{Ref}
use Rattle.proof_garbage.specs.Beneath.slot_arena.specs.declared.nodes.Node.TheVariants.{Indirection}
use Rattle.proof_garbage.specs.Beneath.slot_arena.specs.declared.nodes.Prev.TheVariants as prev
use Rattle.proof_garbage.specs.Beneath.slot_arena.specs.declared.nodes.Slot.{Slot}
use Rattle.proof_garbage.specs.Beneath.slot_arena.specs.Heaps.{main_of, node_of, prev_at}
use Rattle.proof_garbage.specs.Beneath.slot_arena.specs.Refs.{ref_to}
use Rattle.proof_garbage.specs.Beneath.machine_model.specs.declared.lines.Line.TheVariants as line
use Rattle.proof_garbage.specs.Beneath.machine_model.specs.declared.lines.Purpose.{Purpose}
use Rattle.proof_garbage.specs.Beneath.machine_model.specs.declared.operations.Operation.{Operation}
use Rattle.proof_garbage.specs.Beneath.machine_model.specs.declared.steps.Bounds.{Bounds}
use Rattle.proof_garbage.specs.Beneath.machine_model.specs.declared.steps.Step.{Step}
use Rattle.proof_garbage.specs.Beneath.machine_model.specs.Grown.{standing, grown}
use Rattle.proof_garbage.specs.Beneath.machine_model.specs.Machine.{AreBounds, run}
use Rattle.proof_garbage.specs.Beneath.machine_model.specs.States.{State, operation_of, first_state}
use Rattle.proof_garbage.specs.Beneath.machine_model.specs.Swapping.{swapping}
use Rattle.proof_garbage.specs.Beneath.proof_memory.specs.Laws.{IsInUse}
use Rattle.proof_garbage.specs.Beneath.proof_memory.specs.Wants.{is_indirection}
use Rattle.proof_garbage.specs.Beneath.proof_memory.proofs.Claims.Uses.{safe_of}
use Rattle.proof_garbage.specs.Beneath.proof_memory.proofs.Safety.First.{first_stands, safe_at_first}
use Rattle.proof_garbage.specs.Beneath.proof_commits.specs.Protocol.{Words}
use Rattle.proof_garbage.specs.Beneath.proof_commits.proofs.Course.Finals.{none_final}
use Rattle.proof_garbage.specs.Beneath.proof_commits.proofs.Words.Along.{protocol}
use Rattle.proof_garbage.specs.Beneath.proof_commits.proofs.Words.Stood.{Stood, stands_now, stood_still}
use Rattle.proof_garbage.proofs.Fresh.{fresh, prev_word_of}
use Rattle.proof_garbage.proofs.Restoring.{states, last, known, w}

module _ (limits : Bounds) (steps : List Step) (ok : AreBounds limits) where
  abbrev words : Words
  words = w limits steps ok

  abbrev end : ℕ
  end = last limits steps ok

  root_used : IsInUse (first_state limits).heap (ref_to 2 1)
  unfolding first_state
  root_used = safe_of ((safe_at_first limits ok).words 0 _ refl).0

  root_node : (slot : Slot) → standing (first_state limits).heap (ref_to 2 1) ≡ Some slot → slot.node ≡ Indirection 0 (ref_to 1 0)
  unfolding first_state
  root_node slot stands =
      first_stands (λ r x. r ≡ ref_to 2 1 → x.node ≡ Indirection 0 (ref_to 1 0)) limits.slots ok.0 (λ birth same. refl) (λ birth same. absurd (omega (arith, same))) (ref_to 2 1) slot stands refl

  root_first : grown (states limits steps ok) 0 (ref_to 2 1) ≡ Some root_used.0
  unfolding grown
  root_first = ap (λ (s : State). standing s.heap (ref_to 2 1)) (known limits steps ok).run.first ∙ root_used.1

  stood_first : Stood words 0 (ref_to 2 1) (ref_to 1 0)
  stood_first =
      let node = ap node_of root_first ∙ root_node root_used.0 root_used.1 in
      stands_now {t = 0} (ap is_indirection node) (ap main_of node)

  pub fresh_not_first : (actor : ℕ) (operation : Operation) (i a f : Ref) (why : Purpose) → operation_of (run limits steps) actor ≡ Some operation →
      operation.line ≡ line.Swap why (swapping i a f) → f ≡ ref_to 1 0 → ⊥
  fresh_not_first actor operation i a f why runs on same =
      (fresh limits steps ok actor operation i a f why runs on).apart (ref_to 2 1) (subst (Stood words end (ref_to 2 1)) (sym same) (stood_still (omega arith) stood_first))

  pub first_decided : IsInUse (run limits steps).heap (ref_to 1 0) → prev_at (run limits steps).heap (ref_to 1 0) ≡ prev.None
  first_decided used =
      sym (prev_word_of limits steps ok (ref_to 1 0) used)
      ∙ none_final (protocol limits (states limits steps ok) end (known limits steps ok)) (ref_to 2 1) (ref_to 1 0) 0 end (omega arith)
      (omega arith) stood_first ((protocol limits (states limits steps ok) end (known limits steps ok)).first_decided (ref_to 1 0))
