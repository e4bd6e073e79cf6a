-- Who swapped a pending node in is still in its SWAP, at the indirection at which others decide it.
use Rattle.std.proofs.Common.{◌≡◌, ℕ, suc, List, Option, Some, sym, ap, ◌∙◌}
use Rattle.proof_claims.specs.Beneath.slot_arena.specs.declared.nodes.Prev.TheVariants as prev
use Rattle.proof_claims.specs.Beneath.slot_arena.specs.declared.refs.Ref.{Ref}
use Rattle.proof_claims.specs.Beneath.slot_arena.specs.Heaps.{prev_at}
use Rattle.proof_claims.specs.Beneath.machine_model.specs.declared.actions.Action.TheVariants as act
use Rattle.proof_claims.specs.Beneath.machine_model.specs.declared.lines.Line.TheVariants as line
use Rattle.proof_claims.specs.Beneath.machine_model.specs.declared.lines.Purpose.{Purpose}
use Rattle.proof_claims.specs.Beneath.machine_model.specs.declared.operations.Operation.{Operation}
use Rattle.proof_claims.specs.Beneath.machine_model.specs.declared.reading.ReadLine.{ReadLine}
use Rattle.proof_claims.specs.Beneath.machine_model.specs.declared.reading.SwapLine.TheVariants as swap
use Rattle.proof_claims.specs.Beneath.machine_model.specs.declared.steps.Bounds.{Bounds}
use Rattle.proof_claims.specs.Beneath.machine_model.specs.declared.steps.Step.{Step}
use Rattle.proof_claims.specs.Beneath.machine_model.specs.Machine.{AreBounds, run}
use Rattle.proof_claims.specs.Beneath.machine_model.specs.Operations.{action_of}
use Rattle.proof_claims.specs.Beneath.machine_model.specs.States.{State, operation_of}
use Rattle.proof_claims.specs.Beneath.machine_model.proofs.Fates.{place_of_actor}
use Rattle.proof_claims.specs.Beneath.machine_model.proofs.Times.{run_ends}
use Rattle.proof_claims.specs.Beneath.proof_commits.proofs.Lines.Swap.{runs_deciding}
use Rattle.proof_claims.specs.Beneath.proof_commits.proofs.Words.Stood.{Stood, none≢pending, stands_now}
use Rattle.proof_claims.specs.Beneath.proof_commits.specs.Protocol.{Decides}
use Rattle.proof_claims.specs.Beneath.proof_commits.specs.Stages.{stage_of_actor}
use Rattle.proof_claims.specs.Beneath.proof_garbage.proofs.Fresh.{prev_word_of, sound}
use Rattle.proof_claims.specs.Beneath.proof_garbage.proofs.Restoring.{last, stood_deciding, w}
use Rattle.proof_claims.specs.Beneath.proof_memory.specs.Laws.{IsInUse}

pub record PendingOwner (state : State) (i f p : Ref) : Type 0 where
  pub k : ℕ
  pub operation : Operation
  pub runs : operation_of state (suc k) ≡ Some operation
  pub why : Purpose
  pub reads : ReadLine
  pub swaps : operation.line ≡ line.Swap why (record { indirection = i; replaced = p; fresh = f; line = swap.Deciding reads })

module _ (limits : Bounds) (ok : AreBounds limits) (xs : List Step) (i f p : Ref) (used : IsInUse (run limits xs).heap f) (pending : prev_at (run limits xs).heap f ≡ prev.Pending p) where
  -- it stood in that indirection
  pub owner_where : Stood (w limits xs ok) (last limits xs ok) i f → PendingOwner (run limits xs) i f p
  owner_where stood =
      let pends = prev_word_of limits xs ok f used ∙ pending in
      let owner = (sound limits xs ok).owned f p pends in
      let same = (sound limits xs ok).words.one_word f owner.link i (λ none. none≢pending none pends) (stands_now owner.is_link owner.stands) stood in
      by owner.actor owner.link same owner.line (ap (λ (s : State). stage_of_actor (operation_of s owner.actor)) (sym (run_ends limits xs)) ∙ owner.stage)
    where
      by : (a : ℕ) (link : Ref) → link ≡ i → (l : ReadLine) → stage_of_actor (operation_of (run limits xs) a) ≡ Decides link p f l → PendingOwner (run limits xs) i f p
      by a link same l stage =
          let its = runs_deciding (operation_of (run limits xs) a) link p f l stage in
          let (k, place, at_k) = place_of_actor (run limits xs) a its.operation its.is in
          record {
            k = k;
            operation = its.operation;
            runs = at_k;
            why = its.swaps.0;
            reads = l;
            swaps = its.swaps.1 ∙ ap (λ x. line.Swap its.swaps.0 (record { indirection = x; replaced = p; fresh = f; line = swap.Deciding l })) same;
          }

module _ (limits : Bounds) (ok : AreBounds limits) (xs : List Step) (actor : ℕ) (operation : Operation) (i f p : Ref) (told : Option ℕ) (runs : operation_of (run limits xs) actor ≡ Some operation)
    (acts : action_of (run limits xs) operation ≡ act.Decide i f p told) (used : IsInUse (run limits xs).heap f) (pending : prev_at (run limits xs).heap f ≡ prev.Pending p) where
  pub pending_owner : PendingOwner (run limits xs) i f p
  pending_owner = owner_where limits ok xs i f p used pending (stood_deciding limits xs ok actor operation i f p told runs acts)
