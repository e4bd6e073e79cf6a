-- Who lets go of all that a node holds, by what its operation sees.
use Rattle.std.specs.Prelude.{◌≡◌, ◌⊎◌, ℕ, false, true, ◌∷◌, Contains, Some}
use Rattle.proof_claims.specs.Beneath.slot_arena.specs.declared.refs.Ref.{Ref}
use Rattle.proof_claims.specs.Beneath.slot_arena.specs.Heaps.{refs_of_option}
use Rattle.proof_claims.specs.Beneath.machine_model.specs.declared.actions.Action.TheVariants as act
use Rattle.proof_claims.specs.Beneath.machine_model.specs.declared.copying.CopyLine.TheVariants as copy
use Rattle.proof_claims.specs.Beneath.machine_model.specs.declared.lines.Line.TheVariants as line
use Rattle.proof_claims.specs.Beneath.machine_model.specs.declared.operations.Operation.{Operation}
use Rattle.proof_claims.specs.Beneath.machine_model.specs.declared.roots.Complete.{Complete}
use Rattle.proof_claims.specs.Beneath.machine_model.specs.declared.roots.Descriptor.{Descriptor}
use Rattle.proof_claims.specs.Beneath.machine_model.specs.declared.steps.Step.{Step}
use Rattle.proof_claims.specs.Beneath.machine_model.specs.declared.steps.Step.TheVariants.{GiveUp, Go}
use Rattle.proof_claims.specs.Beneath.machine_model.specs.Calls.{handle_of}
use Rattle.proof_claims.specs.Beneath.machine_model.specs.Operations.{action_of}
use Rattle.proof_claims.specs.Beneath.machine_model.specs.States.{State, operation_of, word_at}
use Rattle.proof_claims.specs.Beneath.machine_model.specs.Swapping.{is_carried_out}
use Rattle.proof_claims.specs.Beneath.proof_reuse.specs.Laws.{HasReplaced}
use Rattle.proof_claims.specs.Held.{Held, is_owned}
use Rattle.proof_claims.specs.Changes.{change_of, given_up}
use Rattle.proof_claims.specs.Dropped.{HasFailed}

pub data LetsGoOf (state : State) (held : Held) (s : Step) (j : Ref) : Type 0 where
  -- who sees, at the last step of its SWAP, that its fresh main node was committed over this one, the indirection's own
  of_replaced : (actor : ℕ) (i f : Ref) → s ≡ Go actor → HasReplaced state actor i j f → is_owned held i j ≡ true → LetsGoOf state held s j
  -- or that this, its fresh one, wasn't committed
  of_failed : (actor : ℕ) (i m : Ref) → s ≡ Go actor → HasFailed state actor i m j → LetsGoOf state held s j
  -- who made it, and gives up all that it made
  of_private : (actor : ℕ) (operation : Operation) → (s ≡ Go actor) ⊎ (s ≡ GiveUp actor) → operation_of state actor ≡ Some operation → Contains operation.private j →
      change_of state held s ≡ given_up operation.private → LetsGoOf state held s j
  -- who made it for its offer, and sees that this wasn't carried out
  of_offered : (actor : ℕ) (operation : Operation) (offer : Descriptor) (main : Ref) (c : Complete) → s ≡ Go actor → operation_of state actor ≡ Some operation →
      action_of state operation ≡ act.Complete offer main → operation.line ≡ line.Copy (copy.Complete c) → is_carried_out (word_at state (handle_of operation.call)) offer main ≡ false →
      operation.is_marked ≡ false → Contains (offer.successor ∷ refs_of_option offer.second) j → LetsGoOf state held s j
