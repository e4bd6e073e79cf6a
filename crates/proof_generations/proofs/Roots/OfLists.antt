-- After each list of steps: offers, handles and the counter.
use Rattle.std.proofs.Common.{◌≡◌, ℕ, ◌<◌, Option, Some, List, unwrap_or, ap, arith}
use Rattle.proof_generations.specs.Vocabulary.{slot_of, Ref, Slot, stored, generation_of, Operation, Bounds, Step, State, operation_of, run, standing}
use Rattle.proof_generations.specs.Beneath.machine_model.proofs.Along.{along}
use Rattle.proof_generations.proofs.Offers.Same.{HasOffers, has_offers_after, no_offers_at_first}
use Rattle.proof_generations.proofs.Handles.Operations.{HasHandles, handles_after, handles_at_first}
use Rattle.proof_generations.proofs.Counter.Below.{IsBelow}
use Rattle.proof_generations.proofs.Handles.Running.{place_of_actor}
use Rattle.proof_generations.specs.Beneath.machine_model.proofs.Grown.{standing_parts}

pub has_handles_along : (limits : Bounds) (steps : List Step) → HasOffers (run limits steps) × HasHandles (run limits steps)
has_handles_along limits =
    along limits (λ state. HasOffers state × HasHandles state) (no_offers_at_first limits, handles_at_first limits)
    (λ steps s o after m I. (has_offers_after (run limits steps) I.0 s o after m, handles_after (run limits steps) I.0 I.1 s o after m))

-- what stands is in the slots
pub standing_below : (state : State) → IsBelow state → (r : Ref) (slot : Slot) → standing state.heap r ≡ Some slot → generation_of slot.node < state.generations
unfolding stored
standing_below state h r slot e = h.nodes (slot_of r) slot ((standing_parts state.heap r slot e).0)

pub operation_below : (state : State) → IsBelow state → (actor : ℕ) (operation : Operation) (g : ℕ) → operation_of state actor ≡ Some operation → operation.generation ≡ Some g → g < state.generations
operation_below state h actor operation g is e =
    let (k, place, at_k) = place_of_actor state actor operation is in
    omega (arith, h.starts k operation at_k, ap (λ (x : Option ℕ). unwrap_or x 0) e)
