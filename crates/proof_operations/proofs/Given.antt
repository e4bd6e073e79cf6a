-- Which ids were given.
use Rattle.std.proofs.Common.{◌≡◌, ℕ, zero, suc, ◌<◌, List, Some, ap}
use Rattle.std.proofs.lemmas.Option.{none-some}
use Rattle.proof_operations.specs.Vocabulary.{Operation, Bounds, Step, State, operation_of, run}
use Rattle.proof_generations.proofs.Handles.Ids.{HasIds}
use Rattle.proof_generations.proofs.Roots.OfLists.{has_handles_along}
use Rattle.proof_operations.specs.Laws.{IdsApart}

ids : (limits : Bounds) (steps : List Step) → HasIds (run limits steps)
ids limits steps = (has_handles_along limits steps).0.ids

distinct : (state : State) → HasIds state → (actor other : ℕ) (a b : Operation) → operation_of state actor ≡ Some a → operation_of state other ≡ Some b → a.id ≡ b.id → actor ≡ other
distinct state h zero other a b at_a at_b same = absurd (none-some a at_a)
distinct state h (suc k) zero a b at_a at_b same = absurd (none-some b at_b)
distinct state h (suc k) (suc j) a b at_a at_b same = ap suc (h.distinct k j a b at_a at_b same)

given : (state : State) → HasIds state → (actor : ℕ) (operation : Operation) → operation_of state actor ≡ Some operation → operation.id < state.begun
given state h zero operation at = absurd (none-some operation at)
given state h (suc k) operation at = h.below k operation at

pub ids_apart : IdsApart
ids_apart limits steps = record {
  distinct = distinct (run limits steps) (ids limits steps);
  given = given (run limits steps) (ids limits steps);
}
