-- Where no tomb stands at the end of a path of one indirection and no list is a parent in CLIMB, no operation comes to the impossible line.
use Rattle.std.proofs.Common.{◌≡◌, ℕ, Option, Some, None, get_or, subst}
use Rattle.proof_memory.specs.Vocabulary.{Call, Close, Entries, Operation, Bounds, Outcome, Step, State, first_state, first_line, operation_after, Moves}
use Rattle.machine_model.proofs.Found.{none_found}
use Rattle.machine_model.proofs.Actors.{mark_one, mark_only}
use Rattle.proof_memory.proofs.Safety.Guards.{Safe}
use Rattle.proof_memory.proofs.Safety.EachStep.{each_after}
use Rattle.proof_memory.proofs.Safety.States.{IsSafe, heaped}
use Rattle.proof_memory.proofs.Levels.Impossible.{IsImpossible, IsStrange, impossible_strange}

-- no running operation is on a line of which P holds
abbrev pub NoneRuns : (State → Operation → Type 0) → State → Type 0
NoneRuns P state = (k : ℕ) (operation : Operation) → get_or state.actors k None ≡ Some operation → P state operation → ⊥

first_possible : (call : Call) → IsImpossible (first_line call) → ⊥
first_possible (Close h) i = i
first_possible (Entries h) i = i
first_possible call i = i

marked_possible : (m : Option ℕ) (operation : Operation) → (IsImpossible operation.line → ⊥) → IsImpossible (mark_one m operation).line → ⊥
marked_possible m operation h i = h (subst (λ (o : Operation). IsImpossible o.line) (mark_only m operation) i)

pub never_after : (state : State) → IsSafe state → NoneRuns (λ state operation. IsStrange state operation.line) state → NoneRuns (λ state operation. IsImpossible operation.line) state →
    (s : Step) (o : Outcome) (after : State) → Moves state s o after → NoneRuns (λ state operation. IsImpossible operation.line) after
never_after state I strange before s o after m =
    each_after state (λ k operation. get_or state.actors k None ≡ Some operation) (λ after k operation. IsImpossible operation.line → ⊥) (λ k operation e. e)
    (λ actor call number k own d. first_possible call)
    (λ actor operation k own is g found. marked_possible _ (operation_after state operation)
    (λ i. strange k operation found
    (impossible_strange state operation (Safe state operation.epoch) (heaped state I operation.epoch) (I.fits k operation found) operation.line
    (I.lines k operation found) (before k operation found) i)))
    (λ actor operation answer k own is a found i. i)
    (λ s o after m k other operation found e. marked_possible _ operation (before k operation found)) s o after m

pub none_at_first : (limits : Bounds) → NoneRuns (λ state operation. IsImpossible operation.line) (first_state limits)
unfolding first_state
none_at_first limits k operation found i = none_found limits.actors k operation found
