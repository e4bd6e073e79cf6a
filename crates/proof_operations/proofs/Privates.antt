-- A private list has 33 references at most.
use Rattle.std.proofs.Common.{◌≡◌, ℕ, ◌<◌, List, length, Some, arith}
use Rattle.proof_operations.specs.Vocabulary.{Call, Close, Count, Entries, Operation, Bounds, Step, operation_after, run, action_of, first_line, State, operation_of}
use Rattle.proof_operations.specs.Beneath.machine_model.proofs.Actors.{mark_only, marks_by, marks_in}
use Rattle.proof_operations.specs.Beneath.machine_model.proofs.EachOperation.{OfEach, of_each_along, of_running}
use Rattle.proof_operations.specs.Laws.{MakesNode, PrivatesAreShort}
use Rattle.proof_operations.proofs.Entries.{few_entries}
use Rattle.proof_operations.proofs.Holding.{holds_after}
use Rattle.proof_operations.proofs.MostHeld.{LineHolds, most, room}

abbrev HoldsFew : State → Operation → Type 0
HoldsFew state operation = LineHolds (length operation.private) operation.line

first_holds : (call : Call) → LineHolds 0 (first_line call)
first_holds (Entries h) = omega arith
first_holds (Count h) = omega arith
first_holds (Close h) = omega arith
first_holds call = omega arith

each_holds : (limits : Bounds) (steps : List Step) → OfEach HoldsFew (run limits steps)
each_holds limits =
    of_each_along limits HoldsFew (λ steps actor call number d. first_holds call)
    (λ steps actor operation is g h. rw (mark_only (marks_by (run limits steps) (Some operation)) (operation_after (run limits steps) operation))
    (holds_after (run limits steps) (few_entries limits steps) operation operation.private operation.line h))
    (λ steps actor operation answer is may h. omega arith)
    (λ steps s o after m k other operation found h. rw (mark_only (marks_in (run limits steps) s) operation) h)

pub made_fits : (limits : Bounds) (steps : List Step) (actor : ℕ) (operation : Operation) → operation_of (run limits steps) actor ≡ Some operation →
    MakesNode (action_of (run limits steps) operation) → length operation.private < 33
made_fits limits steps actor operation is =
    room (run limits steps) operation (length operation.private) operation.line (of_running HoldsFew (run limits steps) (each_holds limits steps) actor operation is)

pub privates_short : PrivatesAreShort
privates_short limits steps actor operation is =
    most (length operation.private) operation.line (of_running HoldsFew (run limits steps) (each_holds limits steps) actor operation is)
