-- A close ends with the step after its begin.
use Rattle.std.specs.Prelude.{◌≡◌, ℕ, ◌<◌, true, List, Some, Ok}
use Rattle.proof_obstruction_free.specs.Vocabulary.{Closed, Operation, Bounds, Ended, Step, Go, is_close, next, run, operation_of}
use Rattle.proof_obstruction_free.specs.Laws.{HasEnded, alone_after, history_after}

-- wherever a close runs, the next step of its actor ends it
abbrev pub ClosesEnd : Type 0
ClosesEnd =
    (limits : Bounds) (steps : List Step) (actor : ℕ) (operation : Operation) → operation_of (run limits steps) actor ≡ Some operation → is_close operation.call ≡ true →
    (run limits steps).steps < limits.steps →
    (next (run limits steps) (Go actor) ≡ Ok (Ended operation.id Closed, alone_after limits steps actor 1))
    × HasEnded (alone_after limits steps actor 1) (history_after limits steps actor 1) actor operation.id
