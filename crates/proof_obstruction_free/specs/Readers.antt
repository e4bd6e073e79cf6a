-- A call on one key on a read-only handle, whose actor alone takes steps.
use Rattle.std.specs.Prelude.{◌≡◌, ℕ, List}
use Rattle.proof_obstruction_free.specs.Vocabulary.{ReadOnly, Operation, Bounds, Step}
use Rattle.proof_obstruction_free.specs.Keys.{IsOnKey}
use Rattle.proof_obstruction_free.specs.Laws.{HasEnded, RunsAlone, alone_after, history_after}

-- it has ended after so many steps from wherever it stands: nine a level, 14 levels, and at most 32 singles of one hash
abbrev pub ReadersEnd : Type 0
ReadersEnd =
    (limits : Bounds) (steps : List Step) (actor : ℕ) (operation : Operation) → RunsAlone limits steps actor operation → IsOnKey operation.call → operation.access ≡ ReadOnly →
    HasEnded (alone_after limits steps actor 166) (history_after limits steps actor 166) actor operation.id
