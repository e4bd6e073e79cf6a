-- A snapshot, a freeze or a clear whose actor alone takes steps.
use Rattle.std.specs.Prelude.{◌≡◌, ℕ, List}
use Rattle.proof_obstruction_free.specs.Vocabulary.{Call, Clear, Snapshot, Freeze, Operation, Bounds, Step, new_try}
use Rattle.proof_obstruction_free.specs.Laws.{HasEnded, RunsAlone, alone_after, history_after}

-- a call that offers to swap the root
abbrev pub IsCopying : Call → Type 0
IsCopying (Clear h) = Unit {0}
IsCopying (Snapshot h) = Unit {0}
IsCopying (Freeze h) = Unit {0}
IsCopying call = ⊥

-- it has ended after so many steps from where a try begins, so from its begin too
abbrev pub CopiesEndFirst : Type 0
CopiesEndFirst =
    (limits : Bounds) (steps : List Step) (actor : ℕ) (operation : Operation) → RunsAlone limits steps actor operation → IsCopying operation.call → operation.line ≡ new_try →
    HasEnded (alone_after limits steps actor 23) (history_after limits steps actor 23) actor operation.id

-- and after so many from wherever it stands
abbrev pub CopiesEnd : Type 0
CopiesEnd =
    (limits : Bounds) (steps : List Step) (actor : ℕ) (operation : Operation) → RunsAlone limits steps actor operation → IsCopying operation.call →
    HasEnded (alone_after limits steps actor 49) (history_after limits steps actor 49) actor operation.id
