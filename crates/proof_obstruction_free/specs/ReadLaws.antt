-- Laws of a READ of an operation that alone takes steps.
use Rattle.std.specs.Prelude.{◌≡◌, ℕ, ◌≤◌, List, Some}
use Rattle.proof_obstruction_free.specs.Vocabulary.{Ref, Operation, Read, Bounds, Step, read_of, State, operation_of}
use Rattle.proof_obstruction_free.specs.Beneath.machine_model.specs.declared.reading.ReadLine.TheVariants as read
use Rattle.proof_obstruction_free.specs.Laws.{RunsAlone, alone_after}
use Rattle.proof_obstruction_free.specs.ReadEnds.{read_steps, read_steps_left}

-- the actor's operation is in no READ
abbrev pub IsOutOfRead : State → ℕ → Type 0
IsOutOfRead state actor = (operation : Operation) (r : Read) → operation_of state actor ≡ Some operation → read_of operation.line ≡ Some r → ⊥

-- a READ at its first line is over within nine steps of its actor alone
abbrev pub AloneReadEnds : Type 0
AloneReadEnds =
    (limits : Bounds) (steps : List Step) (actor : ℕ) (operation : Operation) → RunsAlone limits steps actor operation → (i : Ref) →
    read_of operation.line ≡ Some (record { indirection = i; line = read.Main }) → (n : ℕ) × (n ≤ read_steps) × IsOutOfRead (alone_after limits steps actor n) actor

-- at any line within twelve
abbrev pub AloneReadGoesToItsEnd : Type 0
AloneReadGoesToItsEnd =
    (limits : Bounds) (steps : List Step) (actor : ℕ) (operation : Operation) → RunsAlone limits steps actor operation → (r : Read) → read_of operation.line ≡ Some r →
    (n : ℕ) × (n ≤ read_steps_left) × IsOutOfRead (alone_after limits steps actor n) actor
