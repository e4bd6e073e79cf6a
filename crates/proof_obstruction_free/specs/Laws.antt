-- Laws of an operation that alone takes steps.
use Rattle.std.specs.Prelude.{◌≡◌, ℕ, suc, ◌+◌, ◌*◌, ◌<◌, ◌≤◌, List, ◌++◌, Contains, replicate, Some, None, Ok}
use Rattle.proof_obstruction_free.specs.Vocabulary.{Kind, Call, Close, Entries, Count, Event, End, Reply, Operation, Bounds, Went, Ended, Step, Go, KeysFit, AreBounds, next, run, record_of, State}
use Rattle.proof_obstruction_free.specs.Vocabulary.{operation_of}

-- a call on one key, a snapshot, a freeze or a clear
abbrev pub IsOnKeyOrRoot : Call → Type 0
IsOnKeyOrRoot (Close h) = ⊥
IsOnKeyOrRoot (Entries h) = ⊥
IsOnKeyOrRoot (Count h) = ⊥
IsOnKeyOrRoot call = Unit {0}

-- the most steps that such an operation takes in a machine of so many actors, where its own alone takes steps, whatever the others left behind
abbrev pub most_steps_of : ℕ → ℕ
most_steps_of actors = 3642 + 5 * actors

-- that is, in a program's machine, which has 64 actors at most
abbrev pub most_steps_alone : ℕ
most_steps_alone = 3962

-- the state after these steps and so many of this actor alone
abbrev pub alone_after : Bounds → List Step → ℕ → ℕ → State
alone_after limits steps actor n = run limits (steps ++ replicate n (Go actor))

-- and the history then
abbrev pub history_after : Bounds → List Step → ℕ → ℕ → List Event
history_after limits steps actor n = (record_of limits (steps ++ replicate n (Go actor))).events

-- the actor's operation after these steps has such a call, and so many steps are left that it may still take the most
pub record RunsAlone (limits : Bounds) (steps : List Step) (actor : ℕ) (operation : Operation) : Type 0 where
  pub limits_ok : AreBounds limits
  pub keys_fit : KeysFit steps
  pub runs : operation_of (run limits steps) actor ≡ Some operation
  pub call : IsOnKeyOrRoot operation.call
  pub left : (run limits steps).steps + most_steps_of limits.actors ≤ limits.steps

-- ---- it ends

-- the operation of this id has ended: the actor runs none, and the history tells its end
pub record HasEnded (state : State) (history : List Event) (actor id : ℕ) : Type 0 where
  pub idle : operation_of state actor ≡ None
  pub answer : Reply
  pub told : Contains history (End id answer)

-- after so many steps of its actor alone it has ended
abbrev pub AloneItEnds : Type 0
AloneItEnds =
    (limits : Bounds) (steps : List Step) (actor : ℕ) (operation : Operation) → RunsAlone limits steps actor operation →
    HasEnded (alone_after limits steps actor (most_steps_of limits.actors)) (history_after limits steps actor (most_steps_of limits.actors)) actor operation.id

-- ---- and none of its steps is denied

-- this step of the actor alone is its operation's, and goes on
abbrev pub GoesOnAt : Bounds → List Step → ℕ → ℕ → Type 0
GoesOnAt limits steps actor k = (kind : Kind) × (next (alone_after limits steps actor k) (Go actor) ≡ Ok (Went kind, alone_after limits steps actor (suc k)))

-- this one ends the operation of this id
abbrev pub EndsAt : Bounds → List Step → ℕ → ℕ → ℕ → Type 0
EndsAt limits steps actor id n = (answer : Reply) × (next (alone_after limits steps actor n) (Go actor) ≡ Ok (Ended id answer, alone_after limits steps actor (suc n)))

-- each step of its actor alone goes on, until one of the first so many ends it
abbrev pub EachStepLeadsToItsEnd : Type 0
EachStepLeadsToItsEnd =
    (limits : Bounds) (steps : List Step) (actor : ℕ) (operation : Operation) → RunsAlone limits steps actor operation →
    (n : ℕ) × (n < most_steps_of limits.actors) × ((k : ℕ) → k < n → GoesOnAt limits steps actor k) × EndsAt limits steps actor operation.id n
