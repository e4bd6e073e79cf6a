-- How many slots an operation takes where its actor alone takes steps.
use Rattle.std.specs.Prelude.{◌≡◌, ◌≢◌, ℕ, zero, suc, ◌+◌, ◌≤◌, Bool, true, false, if◌then◌else◌, List, [], ◌∷◌, ◌++◌, length, Option, Some, None, Ok}
use Rattle.proof_obstruction_free.specs.Vocabulary.{Kind, Make, Call, Reply, NoSlots, Operation, Bounds, Ended, Step, Go, next, next_kind, run, State, operation_of, new_try}
use Rattle.proof_obstruction_free.specs.Beneath.machine_model.specs.declared.lines.Line.TheVariants.{End}
use Rattle.proof_obstruction_free.specs.Beneath.machine_model.specs.declared.steps.Step.TheVariants.{Begin}
use Rattle.proof_obstruction_free.specs.Copies.{IsCopying}
use Rattle.proof_obstruction_free.specs.Laws.{RunsAlone, alone_after, most_steps_of}

-- ---- makes

abbrev pub is_make : Option Kind → Bool
is_make (Some Make) = true
is_make kind = false

-- the next step of the actor's operation, if one runs, is to make a node
abbrev pub makes_next : State → ℕ → Bool
makes_next state actor = is_make (next_kind state actor)

-- how many of so many steps of this actor alone are to make a node
unfoldable pub makes_alone : Bounds → List Step → ℕ → ℕ → ℕ
makes_alone limits steps actor zero = 0
makes_alone limits steps actor (suc n) = makes_alone limits steps actor n + (if makes_next (alone_after limits steps actor n) actor then 1 else 0)

-- ---- enough slots

-- an operation whose actor alone takes steps makes no more nodes than it takes steps, until it has ended
abbrev pub MakesAtMost : Type 0
MakesAtMost =
    (limits : Bounds) (steps : List Step) (actor : ℕ) (operation : Operation) → RunsAlone limits steps actor operation → (n : ℕ) →
    makes_alone limits steps actor n ≤ most_steps_of limits.actors

-- so where as many slots are free, and it isn't refused already, it isn't refused for want of slots
abbrev pub EnoughSlots : Type 0
EnoughSlots =
    (limits : Bounds) (steps : List Step) (actor : ℕ) (operation : Operation) → RunsAlone limits steps actor operation → operation.line ≢ End NoSlots →
    most_steps_of limits.actors ≤ length (run limits steps).heap.free →
    (n id : ℕ) (answer : Reply) (after : State) → next (alone_after limits steps actor n) (Go actor) ≡ Ok (Ended id answer, after) → answer ≢ NoSlots

-- the same of a call that begins where as many slots are free
abbrev pub EnoughAtBegin : Type 0
EnoughAtBegin =
    (limits : Bounds) (steps : List Step) (actor : ℕ) (call : Call) (number : Option ℕ) (operation : Operation) → operation_of (run limits steps) actor ≡ None →
    RunsAlone limits (steps ++ Begin actor call number ∷ []) actor operation → most_steps_of limits.actors ≤ length (run limits steps).heap.free →
    (n id : ℕ) (answer : Reply) (after : State) → next (alone_after limits (steps ++ Begin actor call number ∷ []) actor n) (Go actor) ≡ Ok (Ended id answer, after) → answer ≢ NoSlots

-- ---- from where a try begins

-- the most nodes that such an operation makes from there: from its begin too
abbrev pub most_makes_alone : ℕ
most_makes_alone = 570

abbrev pub TriesMakeFew : Type 0
TriesMakeFew =
    (limits : Bounds) (steps : List Step) (actor : ℕ) (operation : Operation) → RunsAlone limits steps actor operation → operation.line ≡ new_try → (n : ℕ) →
    makes_alone limits steps actor n ≤ most_makes_alone

-- so where as many slots are free it isn't refused for want of slots
abbrev pub EnoughForTries : Type 0
EnoughForTries =
    (limits : Bounds) (steps : List Step) (actor : ℕ) (operation : Operation) → RunsAlone limits steps actor operation → operation.line ≡ new_try →
    most_makes_alone ≤ length (run limits steps).heap.free →
    (n id : ℕ) (answer : Reply) (after : State) → next (alone_after limits steps actor n) (Go actor) ≡ Ok (Ended id answer, after) → answer ≢ NoSlots

-- nor is a call that begins where as many are free
abbrev pub TriesEnoughAtBegin : Type 0
TriesEnoughAtBegin =
    (limits : Bounds) (steps : List Step) (actor : ℕ) (call : Call) (number : Option ℕ) (operation : Operation) → operation_of (run limits steps) actor ≡ None →
    RunsAlone limits (steps ++ Begin actor call number ∷ []) actor operation → most_makes_alone ≤ length (run limits steps).heap.free →
    (n id : ℕ) (answer : Reply) (after : State) → next (alone_after limits (steps ++ Begin actor call number ∷ []) actor n) (Go actor) ≡ Ok (Ended id answer, after) → answer ≢ NoSlots

-- ---- a snapshot, a freeze or a clear

-- the most steps, and so the most nodes that such a call makes, from where a try begins: from its begin too
abbrev pub most_steps_of_copies : ℕ
most_steps_of_copies = 23

abbrev pub CopiesMakeFew : Type 0
CopiesMakeFew =
    (limits : Bounds) (steps : List Step) (actor : ℕ) (operation : Operation) → RunsAlone limits steps actor operation → IsCopying operation.call → operation.line ≡ new_try →
    (n : ℕ) → makes_alone limits steps actor n ≤ most_steps_of_copies

abbrev pub EnoughForCopies : Type 0
EnoughForCopies =
    (limits : Bounds) (steps : List Step) (actor : ℕ) (operation : Operation) → RunsAlone limits steps actor operation → IsCopying operation.call → operation.line ≡ new_try →
    most_steps_of_copies ≤ length (run limits steps).heap.free →
    (n id : ℕ) (answer : Reply) (after : State) → next (alone_after limits steps actor n) (Go actor) ≡ Ok (Ended id answer, after) → answer ≢ NoSlots

abbrev pub CopiesEnoughAtBegin : Type 0
CopiesEnoughAtBegin =
    (limits : Bounds) (steps : List Step) (actor : ℕ) (call : Call) (number : Option ℕ) (operation : Operation) → operation_of (run limits steps) actor ≡ None →
    RunsAlone limits (steps ++ Begin actor call number ∷ []) actor operation → IsCopying call → most_steps_of_copies ≤ length (run limits steps).heap.free →
    (n id : ℕ) (answer : Reply) (after : State) → next (alone_after limits (steps ++ Begin actor call number ∷ []) actor n) (Go actor) ≡ Ok (Ended id answer, after) → answer ≢ NoSlots
