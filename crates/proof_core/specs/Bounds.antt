-- What bounds the numbers of a machine, and what a step that may lack memory comes to.
use Rattle.std.specs.Prelude.{◌≡◌, ℕ, ◌+◌, ◌*◌, ◌≤◌, ◌⊎◌, true, length, Option, Some, None, Result, Ok, Err}
use Rattle.proof_core.specs.Vocabulary.{Refusal, Operation, Bounds, Outcome, Step, needs_read_only, State, operation_of, settled, Answer, next, is_taken_step, longest_life, AreBounds, most_actors}
use Rattle.proof_core.specs.Vocabulary.{most_slots}
use Rattle.proof_core.specs.Beneath.ctrie_base.specs.declared.refusals.Refusal.TheVariants as refuse

-- No number outgrows its type: most grow by at most 1 in each step. A step draws a birth or frees a slot, and not both, so about every other one draws a birth.
pub record IsBounded (state : State) : Type 0 where
  pub slots : length state.heap.slots ≤ most_slots
  pub steps : state.steps ≤ longest_life
  pub births : 2 * state.heap.births + length state.heap.free ≤ state.steps + length state.heap.slots + 2
  pub generations : state.generations ≤ state.steps + 1
  pub epoch : state.epoch ≤ state.steps
  pub attempts : (actor : ℕ) (operation : Operation) → operation_of state actor ≡ Some operation → operation.attempt ≤ state.steps
  pub begins : state.begun ≤ state.steps

-- the bounds with which a program's machine begins: it has 64 actors at most, it ends before its counters outgrow their types, and a word names each of its slots
abbrev pub AreInRange : Bounds → Type 0
AreInRange bounds = AreBounds bounds × (bounds.actors ≤ most_actors) × (bounds.steps ≤ longest_life) × (bounds.slots ≤ most_slots)

-- the bounds are out of range, or memory was lacking for bounds in range
abbrev pub RefusesBounds : Bounds → Refusal → Type 0
RefusesBounds bounds refusal = ((¬ AreInRange bounds) × (refusal ≡ refuse.BadLimits)) ⊎ (AreInRange bounds × (refusal ≡ refuse.Memory))

-- What a step comes to, by what the definition answers: where it is taken, its outcome and the state are those; where it is
-- refused nothing has changed, and the refusal is that of the definition.
abbrev pub Answers : Result Outcome Refusal → State → Answer → State → Type 0
Answers (Ok outcome) before answer after = answer ≡ Ok (outcome, after)
Answers (Err refusal) before answer after = (after ≡ before) × (answer ≡ Err refusal)

-- the actor runs an operation that answers a list, or the number of its elements
abbrev pub Walks : Option Operation → Type 0
Walks None = ⊥
Walks (Some operation) = needs_read_only operation.call ≡ true

-- The same of the actor's step, which may lack memory besides: it isn't denied then, and its operation is one that walks over all pairs.
abbrev pub Applies : Result Outcome Refusal → State → ℕ → Answer → State → Type 0
Applies (Ok outcome) before actor answer after = answer ≡ Ok (outcome, after)
Applies (Err refusal) before actor answer after =
    (after ≡ before) × ((answer ≡ Err refusal) ⊎ ((refusal ≡ refuse.Memory) × (is_taken_step answer ≡ true) × Walks (operation_of before actor)))

-- The step comes to this outcome, and after leads to what the definition answers once limbo is brought up to date and the
-- step is counted.
pub record Leads (before : State) (s : Step) (outcome : Outcome) (after : State) : Type 0 where
  pub answer : next before s ≡ Ok (outcome, settled before after)
  pub limbo : after.limbo ≡ before.limbo
  pub steps : after.steps ≡ before.steps
