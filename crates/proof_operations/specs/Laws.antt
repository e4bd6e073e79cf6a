-- What running operations have, for every list of steps: their ids, the handle numbers that they take, and how long their lists get.
use Rattle.std.specs.Prelude.{◌≡◌, ℕ, ◌<◌, ◌≤◌, List, length, Some, None}
use Rattle.proof_operations.specs.Vocabulary.{Operation, Bounds, Step, gone, State, handle_limit, operation_of, AreBounds, go_denial, is_taken, run, GoesOn, action_of, Action, Line}
use Rattle.proof_operations.specs.Beneath.machine_model.specs.declared.actions.Action.TheVariants as act
use Rattle.proof_operations.specs.Beneath.machine_model.specs.declared.lines.Line.TheVariants as line
use Rattle.proof_operations.specs.Beneath.machine_model.specs.declared.finding.KeyLine.TheVariants as key
use Rattle.proof_operations.specs.Beneath.machine_model.specs.declared.repairs.RenewLine.TheVariants as renew
use Rattle.proof_operations.specs.Beneath.machine_model.specs.declared.repairs.CleanLine.TheVariants as clean

-- the ids that were given are told apart
pub record HaveIds (state : State) : Type 0 where
  pub distinct : (actor other : ℕ) (a b : Operation) → operation_of state actor ≡ Some a → operation_of state other ≡ Some b → a.id ≡ b.id → actor ≡ other
  pub given : (actor : ℕ) (operation : Operation) → operation_of state actor ≡ Some operation → operation.id < state.begun

abbrev pub IdsApart : Type 0
IdsApart = (limits : Bounds) (steps : List Step) → HaveIds (run limits steps)

-- a step of an operation that isn't its end takes no handle number and gives none back: it opens what was reserved, in the step in which it marks whose it was
abbrev pub NumbersStay : Type 0
NumbersStay =
    (limits : Bounds) (steps : List Step) (actor : ℕ) (operation : Operation) → AreBounds limits → go_denial (run limits steps) actor ≡ None →
    operation_of (run limits steps) actor ≡ Some operation → GoesOn (action_of (run limits steps) operation) → (handle : ℕ) → handle < handle_limit →
    is_taken (gone (run limits steps) actor operation) handle ≡ is_taken (run limits steps) handle

-- a private list has 33 references at most: the links and the branch of a renewed node of 32 entries
abbrev pub PrivatesAreShort : Type 0
PrivatesAreShort =
    (limits : Bounds) (steps : List Step) (actor : ℕ) (operation : Operation) → operation_of (run limits steps) actor ≡ Some operation → length operation.private ≤ 33

-- the operation's next step makes a node
abbrev pub MakesNode : Action → Type 0
MakesNode (act.Make node) = Unit {0}
MakesNode (act.MakeRoot main) = Unit {0}
MakesNode action = ⊥

-- there is room for what a step from this line adds: a path has 14 indirections at most, and a branch 32 entries
abbrev pub LineHasRoom : Line → Type 0
LineHasRoom (line.Key (key.Entry path main position)) = length path < 14
LineHasRoom (line.Renew (renew.Entry path main done)) = length done < 32
LineHasRoom (line.Renew (renew.Link path main done child)) = length done < 32
LineHasRoom (line.Clean (clean.Entry path main done)) = length done < 32
LineHasRoom (line.Clean (clean.Tomb path main done child)) = length done < 32
LineHasRoom l = Unit {0}

-- so there is for each running operation, and for one reference more in its private list where it makes a node
abbrev pub ListsHaveRoom : Type 0
ListsHaveRoom =
    (limits : Bounds) (steps : List Step) (actor : ℕ) (operation : Operation) → AreBounds limits → operation_of (run limits steps) actor ≡ Some operation →
    LineHasRoom operation.line × (MakesNode (action_of (run limits steps) operation) → length operation.private < 33)
