-- How a main node came to be an indirection's own: an operation swapped it in there, or made the indirection over a main node of its own making.
use Rattle.std.specs.Prelude.{◌≡◌, ℕ, ◌<◌, Bool, true, List, [], ◌∷◌, ◌++◌, Some, None, slice_index_or}
use Rattle.machine_model.specs.Beneath.slot_arena.specs.declared.refs.Ref.{Ref}
use Rattle.machine_model.specs.Beneath.slot_arena.specs.declared.nodes.Node.{Node}
use Rattle.machine_model.specs.Beneath.slot_arena.specs.declared.nodes.Node.TheVariants.{Indirection, Tomb}
use Rattle.machine_model.specs.Beneath.slot_arena.specs.declared.nodes.Slot.{Slot}
use Rattle.machine_model.specs.Beneath.slot_arena.specs.Heaps.{main_at}
use Rattle.machine_model.specs.Beneath.slot_arena.specs.Refs.{birth_of, slot_of}
use Rattle.machine_model.specs.declared.building.BuildLine.TheVariants as build
use Rattle.machine_model.specs.declared.copying.CopyLine.TheVariants as copy
use Rattle.machine_model.specs.declared.lines.Line.{Line}
use Rattle.machine_model.specs.declared.lines.Line.TheVariants as line
use Rattle.machine_model.specs.declared.lines.Purpose.{Purpose}
use Rattle.machine_model.specs.declared.operations.Operation.{Operation}
use Rattle.machine_model.specs.declared.steps.Step.{Step}
use Rattle.machine_model.specs.declared.steps.Step.TheVariants as step
use Rattle.machine_model.specs.Machine.{run}
use Rattle.machine_model.specs.States.{State, operation_of}
use Rattle.machine_model.specs.Swapping.{swapping}
use Rattle.proof_commits.specs.Runs.{HasIndirection}
use Rattle.lock_free.specs.declared.accounts.Account.{Account}
use Rattle.lock_free.specs.declared.sizes.Sizes.{Sizes}
use Rattle.lock_free.specs.Accounts.{bounds_for, OwnIs}

-- next the operation makes an indirection over this main node, which it has made itself
abbrev pub IsBuilding : Line → Ref → Type 0
IsBuilding (line.Build (build.Link path main position below depth)) m = below ≡ m
IsBuilding (line.Copy (copy.Cleared root main branch)) m = branch ≡ m
IsBuilding l m = ⊥

-- an indirection that is made says of its main node that it is its own if it is made so, and only then
abbrev pub MayOwn : Line → Node → Bool → Type 0
MayOwn l (Indirection generation main) own = (own ≡ true → IsBuilding l main) × (IsBuilding l main → own ≡ true)
MayOwn l node own = Unit {0}

-- the operation's next step brings the main node into the indirection
pub data Brings (state : State) (l : Line) (i m : Ref) : Type 0 where
  swaps : (why : Purpose) (a : Ref) → l ≡ line.Swap why (swapping i a m) → Brings state l i m
  builds : IsBuilding l m → state.heap.births < birth_of i → Brings state l i m

-- one of the steps has brought it there
pub record WasBrought (sizes : Sizes) (account : Account) (i m : Ref) : Type 0 where
  pub before : List Step
  pub actor : ℕ
  pub more : List Step
  pub goes_on : account.steps ≡ (before ++ step.Go actor ∷ []) ++ more
  pub operation : Operation
  pub runs : operation_of (run (bounds_for sizes before) before) actor ≡ Some operation
  pub how : Brings (run (bounds_for sizes before) before) operation.line i m
  pub has : HasIndirection (run (bounds_for sizes (before ++ step.Go actor ∷ [])) (before ++ step.Go actor ∷ [])) i
  pub stands : main_at (run (bounds_for sizes (before ++ step.Go actor ∷ [])) (before ++ step.Go actor ∷ [])).heap i ≡ m

-- the node of this number was a tomb
pub record WasTomb (sizes : Sizes) (account : Account) (k : ℕ) : Type 0 where
  pub steps : List Step
  pub more : List Step
  pub goes_on : account.steps ≡ steps ++ more
  pub slot : Slot
  pub stored : slice_index_or (run (bounds_for sizes steps) steps).heap.slots k None ≡ Some slot
  pub single : Ref
  pub is : slot.node ≡ Tomb single

-- why the one node is the other one's own
pub data IsOwnBy (sizes : Sizes) (account : Account) (k j : ℕ) : Type 0 where
  at_first : k ≡ 1 → j ≡ 0 → IsOwnBy sizes account k j
  brought : (i m : Ref) → slot_of i ≡ k → slot_of m ≡ j → WasBrought sizes account i m → IsOwnBy sizes account k j
  of_tomb : WasTomb sizes account k → IsOwnBy sizes account k j

-- what is said to be own is so
abbrev pub AreOwn : Sizes → Account → Type 0
AreOwn sizes account = (k j : ℕ) → OwnIs account.owned k j true → IsOwnBy sizes account k j
