-- What a step does to handles: which of their contents it touches.
use Rattle.std.specs.Prelude.{◌≡◌, ◌≢◌, ℕ, List, Contains, Option, Some}
use Rattle.proof_updates.specs.Vocabulary.{Call, Clear, Close, Ref, Indirection, node_at, logical_main, entries_of, Purpose, Operation, Swap, Descriptor, Root, Step, State, root_at, root_of}
use Rattle.proof_updates.specs.Vocabulary.{operation_of, CarriesOut, committed_by_step}
use Rattle.proof_updates.specs.Beneath.machine_model.specs.declared.lines.Line.TheVariants as line
use Rattle.proof_updates.specs.Beneath.machine_model.specs.declared.lines.Purpose.TheVariants as purpose
use Rattle.proof_updates.specs.Beneath.machine_model.specs.declared.steps.Step.TheVariants as step

-- an indirection or a single is reached from a handle's root, through the logical main nodes
pub data Reaches (state : State) (handle : ℕ) : Ref → Type 0 where
  its_root : (root : Root) → root_at state handle ≡ Some root → Reaches state handle (root_of root.word)
  entry_below : (i entry main : Ref) (generation : ℕ) → Reaches state handle i → node_at state.heap i ≡ Indirection generation main →
      Contains (entries_of (node_at state.heap (logical_main state.heap i))) entry → Reaches state handle entry

-- the step commits a main node of this indirection, by which an operation changes its key, whose value was the former one
pub record CommitsUpdate (state : State) (s : Step) (indirection : Ref) (call : Call) (former : Option ℕ) : Type 0 where
  pub actor : ℕ
  pub operation : Operation
  pub runs : operation_of state actor ≡ Some operation
  pub calls : operation.call ≡ call
  pub path : List Ref
  pub swap : Swap
  pub swaps : operation.line ≡ line.Swap (purpose.Update path former) swap
  pub into : swap.indirection ≡ indirection
  pub commits : committed_by_step state s ≡ Some swap.fresh

-- the step commits a main node that an operation made otherwise: by renewing, cleaning or climbing
pub record CommitsRepair (state : State) (s : Step) : Type 0 where
  pub actor : ℕ
  pub operation : Operation
  pub runs : operation_of state actor ≡ Some operation
  pub why : Purpose
  pub swap : Swap
  pub swaps : operation.line ≡ line.Swap why swap
  pub repairs : (path : List Ref) (former : Option ℕ) → why ≢ purpose.Update path former
  pub commits : committed_by_step state s ≡ Some swap.fresh

-- the step carries out the offer of an operation with this call, which may open a handle
pub record CarriesOutCall (state : State) (s : Step) (call : Call) (opens : Option ℕ) : Type 0 where
  pub handle : ℕ
  pub offer : Descriptor
  pub carries : CarriesOut state s handle offer
  pub number : offer.opens ≡ opens
  pub actor : ℕ
  pub operation : Operation
  pub runs : operation_of state actor ≡ Some operation
  pub its : operation.id ≡ offer.operation
  pub calls : operation.call ≡ call

-- the step touches the content of the handle
pub data Touches (state : State) (s : Step) (handle : ℕ) : Type 0 where
  updates : (i : Ref) (call : Call) (former : Option ℕ) → CommitsUpdate state s i call former → Reaches state handle i → Touches state s handle
  clears : (opens : Option ℕ) → CarriesOutCall state s (Clear handle) opens → Touches state s handle
  closes : (actor : ℕ) (number : Option ℕ) → s ≡ step.Begin actor (Close handle) number → Touches state s handle
