-- Where a call stands in a machine when it takes a step.
use Rattle.std.specs.Prelude.{◌≡◌, ℕ, Option, Some}
use Rattle.proof_calls.specs.Beneath.slot_arena.specs.declared.refs.Ref.{Ref}
use Rattle.proof_calls.specs.Beneath.machine_model.specs.declared.lines.Line.{Line}
use Rattle.proof_calls.specs.Beneath.machine_model.specs.declared.operations.Operation.{Operation}
use Rattle.proof_calls.specs.Beneath.machine_model.specs.declared.steps.Step.{Step}
use Rattle.proof_calls.specs.Beneath.machine_model.specs.declared.steps.Step.TheVariants as step
use Rattle.proof_calls.specs.Beneath.machine_model.specs.Operations.{read_of}
use Rattle.proof_calls.specs.Beneath.machine_model.specs.Tellings.{committed_in}
use Rattle.proof_calls.specs.Beneath.machine_model.specs.States.{State, operation_of}
use Rattle.proof_calls.specs.Beneath.gcas.specs.declared.read.Read.{Read}
use Rattle.proof_calls.specs.Beneath.key_change.specs.declared.change.ChangeAt.TheVariants as change
use Rattle.proof_calls.specs.Beneath.contract.specs.declared.clean.CleanAt.TheVariants as clean
use Rattle.proof_calls.specs.Beneath.contract.specs.declared.climb.ClimbAt.TheVariants as climb
use Rattle.proof_calls.specs.Beneath.contract.specs.declared.renew.RenewAt.TheVariants as renew
use Rattle.operate.specs.declared.key_op.BelowAt.{BelowAt}
use Rattle.operate.specs.declared.key_op.BelowAt.TheVariants as at
use Rattle.operate.specs.declared.key_op.KeyOp.{KeyOp}
use Rattle.operate.specs.Places.{below_line, key_line}
use Rattle.snapshot.specs.declared.copy_op.CopyOp.{CopyOp}
use Rattle.snapshot.specs.declared.walk.Walk.{Walk}
use Rattle.snapshot.specs.Copies.{copy_line}
use Rattle.snapshot.specs.Walks.{walk_line}

-- the step is the next one of this operation, which stands on this line
pub record StepsFrom (state : State) (s : Step) (l : Line) (operation : Operation) : Type 0 where
  pub actor : ℕ
  pub is_step : s ≡ step.Go actor
  pub runs : operation_of state actor ≡ Some operation
  pub stands : operation.line ≡ l

-- the step is the next one of a call, whose READ was told this of the root's generation
pub data StepsCall (state : State) (s : Step) (operation : Operation) : Type 0 where
  of_key : (op : KeyOp) (told : Option ℕ) → StepsFrom state s (key_line op told) operation → StepsCall state s operation
  of_copy : (copy : CopyOp) (read : Read) (told : Option ℕ) → StepsFrom state s (copy_line read told copy) operation → StepsCall state s operation
  of_walk : (walk : Walk) (read : Read) (told : Option ℕ) → StepsFrom state s (walk_line read told walk) operation → StepsCall state s operation

-- ---- below the root

-- the step is the next one of a call on one key, which stands here below its root
abbrev pub StepsBelow : State → Step → KeyOp → Option ℕ → BelowAt → Operation → Type 0
StepsBelow state s op told place operation = StepsFrom state s (below_line op told place) operation

-- the main node that the call's step commits, its own or another's
abbrev pub committed : State → KeyOp → Option ℕ → BelowAt → Option Ref
committed state op told place = committed_in state (read_of (below_line op told place))

-- it swaps in a main node that it made to renew, to clean or to climb
abbrev pub SwapsRepaired : KeyOp → BelowAt → Type 0
SwapsRepaired op at.Renew = op.renew.at ≡ renew.Swap
SwapsRepaired op at.Clean = op.clean.at ≡ clean.Swap
SwapsRepaired op at.Climb = op.climb.at ≡ climb.Swap
SwapsRepaired op place = ⊥

-- it swaps in a main node in which its key is changed, whose value was the former one
abbrev pub SwapsChanged : KeyOp → BelowAt → Option ℕ → Type 0
SwapsChanged op at.Change former = op.change.at ≡ change.Swap former
SwapsChanged op place former = ⊥
