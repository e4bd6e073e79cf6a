-- Laws of what calls do to the contents of handles and to their roots, for each step that they take after a list of steps whose keys have 64 bits.
use Rattle.std.specs.Prelude.{◌≡◌, ℕ, List, Option, Some, None}
use Rattle.proof_calls.specs.Beneath.ctrie_base.specs.Hashes.{hash_of}
use Rattle.proof_calls.specs.Beneath.history.specs.declared.calls.Access.{Access}
use Rattle.proof_calls.specs.Beneath.machine_model.specs.declared.operations.Operation.{Operation}
use Rattle.proof_calls.specs.Beneath.machine_model.specs.declared.roots.Descriptor.{Descriptor}
use Rattle.proof_calls.specs.Beneath.machine_model.specs.declared.roots.Root.{Root}
use Rattle.proof_calls.specs.Beneath.machine_model.specs.declared.steps.Bounds.{Bounds}
use Rattle.proof_calls.specs.Beneath.machine_model.specs.declared.steps.Step.{Step}
use Rattle.proof_calls.specs.Beneath.machine_model.specs.States.{State, root_at, root_of, word_at}
use Rattle.proof_calls.specs.Beneath.slot_arena.specs.Heaps.{logical_main}
use Rattle.proof_calls.specs.Beneath.proof_order.specs.Facts.{CarriesOut}
use Rattle.proof_updates.specs.Laws.Handles.{HandleHolds, OfEachStep, Turns}
use Rattle.proof_updates.specs.Touching.{Reaches}
use Rattle.operate.specs.declared.key_op.BelowAt.{BelowAt}
use Rattle.operate.specs.declared.key_op.KeyOp.{KeyOp}
use Rattle.proof_calls.specs.Standing.{StepsBelow, StepsCall, SwapsChanged, SwapsRepaired, committed}

-- ---- contents

-- of the states before and after each step of a call on one key below its root
abbrev pub OfEachKeyStep : (Bounds → State → KeyOp → Option ℕ → BelowAt → Operation → State → Type 0) → Type 0
OfEachKeyStep Law =
    OfEachStep (λ limits before s after. (op : KeyOp) (told : Option ℕ) (place : BelowAt) (operation : Operation) →
    StepsBelow before s op told place operation → Law limits before op told place operation after)

-- every open handle stays open, of its kind, and keeps its content
abbrev pub KeepsContents : State → State → Type 0
KeepsContents before after = (handle : ℕ) (access : Access) (pairs : List (ℕ × ℕ)) → HandleHolds before handle access pairs → HandleHolds after handle access pairs

-- only a commit changes content
abbrev pub OnlyCommitsChange : Bounds → State → KeyOp → Option ℕ → BelowAt → Operation → State → Type 0
OnlyCommitsChange limits before op told place operation after = committed before op told place ≡ None → KeepsContents before after

-- the commit of what it made to renew, to clean or to climb leaves content alone
abbrev pub RepairsLeave : Bounds → State → KeyOp → Option ℕ → BelowAt → Operation → State → Type 0
RepairsLeave limits before op told place operation after =
    SwapsRepaired op place → committed before op told place ≡ Some op.work.swap.fresh → KeepsContents before after

-- the commit of what it made to change its key does just the call's change, in each handle that reaches the indirection
abbrev pub ChangesItsKey : Bounds → State → KeyOp → Option ℕ → BelowAt → Operation → State → Type 0
ChangesItsKey limits before op told place operation after =
    (former : Option ℕ) → SwapsChanged op place former → committed before op told place ≡ Some op.work.swap.fresh →
    (handle : ℕ) (access : Access) (pairs : List (ℕ × ℕ)) → HandleHolds before handle access pairs → Reaches before handle op.work.swap.read.indirection →
    (later : List (ℕ × ℕ)) × HandleHolds after handle access later × Turns (hash_of limits.hash) operation.call former pairs later

-- and leaves each handle alone that doesn't reach it
abbrev pub LeavesOthers : Bounds → State → KeyOp → Option ℕ → BelowAt → Operation → State → Type 0
LeavesOthers limits before op told place operation after =
    (former : Option ℕ) → SwapsChanged op place former → committed before op told place ≡ Some op.work.swap.fresh →
    (handle : ℕ) (access : Access) (pairs : List (ℕ × ℕ)) → HandleHolds before handle access pairs → ¬ Reaches before handle op.work.swap.read.indirection →
    HandleHolds after handle access pairs

-- ---- roots

-- of the states before and after each step of a call
abbrev pub OfEachCallStep : (State → Step → State → Type 0) → Type 0
OfEachCallStep Law = OfEachStep (λ limits before s after. (operation : Operation) → StepsCall before s operation → Law before s after)

-- the handle's root is swapped for the offer's new one, and the old one's logical main node is the expected one
pub record IsSwapped (before after : State) (handle : ℕ) (offer : Descriptor) : Type 0 where
  pub was : root_of (word_at before handle) ≡ offer.root
  pub expected : logical_main before.heap offer.root ≡ offer.expected
  pub is : root_of (word_at after handle) ≡ offer.successor

-- so it is where an offer is carried out on the handle
abbrev pub SwapsAsExpected : State → Step → State → Type 0
SwapsAsExpected before s after = (handle : ℕ) (offer : Descriptor) → CarriesOut before s handle offer → IsSwapped before after handle offer

-- and each other open handle stays open, and keeps its root
abbrev pub KeepsOtherRoots : State → Step → State → Type 0
KeepsOtherRoots before s after =
    (handle : ℕ) (root : Root) → root_at before handle ≡ Some root → ((offer : Descriptor) → ¬ CarriesOut before s handle offer) →
    (later : Root) × (root_at after handle ≡ Some later) × (root_of later.word ≡ root_of root.word)
