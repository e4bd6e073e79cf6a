-- What has happened so far, as the definition has it: the state that its steps lead to, and where its nodes stand in the table. The definition never runs out
-- of slots: it has as many as steps were taken, and three more.
use Rattle.history.specs.declared.calls.Access.{Access}
use Rattle.std.specs.Prelude.{◌≡◌, ℕ, ◌+◌, ◌<◌, Bool, List, [], ◌∷◌, ◌++◌, All, length, slice_index_or, Some}
use Rattle.machine_model.specs.declared.operations.Operation.{Operation}
use Rattle.machine_model.specs.declared.steps.Bounds.{Bounds}
use Rattle.machine_model.specs.declared.steps.Step.{Step}
use Rattle.machine_model.specs.declared.steps.Step.TheVariants as step
use Rattle.machine_model.specs.Beneath.slot_arena.specs.declared.refs.Ref.{Ref}
use Rattle.machine_model.specs.Beneath.slot_arena.specs.Refs.{slot_of}
use Rattle.machine_model.specs.declared.roots.Descriptor.{Descriptor}
use Rattle.machine_model.specs.declared.roots.RootWord.TheVariants.{Offer, Plain}
use Rattle.machine_model.specs.Machine.{run}
use Rattle.machine_model.specs.Records.{Record, record_of}
use Rattle.machine_model.specs.States.{State, operation_of, root_at, word_at}
pub use Rattle.proof_waiting.specs.Waiting.{IsOfOther}
use Rattle.lock_free.specs.declared.accounts.Account.{Account}
use Rattle.lock_free.specs.declared.accounts.Owned.{Owned}
use Rattle.lock_free.specs.declared.accounts.Known.{Known}
use Rattle.lock_free.specs.declared.sizes.Sizes.{Sizes}

abbrev pub bounds_for : Sizes → List Step → Bounds
bounds_for sizes steps = record { slots = length steps + 3; actors = sizes.seats; hash = sizes.hash; steps = length steps + 1 }

abbrev pub state_of : Sizes → Account → State
state_of sizes account = run (bounds_for sizes account.steps) account.steps

abbrev pub past_of : Sizes → Account → Record
past_of sizes account = record_of (bounds_for sizes account.steps) account.steps

-- the slot of the table where the node of this number was made; the definition numbers its nodes as they are made
abbrev pub place_at : Account → ℕ → ℕ
place_at account k = slice_index_or account.names k 0

abbrev pub place_of : Account → Ref → ℕ
place_of account r = place_at account (slot_of r)

-- whether this main node is this indirection's own, or this single this tomb's
pub data OwnIs : List Owned → ℕ → ℕ → Bool → Type 0 where
  first : (x : Owned) (rest : List Owned) → OwnIs (x ∷ rest) x.holder x.held x.is_own
  later : (x : Owned) (rest : List Owned) (i m : ℕ) (b : Bool) → OwnIs rest i m b → OwnIs (x ∷ rest) i m b

abbrev pub IsOwn : Account → Ref → Ref → Bool → Type 0
IsOwn account holder held b = OwnIs account.owned (slot_of holder) (slot_of held) b

-- ---- how it goes on

-- the one account goes on as the other
pub record HasGrown (before after : Account) : Type 0 where
  pub steps : List Step
  pub goes_on : after.steps ≡ before.steps ++ steps
  pub names : List ℕ
  pub more_names : after.names ≡ before.names ++ names

-- the one account goes on as the other, by others' steps alone
pub record HasWaited (actor : ℕ) (before after : Account) : Type 0 where
  pub steps : List Step
  pub goes_on : after.steps ≡ before.steps ++ steps
  pub others : All (IsOfOther actor) steps
  pub names : List ℕ
  pub more_names : after.names ≡ before.names ++ names
  pub owned : List Owned
  pub more_owned : after.owned ≡ owned ++ before.owned
  pub offers : List Known
  pub more_offers : after.offered ≡ offers ++ before.offered

-- the actor's operation
abbrev pub running : Sizes → Account → ℕ → Operation → Type 0
running sizes account actor operation = operation_of (state_of sizes account) actor ≡ Some operation

-- one more step of this actor's operation, which makes nothing
abbrev pub gone_on : ℕ → Account → Account
gone_on actor account = record account { steps = account.steps ++ step.Go actor ∷ [] }

-- ---- roots

-- it was the root of a handle once
pub record WasRoot (sizes : Sizes) (account : Account) (r : Ref) : Type 0 where
  pub steps : List Step
  pub more : List Step
  pub goes_on : account.steps ≡ steps ++ more
  pub handle : ℕ
  pub access : Access
  pub was : root_at (run (bounds_for sizes steps) steps) handle ≡ Some (record { access = access; word = Plain r })

-- It was one after an operation had begun that runs still, which may have found it.
pub record MayBeFound (sizes : Sizes) (account : Account) (r : Ref) : Type 0 where
  pub root : WasRoot sizes account r
  pub actor : ℕ
  pub operation : Operation
  pub runs : running sizes account actor operation
  pub began : operation.id < (run (bounds_for sizes root.steps) root.steps).begun

-- ---- offers

-- the offer stood in a root word once
pub record HasStood (sizes : Sizes) (account : Account) (offer : Descriptor) : Type 0 where
  pub steps : List Step
  pub more : List Step
  pub goes_on : account.steps ≡ steps ++ more
  pub handle : ℕ
  pub stood : word_at (run (bounds_for sizes steps) steps) handle ≡ Offer offer
