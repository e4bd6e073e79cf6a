-- Each reference to what stands in the table is counted: those of handles and nodes by the steps so far, and those that seats hold themselves.
use Rattle.std.specs.Prelude.{◌≡◌, ℕ, ◌+◌, ◌<◌, ◌≤◌, ◌≢◌, ◌==◌, ◌&&◌, not, Bool, true, false, List, Contains, Some, length, sum_by, count_by}
use mathlib.Core.Option.{some}
use lib.ListN.{get_elem?}
use Rattle.machine_model.specs.Beneath.slot_arena.specs.declared.refs.Ref.{Ref}
use Rattle.machine_model.specs.Beneath.slot_arena.specs.Heaps.{node_at}
use Rattle.machine_model.specs.Beneath.slot_arena.specs.Refs.{slot_of}
use Rattle.machine_model.specs.declared.operations.Operation.{Operation}
use Rattle.machine_model.specs.States.{operation_of}
use Rattle.proof_claims.specs.Claims.{Has}
use Rattle.proof_claims.specs.Dropped.{WasLetGo}
use Rattle.proof_claims.specs.Held.{Claim, OfNode, is_owned}
use Rattle.proof_commits.specs.Runs.{HasIndirection}
use Rattle.proof_memory.specs.Laws.{IsInUse}
use Rattle.proof_claims.specs.Beneath.proof_reuse.specs.Laws.{IsGarbage}
use Rattle.lock_free.specs.declared.accounts.Account.{Account}
use Rattle.lock_free.specs.declared.rules.Retired.{Retired}
use Rattle.lock_free.specs.declared.rules.View.{View}
use Rattle.lock_free.specs.declared.sizes.Sizes.{Sizes}
use Rattle.lock_free.specs.Accounts.{bounds_for, place_of, state_of, HasGrown, IsOwn}
use Rattle.lock_free.specs.Claims.{HoldsAll, claims_there, held_now}
use Rattle.lock_free.specs.Counts.{owed_on, references}
use Rattle.lock_free.specs.Nodes.{class_of}
use Rattle.lock_free.specs.OwesAt.{owes_at}
use Rattle.lock_free.specs.Places.{count_word, IsSlot}
use Rattle.lock_free.specs.Reached.{IsReached}

-- the node stands in the table still
abbrev pub IsHere : Sizes → Account → (ℕ → Bool) → Ref → Type 0
IsHere sizes account stands k = IsInUse (state_of sizes account).heap k × (stands (slot_of k) ≡ true)

-- the word of the count of its slot
abbrev pub count_of : Sizes → Account → Ref → ℕ
count_of sizes account k = count_word sizes (class_of (node_at (state_of sizes account).heap k)) (place_of account k)

-- So often the seat has retired this node where it was replaced: the reference to it that ended then is counted still, till its slot is free.
abbrev pub retired_of : ℕ → List Retired → ℕ
retired_of number = count_by (λ (x : Retired). (x.number == number) && not x.deep)

abbrev pub retired_in : ℕ → View → ℕ
retired_in number v = retired_of number v.retired

abbrev pub retired_on : ℕ → List View → ℕ
retired_on number views = sum_by (retired_in number) views

-- one of the steps has let go of all that the node held
abbrev pub HasBeenLetGo : Sizes → Account → Ref → Type 0
HasBeenLetGo sizes account = WasLetGo (bounds_for sizes account.steps) account.steps

-- the node was garbage once
pub record WasGarbageBefore (sizes : Sizes) (account : Account) (j : Ref) : Type 0 where
  pub first : Account
  pub grown : HasGrown first account
  pub garbage : IsGarbage (state_of sizes first) j

pub record AreHeld (sizes : Sizes) (account : Account) (stands : ℕ → Bool) (words : List ℕ) (views : List View) : Type 0 where
  pub counted : (k : Ref) → IsHere sizes account stands k →
      claims_there stands k (held_now sizes account).claims + owed_on k views + retired_on (slot_of k) views ≤ references words (count_of sizes account k)
  -- where no node stands one reference is counted: that to the next one, which its maker holds
  pub spare : (class name : ℕ) → class < 3 → IsSlot sizes class name → ((k : Ref) → IsHere sizes account stands k → place_of account k ≢ name) → 1 ≤ references words (count_word sizes class name)
  pub fresh : (a : ℕ) (operation : Operation) → operation_of (state_of sizes account) a ≡ Some operation → (k : Ref) → Contains operation.private k →
      1 ≤ references words (count_of sizes account k)
  -- what a seat holds stands, and no other seat's operation has it to itself
  pub owed : (id : ℕ) (v : View) → get_elem? views id ≡ some v → (k : Ref) → Contains v.owed k → IsHere sizes account stands k
  pub known : (id : ℕ) (v : View) → get_elem? views id ≡ some v → (k : Ref) → Contains v.owed k → (a : ℕ) (operation : Operation) → operation_of (state_of sizes account) a ≡ Some operation →
      Contains operation.private k → a ≡ v.actor
  -- it holds what its operation has made and nothing names yet
  pub lines : (id : ℕ) (v : View) → get_elem? views id ≡ some v → (operation : Operation) → operation_of (state_of sizes account) v.actor ≡ Some operation → HoldsAll (owes_at operation) v.owed
  -- no reference to what was lowered to none is counted, nor ever again
  pub dead : (id : ℕ) (v : View) → get_elem? views id ≡ some v → (x : Retired) → Contains v.retired x → x.deep ≡ true → (k : Ref) → IsHere sizes account stands k → slot_of k ≡ x.number →
      references words (count_of sizes account k) ≡ 0
  -- One reference more is counted of what was let go of: the one that ended then. So it is never lowered to none.
  pub unlet : (k : Ref) → HasBeenLetGo sizes account k → IsHere sizes account stands k →
      claims_there stands k (held_now sizes account).claims + owed_on k views + 1 ≤ references words (count_of sizes account k)
  -- what seats hold stands, with all that it names and holds, and so does what a node names and holds whose count came to none
  pub reached : (k : Ref) → IsReached sizes account views k → stands (slot_of k) ≡ true
  -- what isn't made yet isn't gone
  pub unborn : (k : ℕ) → length account.names ≤ k → stands k ≡ true
  -- a node that holds a reference still and stands there no more was garbage before
  pub gone : (j k : Ref) → Has (held_now sizes account) (OfNode j) k → stands (slot_of j) ≡ false → WasGarbageBefore sizes account j
  -- claims are on nodes
  pub used : (c : Claim) → Contains (held_now sizes account).claims c → IsInUse (state_of sizes account).heap c.on
  -- and what has an own main node is in use
  pub owned : (i m : Ref) → is_owned (held_now sizes account) i m ≡ true → IsInUse (state_of sizes account).heap i
  -- what words say to be an indirection's own main node is so by the steps, and nothing else
  pub owns : (i m : Ref) (own : Bool) → HasIndirection (state_of sizes account) i → IsInUse (state_of sizes account).heap m → IsOwn account i m own → is_owned (held_now sizes account) i m ≡ own
