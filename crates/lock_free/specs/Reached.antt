-- What seats hold themselves, and what was retired since it had no reference any more, and all that these hold, by one after the other.
use Rattle.std.specs.Prelude.{◌≡◌, ◌⊎◌, ℕ, true, List, Contains}
use mathlib.Core.Option.{some}
use lib.ListN.{get_elem?}
use Rattle.machine_model.specs.Beneath.slot_arena.specs.declared.refs.Ref.{Ref}
use Rattle.machine_model.specs.Beneath.slot_arena.specs.Heaps.{node_at, refs_of_node}
use Rattle.machine_model.specs.Beneath.slot_arena.specs.Refs.{slot_of}
use Rattle.proof_claims.specs.Claims.{Has}
use Rattle.proof_claims.specs.Held.{OfNode}
use Rattle.proof_memory.specs.Laws.{IsInUse}
use Rattle.lock_free.specs.declared.accounts.Account.{Account}
use Rattle.lock_free.specs.declared.rules.Retired.{Retired}
use Rattle.lock_free.specs.declared.rules.View.{View}
use Rattle.lock_free.specs.declared.sizes.Sizes.{Sizes}
use Rattle.lock_free.specs.Accounts.{state_of}
use Rattle.lock_free.specs.Claims.{held_now}

-- the node names it, and holds it
abbrev pub HoldsNamed : Sizes → Account → Ref → Ref → Type 0
HoldsNamed sizes account j k = Has (held_now sizes account) (OfNode j) k × Contains (refs_of_node (node_at (state_of sizes account).heap j)) k

-- it is one of these, or held by one of them, or by what these hold
pub data IsHeldFrom (sizes : Sizes) (account : Account) (First : Ref → Type 0) : Ref → Type 0 where
  at_first : (k : Ref) → First k → IsHeldFrom sizes account First k
  by_node : (j k : Ref) → IsHeldFrom sizes account First j → HoldsNamed sizes account j k → IsHeldFrom sizes account First k

-- a seat holds it itself
abbrev pub IsOwed : List View → Ref → Type 0
IsOwed views k = (id : ℕ) × (v : View) × (get_elem? views id ≡ some v) × Contains v.owed k

-- a seat has retired it since its count was lowered to none
pub record IsDead (sizes : Sizes) (account : Account) (views : List View) (k : Ref) : Type 0 where
  pub used : IsInUse (state_of sizes account).heap k
  pub id : ℕ
  pub view : View
  pub at : get_elem? views id ≡ some view
  pub item : Retired
  pub its : Contains view.retired item
  pub deep : item.deep ≡ true
  pub number : slot_of k ≡ item.number

abbrev pub IsReached : Sizes → Account → List View → Ref → Type 0
IsReached sizes account views = IsHeldFrom sizes account (λ k. IsOwed views k ⊎ IsDead sizes account views k)
