-- What is live: reached from a root word, or from what some of the running operations hold, through slots in use.
use Rattle.std.specs.Prelude.{◌≡◌, ℕ, List, [], ◌∷◌, ◌++◌, flat_map, Contains, Some}
use Rattle.proof_garbage.specs.Beneath.slot_arena.specs.declared.refs.Ref.{Ref}
use Rattle.proof_garbage.specs.Beneath.slot_arena.specs.Heaps.{Heap, stored, refs_of_slot}
use Rattle.proof_garbage.specs.Beneath.machine_model.specs.declared.operations.Operation.{Operation}
use Rattle.proof_garbage.specs.Beneath.machine_model.specs.States.{State, root_at, operation_of}
use Rattle.proof_garbage.specs.Beneath.machine_model.specs.Counting.{refs_of_root}
use Rattle.proof_garbage.specs.Beneath.proof_memory.specs.Wants.{Claim, Is, Each, EntryIs, So, line_wants}

-- the references of which a claim speaks
abbrev pub refs_of_claim : Claim → List Ref
refs_of_claim (Is r wanted) = r ∷ []
refs_of_claim (Each rs wanted) = rs
refs_of_claim (EntryIs main position wanted) = main ∷ []
refs_of_claim (So fact) = []

abbrev pub refs_of_claims : List Claim → List Ref
refs_of_claims claims = flat_map refs_of_claim claims

abbrev pub line_claims : State → Operation → List Claim
line_claims state operation = line_wants state.limits.hash operation.call operation.access operation.line

-- the references that an operation has at hand: those that stand in its line, and its private ones
abbrev pub at_hand : State → Operation → List Ref
at_hand state operation = refs_of_claims (line_claims state operation) ++ operation.private

-- a reference that is reached from a root word, or from what an operation of these ids has at hand
pub data IsKnown (state : State) (P : ℕ → Type 0) : Ref → Type 0 where
  from_root : (handle : ℕ) (r : Ref) → Contains (refs_of_root (root_at state handle)) r → IsKnown state P r
  from_operation : (actor : ℕ) (operation : Operation) (r : Ref) → operation_of state actor ≡ Some operation → P operation.id → Contains (at_hand state operation) r → IsKnown state P r
  from_slot : (q r : Ref) → IsKnown state P q → Contains (refs_of_slot (stored state.heap q)) r → IsKnown state P r

-- any operation's
abbrev pub IsLive : State → Ref → Type 0
IsLive state r = IsKnown state (λ id. Unit {0}) r

-- reached from there through slots in use
pub data IsBelow (heap : Heap) (q : Ref) : Ref → Type 0 where
  itself : IsBelow heap q q
  below : (x y : Ref) → IsBelow heap q x → Contains (refs_of_slot (stored heap x)) y → IsBelow heap q y
