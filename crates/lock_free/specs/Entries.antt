-- What an operation sees of an entry of a main node that it holds.
use Rattle.std.specs.Prelude.{◌≡◌, ◌<◌, ℕ, Bool, true, length}
use Rattle.trie_words.specs.declared.entries.Entry.{Entry}
use Rattle.machine_model.specs.Beneath.slot_arena.specs.declared.refs.Ref.{Ref}
use Rattle.machine_model.specs.Beneath.slot_arena.specs.declared.nodes.Slot.{Slot}
use Rattle.machine_model.specs.Beneath.slot_arena.specs.Heaps.{node_at, entry_at, entries_of}
use Rattle.machine_model.specs.declared.operations.Operation.{Operation}
use Rattle.proof_memory.specs.Wants.{is_branch_or_list}
use Rattle.lock_free.specs.declared.rules.View.{View}
use Rattle.lock_free.specs.Accounts.{place_of}
use Rattle.lock_free.specs.Loading.{now, Runs, IsUsed, Holds}
use Rattle.lock_free.specs.Nodes.{is_single}
use Rattle.lock_free.specs.Passing.{Later, IsPlaced}

-- it is where it was
pub record HasStayed (v w : View) : Type 0 where
  pub later : Later v w
  pub comes : (operation : Operation) → Runs v operation → Runs w operation

abbrev pub entry_in : View → Ref → ℕ → Ref
entry_in v main position = entry_at (now v).heap main position

-- the entry is the node in this slot, which is a single or isn't
pub record IsEntryIn (v : View) (main : Ref) (position name : ℕ) (single : Bool) : Type 0 where
  pub placed : IsPlaced v (entry_in v main position) name
  pub kind : is_single (node_at (now v).heap (entry_in v main position)) ≡ single

-- it holds this branch or list, which has an entry at this position
pub record HoldsEntry (v : View) (main : Ref) (position : ℕ) : Type 0 where
  pub slot : Slot
  pub used : IsUsed v main slot
  pub holds : Holds v main
  pub kind : is_branch_or_list slot.node ≡ true
  pub inside : position < length (entries_of slot.node)

-- of the one in this slot
abbrev pub HasSeenEntry : View → ℕ → ℕ → Entry → View → Type 0
HasSeenEntry before name position entry after =
    HasStayed before after × ((main : Ref) → HoldsEntry before main position → place_of before.account main ≡ name → IsEntryIn after main position entry.slot entry.is_single)
