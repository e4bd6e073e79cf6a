-- How nodes stand in words.
use Rattle.std.specs.Prelude.{◌≡◌, ℕ, ◌+◌, ◌*◌, ◌/◌, ◌%◌, ◌^◌, ◌<◌, ◌==◌, Bool, true, false, List, length, Some, slice_get, slice_index, if◌then◌else◌}
use Rattle.trie_words.specs.Codes.{link_code, header_code, entry_code, pair_of}
use Rattle.trie_words.specs.declared.entries.Pair.{Pair}
use Rattle.trie_words.specs.declared.headers.Previous.{Previous}
use Rattle.trie_words.specs.declared.headers.Previous.TheVariants as previous
use Rattle.trie_words.specs.declared.headers.Shape.{Shape}
use Rattle.trie_words.specs.declared.headers.Shape.TheVariants as shape
use Rattle.machine_model.specs.Beneath.slot_arena.specs.declared.refs.Ref.{Ref}
use Rattle.machine_model.specs.Beneath.slot_arena.specs.declared.nodes.Node.{Node}
use Rattle.machine_model.specs.Beneath.slot_arena.specs.declared.nodes.Node.TheVariants.{Indirection, Branch, Single, Tomb, List as Listed}
use Rattle.machine_model.specs.Beneath.slot_arena.specs.declared.nodes.Prev.{Prev}
use Rattle.machine_model.specs.Beneath.slot_arena.specs.declared.nodes.Prev.TheVariants as prev
use Rattle.machine_model.specs.Beneath.slot_arena.specs.declared.nodes.Slot.{Slot}
use Rattle.machine_model.specs.Beneath.slot_arena.specs.Refs.{slot_of}
use Rattle.machine_model.specs.Beneath.slot_arena.specs.Heaps.{Heap, node_at, main_at}
use Rattle.machine_model.specs.declared.lines.Purpose.{Purpose}
use Rattle.machine_model.specs.declared.lines.Line.TheVariants as line
use Rattle.machine_model.specs.declared.operations.Operation.{Operation}
use Rattle.machine_model.specs.States.{State, operation_of}
use Rattle.machine_model.specs.Swapping.{swapping}
use Rattle.lock_free.specs.declared.accounts.Account.{Account}
use Rattle.lock_free.specs.Accounts.{place_of, OwnIs, IsOwn}
use Rattle.lock_free.specs.Places.{class_for}

-- ---- entries

abbrev pub is_single : Node → Bool
is_single (Single key value) = true
is_single node = false

-- the half of a word that has the entry of this position of a main node
abbrev pub half_in : Pair → ℕ → ℕ
half_in pair position = if position % 2 == 0 then pair.low else pair.high

abbrev pub half_of : ℕ → ℕ → ℕ
half_of word position = half_in (pair_of word) position

abbrev pub entry_word : ℕ → ℕ → ℕ
entry_word name position = 2 * name + 1 + position / 2

-- What words have, by their numbers: those of the table, or those that a seat has written in a slot of its own.
abbrev pub Has : Type 1
Has = ℕ → ℕ → Type 0

abbrev pub InTable : List ℕ → Has
InTable words i word = slice_index words i ≡ word

pub record IsEntryOf (account : Account) (heap : Heap) (e : Ref) (half : ℕ) : Type 0 where
  pub own : Bool
  pub code : half ≡ entry_code (record { slot = place_of account e; own = own; is_single = is_single (node_at heap e) })

abbrev pub AreEntries : Account → Heap → Has → ℕ → List Ref → Type 0
AreEntries account heap has name entries =
    (position : ℕ) (e : Ref) → slice_get entries position ≡ Some e → (word : ℕ) × has (entry_word name position) word × IsEntryOf account heap e (half_of word position)

-- ---- whether a main node is decided

-- An operation is about to swap this main node in. Its header says already that it is pending, though the definition says that only then.
pub record IsAhead (state : State) (indirection replaced fresh : Ref) : Type 0 where
  pub actor : ℕ
  pub operation : Operation
  pub runs : operation_of state actor ≡ Some operation
  pub why : Purpose
  pub on : operation.line ≡ line.Swap why (swapping indirection replaced fresh)

-- this main node stands in the word of an indirection, in which that one's is marked so
abbrev pub IsOver : Account → State → ℕ → Ref → Bool → Type 0
IsOver account state k p own = (i : Ref) → slot_of (main_at state.heap i) ≡ k → IsOwn account i p own

-- so the header of the main node of this number says it
pub data SaysPrevious (account : Account) (state : State) (k : ℕ) : Prev → Previous → Type 0 where
  decided : ((i a f : Ref) → IsAhead state i a f → slot_of f ≡ k → ⊥) → SaysPrevious account state k prev.None previous.None
  ahead : (i a f : Ref) (own : Bool) → IsAhead state i a f → slot_of f ≡ k → IsOwn account i a own →
      SaysPrevious account state k prev.None (previous.Pending (record { slot = place_of account a; own = own }))
  pending : (p : Ref) (own : Bool) → IsOver account state k p own →
      SaysPrevious account state k (prev.Pending p) (previous.Pending (record { slot = place_of account p; own = own }))
  failed : (p : Ref) (own : Bool) → IsOver account state k p own →
      SaysPrevious account state k (prev.Failed p) (previous.Failed (record { slot = place_of account p; own = own }))

-- Whether a node is another one's own is said of nodes that were made, and once and for all; of one that is about to be swapped in it isn't said yet.
pub record AreOwners (account : Account) (state : State) : Type 0 where
  pub made : (i m : ℕ) (b : Bool) → OwnIs account.owned i m b → (i < length account.names) × (m < length account.names)
  pub once : (i m : ℕ) (b c : Bool) → OwnIs account.owned i m b → OwnIs account.owned i m c → b ≡ c
  pub fresh : (i a f : Ref) → IsAhead state i a f → (j : ℕ) (b : Bool) → OwnIs account.owned j (slot_of f) b → ⊥

-- ---- nodes

-- what the main node of this number is
pub data SaysShape (account : Account) (k : ℕ) : Node → Shape → Type 0 where
  of_branch : (bitmap : ℕ) (entries : _) → SaysShape account k (Branch bitmap entries) (shape.Branch bitmap)
  of_tomb : (single : Ref) (own : Bool) → OwnIs account.owned k (slot_of single) own →
      SaysShape account k (Tomb single) (shape.Tomb (record { slot = place_of account single; own = own; is_single = true }))
  of_list : (singles : _) → SaysShape account k (Listed singles) (shape.List (length singles.items))

pub record SaysHeader (account : Account) (state : State) (k : ℕ) (slot : Slot) (word : ℕ) : Type 0 where
  pub previous : Previous
  pub is_previous : SaysPrevious account state k slot.prev previous
  pub shape : Shape
  pub is_shape : SaysShape account k slot.node shape
  pub code : word ≡ header_code (record { previous = previous; shape = shape })

-- this node stands in the words of this slot of the table
abbrev pub StandsAs : Account → State → Has → ℕ → ℕ → Slot → Node → Type 0
StandsAs account state has name k slot (Indirection generation main) =
    (generation < 2 ^ 36) × ((own : Bool) × OwnIs account.owned k (slot_of main) own × has (2 * name)
    (link_code (record { generation = generation; main = record { slot = place_of account main; own = own } })))
StandsAs account state has name k slot (Single key value) = has (2 * name) key × has (2 * name + 1) value
StandsAs account state has name k slot (Branch bitmap entries) =
    ((word : ℕ) × has (2 * name) word × SaysHeader account state k slot word) × AreEntries account state.heap has name entries.items
StandsAs account state has name k slot (Tomb single) = (word : ℕ) × has (2 * name) word × SaysHeader account state k slot word
StandsAs account state has name k slot (Listed singles) =
    ((word : ℕ) × has (2 * name) word × SaysHeader account state k slot word) × AreEntries account state.heap has name singles.items

-- the class of slots in which a node stands
abbrev pub class_of : Node → ℕ
class_of (Branch bitmap entries) = class_for (length entries.items)
class_of (Listed singles) = class_for (length singles.items)
class_of node = 0
