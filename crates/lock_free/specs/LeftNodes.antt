-- What the words of a slot that is free for a seat say of the node that stood there, and of what that one named.
use Rattle.std.specs.Prelude.{◌≡◌, ◌*◌, ◌<◌, ◌≤◌, ◌==◌, ℕ, Bool, true, not, List, Contains, Some, filter, length, slice_get}
use Rattle.std.specs.List.{list_any}
use Rattle.trie_words.specs.Codes.{entry_of, header_of, link_of}
use Rattle.trie_words.specs.declared.entries.Entry.{Entry}
use Rattle.trie_words.specs.declared.headers.Shape.{Shape}
use Rattle.trie_words.specs.declared.headers.Shape.TheVariants as shape
use Rattle.machine_model.specs.Beneath.slot_arena.specs.declared.nodes.Node.{Node}
use Rattle.machine_model.specs.Beneath.slot_arena.specs.declared.nodes.Node.TheVariants.{Branch, Indirection, Single, Tomb, List as Listed}
use Rattle.machine_model.specs.Beneath.slot_arena.specs.declared.nodes.Slot.{Slot}
use Rattle.machine_model.specs.Beneath.slot_arena.specs.declared.refs.Ref.{Ref}
use Rattle.machine_model.specs.Beneath.slot_arena.specs.Heaps.{entries_of, refs_of_node}
use Rattle.proof_memory.specs.Wants.{is_branch_or_list, is_entry, is_main_node}
use Rattle.lock_free.specs.declared.reclaiming.Kind.{Kind}
use Rattle.lock_free.specs.declared.rules.View.{View}
use Rattle.lock_free.specs.Accounts.{place_of}
use Rattle.lock_free.specs.Loading.{IsUsed}
use Rattle.lock_free.specs.Nodes.{entry_word, half_of, is_single}
use Rattle.lock_free.specs.Claims.{HoldsAll}
use Rattle.lock_free.specs.Raising.{HasReleasedAll, IsShared}
use Rattle.lock_free.specs.Reclaiming.{kind_of_node}
use Rattle.lock_free.specs.SeenEntries.{AreEntriesTo, entry_to, unowned}

-- ---- what it named

-- a node of this kind is named by that one
abbrev pub MayBeNamed : Node → Node → Type 0
MayBeNamed (Indirection generation main) node = is_main_node node ≡ true
MayBeNamed (Tomb single) node = is_single node ≡ true
MayBeNamed other node = is_entry node ≡ true

-- the node is in use, and no operation of the seat has just made it
pub record IsNamed (v : View) (by : Node) (k : Ref) : Type 0 where
  pub slot : Slot
  pub used : IsUsed v k slot
  pub kind : MayBeNamed by slot.node
  pub shared : IsShared v k

-- ---- the words, which the seat knows

-- what a main node is
pub data NamesShape (v : View) : Node → Shape → Type 0 where
  a_branch : (bitmap : ℕ) (entries : _) → NamesShape v (Branch bitmap entries) (shape.Branch bitmap)
  a_tomb : (single : Ref) (own : Bool) → NamesShape v (Tomb single) (shape.Tomb (record { slot = place_of v.account single; own = own; is_single = true }))
  a_list : (singles : _) → NamesShape v (Listed singles) (shape.List (length singles.items))

abbrev pub LeavesLink : View → ℕ → Ref → Type 0
LeavesLink v name main = (found : ℕ) × Contains v.drafts (2 * name, found) × ((link_of found).main.slot ≡ place_of v.account main)

abbrev pub LeavesShape : View → ℕ → Node → Type 0
LeavesShape v name node = (found : ℕ) × Contains v.drafts (2 * name, found) × NamesShape v node (header_of found).shape

abbrev pub LeavesEntry : View → ℕ → ℕ → Ref → Type 0
LeavesEntry v name position e = (found : ℕ) × Contains v.drafts (entry_word name position, found) × (unowned (entry_of (half_of found position)) ≡ entry_to v e)

abbrev pub LeavesEntries : View → ℕ → List Ref → Type 0
LeavesEntries v name entries = (length entries ≤ 32) × ((position : ℕ) (e : Ref) → slice_get entries position ≡ Some e → LeavesEntry v name position e)

abbrev pub LeavesWords : View → ℕ → Node → Type 0
LeavesWords v name (Indirection generation main) = LeavesLink v name main
LeavesWords v name (Single key value) = Unit {0}
LeavesWords v name (Tomb single) = LeavesShape v name (Tomb single)
LeavesWords v name node = LeavesShape v name node × LeavesEntries v name (entries_of node)

-- The node stood in this slot, and the seat knows the words.
pub record LeavesNode (v : View) (name : ℕ) (node : Ref) (slot : Slot) : Type 0 where
  pub used : IsUsed v node slot
  pub place : place_of v.account node ≡ name
  pub words : LeavesWords v name slot.node
  pub names : (k : Ref) → Contains (refs_of_node slot.node) k → IsNamed v slot.node k

-- a main node did
abbrev pub LeavesMain : View → ℕ → Type 0
LeavesMain v name = (node : Ref) × (slot : Slot) × LeavesNode v name node slot × (is_main_node slot.node ≡ true)

-- a branch or a list that has an entry at this position
abbrev pub LeavesPosition : View → ℕ → ℕ → Type 0
LeavesPosition v name position =
    (node : Ref) × (slot : Slot) × LeavesNode v name node slot × (is_branch_or_list slot.node ≡ true) × (position < length (entries_of slot.node))

-- one of so many entries
abbrev pub LeavesMany : View → ℕ → ℕ → Type 0
LeavesMany v name count =
    (node : Ref) × (slot : Slot) × LeavesNode v name node slot × (is_branch_or_list slot.node ≡ true) × (count ≡ length (entries_of slot.node)) × (count ≤ 32)

-- this is the entry
abbrev pub HasSeenHalf : View → ℕ → ℕ → ℕ → Type 0
HasSeenHalf v name position half =
    (node : Ref) (slot : Slot) (e : Ref) → LeavesNode v name node slot → is_branch_or_list slot.node ≡ true → slice_get (entries_of slot.node) position ≡ Some e →
    unowned (entry_of half) ≡ entry_to v e

-- these are its entries
abbrev pub HasSeenHalves : View → ℕ → ℕ → List Entry → Type 0
HasSeenHalves v name count entries =
    (node : Ref) (slot : Slot) → LeavesNode v name node slot → is_branch_or_list slot.node ≡ true → count ≡ length (entries_of slot.node) → AreEntriesTo v entries (entries_of slot.node)

-- ---- what the seat lets go of

abbrev pub is_among : List ℕ → ℕ → Bool
is_among slots slot = list_any (λ (other : ℕ). other == slot) slots

-- those of these nodes that stand in none of these slots
abbrev pub beside : View → List ℕ → List Ref → List Ref
beside v slots ks = filter (λ (k : Ref). not (is_among slots (place_of v.account k))) ks

-- those of these entries that lead to none of these slots
abbrev pub entries_beside : List ℕ → List Entry → List Entry
entries_beside slots entries = filter (λ (entry : Entry). not (is_among slots entry.slot)) entries

-- a node of this kind stood there: the seat holds a reference to each that it named, but for those in the slots that are left out
pub record MayLetGo (v : View) (name : ℕ) (kind : Kind) (left_out : List ℕ) : Type 0 where
  pub node : Ref
  pub slot : Slot
  pub left : LeavesNode v name node slot
  pub its_kind : kind_of_node slot.node ≡ kind
  pub holds : HoldsAll (beside v left_out (refs_of_node slot.node)) v.owed

-- a branch or a list of so many entries
pub record MayLetManyGo (v : View) (name count : ℕ) (left_out : List ℕ) : Type 0 where
  pub node : Ref
  pub slot : Slot
  pub left : LeavesNode v name node slot
  pub many : is_branch_or_list slot.node ≡ true
  pub counted : count ≡ length (entries_of slot.node)
  pub few : count ≤ 32
  pub holds : HoldsAll (beside v left_out (entries_of slot.node)) v.owed

-- it holds no more of these then
abbrev pub HasLetNamesGo : View → ℕ → Kind → List ℕ → View → Type 0
HasLetNamesGo before name kind left_out after =
    (h : MayLetGo before name kind left_out) → HasReleasedAll before (beside before left_out (refs_of_node h.slot.node)) after

abbrev pub HasLetManyGo : View → ℕ → ℕ → List ℕ → View → Type 0
HasLetManyGo before name count left_out after =
    (h : MayLetManyGo before name count left_out) → HasReleasedAll before (beside before left_out (entries_of h.slot.node)) after
