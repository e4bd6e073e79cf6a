-- References more to nodes that an operation has at hand, and those that its seat lets go of.
use Rattle.std.specs.Prelude.{◌≡◌, ◌⊎◌, ◌+◌, ℕ, Bool, true, false, List, [], ◌∷◌, Contains, remove, Option, Some, None}
use Rattle.trie_words.specs.declared.entries.Entry.{Entry}
use Rattle.machine_model.specs.Beneath.slot_arena.specs.declared.nodes.Slot.{Slot}
use Rattle.machine_model.specs.Beneath.slot_arena.specs.declared.refs.Ref.{Ref}
use Rattle.machine_model.specs.Beneath.slot_arena.specs.Heaps.{node_at}
use Rattle.machine_model.specs.declared.operations.Operation.{Operation}
use Rattle.machine_model.specs.Operations.{action_of}
use Rattle.proof_memory.specs.Wants.{is_entry}
use Rattle.lock_free.specs.declared.reclaiming.Kind.{Kind}
use Rattle.lock_free.specs.declared.reclaiming.Kind.TheVariants as kinds
use Rattle.lock_free.specs.declared.rules.View.{View}
use Rattle.lock_free.specs.Accounts.{running}
use Rattle.lock_free.specs.Claims.{HoldsAll}
use Rattle.lock_free.specs.Counting.{HasAtHand, Owes}
use Rattle.lock_free.specs.Counts.{how_often}
use Rattle.lock_free.specs.Loading.{now, Holds, IsUsed}
use Rattle.lock_free.specs.OwesAt.{owes_at}
use Rattle.lock_free.specs.Owing.{names_made, owing, HoldsRaised, IsTakenOver}
use Rattle.lock_free.specs.Places.{small_class}
use Rattle.lock_free.specs.Reclaiming.{kind_of_node}
use Rattle.lock_free.specs.SeenEntries.{entry_to, unowned, AreEntriesTo}

-- ---- one

-- the seat holds one reference more, or nothing has changed
abbrev pub HasRaisedOrNot : View → Ref → Bool → View → Type 0
HasRaisedOrNot before k true after = after ≡ owing before (k ∷ before.owed)
HasRaisedOrNot before k false after = after ≡ before

-- the seat holds a reference to a node of this kind
abbrev pub OwesOne : View → Ref → Kind → ℕ → ℕ → Type 0
OwesOne v k kind class name = Owes v k class name × (kind_of_node (node_at (now v).heap k) ≡ kind)

-- These are the references that the seat holds then. If it has lowered others, it may have retired what has none any more.
pub record HasKept (before : View) (owed : List Ref) (after : View) : Type 0 where
  pub is : after ≡ record before { epoch = after.epoch; passed = after.passed; retired = after.retired; owed = owed; links = after.links }

-- ---- those to the entries of a main node

-- all of these but the one at that position
abbrev pub all_but : {X : Type 0} → Option ℕ → List X → List X
all_but None xs = xs
all_but (Some position) xs = remove xs position

-- its operation hasn't just made the node
abbrev pub IsShared : View → Ref → Type 0
IsShared v k = (operation : Operation) → running v.sizes v.account v.actor operation → ¬ Contains operation.private k

-- what an entry of a main node leads to
abbrev pub kind_for : Bool → Kind
kind_for true = kinds.Single
kind_for false = kinds.Indirection

-- the entry leads to the node, to which the seat holds a reference
pub record OwesEntry (v : View) (entry : Entry) (k : Ref) : Type 0 where
  pub owed : Contains v.owed k
  pub named : unowned entry ≡ entry_to v k
  pub used : (slot : Slot) × IsUsed v k slot × (is_entry slot.node ≡ true)
  pub shared : IsShared v k

-- The entries lead to these nodes: those that aren't left out are entries of main nodes, and shared.
pub record LeadTo (v : View) (entries : List Entry) (but : Option ℕ) (refs : List Ref) : Type 0 where
  pub named : AreEntriesTo v entries refs
  pub used : (k : Ref) → Contains (all_but but refs) k → (slot : Slot) × IsUsed v k slot × (is_entry slot.node ≡ true)
  pub shared : (k : Ref) → Contains (all_but but refs) k → IsShared v k

-- the operation has those at hand
pub record MayRaise (v : View) (entries : List Entry) (but : Option ℕ) (refs : List Ref) : Type 0 where
  pub lead : LeadTo v entries but refs
  pub held : (k : Ref) → Contains (all_but but refs) k → Holds v k

-- the seat holds a reference to each of them
pub record MayRelease (v : View) (entries : List Entry) (but : Option ℕ) (refs : List Ref) : Type 0 where
  pub lead : LeadTo v entries but refs
  pub owed : HoldsAll (all_but but refs) v.owed

-- A node is to be made: what it names its operation has made, or the entries that aren't left out lead there, or the node takes it over.
pub record MayHold (v : View) (entries : List Entry) (but : Option ℕ) : Type 0 where
  pub refs : List Ref
  pub may : MayRaise v entries but refs
  pub names : (operation : Operation) → running v.sizes v.account v.actor operation → (k : Ref) → Contains (names_made (action_of (now v) operation)) k →
      Contains (owes_at operation) k ⊎ (Contains (all_but but refs) k ⊎ IsTakenOver v operation.line k)

-- where the one that it is to replace is its indirection's own, the node takes over what it names
abbrev pub MayReplace : View → Bool → List Entry → Option ℕ → Type 0
MayReplace v true entries but = HoldsRaised v
MayReplace v false entries but = MayHold v entries but

-- A node is to be made that names a node of this kind in this slot, which its operation hasn't made, and has at hand; all else that it names it has made.
pub record MayHoldOne (v : View) (kind : Kind) (class name : ℕ) : Type 0 where
  pub one : Ref
  pub hand : HasAtHand v one class name
  pub its_kind : kind_of_node (node_at (now v).heap one) ≡ kind
  pub shared : IsShared v one
  pub names : (operation : Operation) → running v.sizes v.account v.actor operation → (k : Ref) → Contains (names_made (action_of (now v) operation)) k →
      Contains (owes_at operation) k ⊎ (k ≡ one)

abbrev pub MayReplaceBy : View → Bool → ℕ → Type 0
MayReplaceBy v true name = HoldsRaised v
MayReplaceBy v false name = MayHoldOne v kinds.Single small_class name

-- it holds one reference more to each of these
pub record HasRaisedAll (before : View) (ks : List Ref) (after : View) : Type 0 where
  pub is : after ≡ owing before after.owed
  pub all : (k : Ref) → how_often k after.owed ≡ how_often k ks + how_often k before.owed

-- one less
pub record HasReleasedAll (before : View) (ks : List Ref) (after : View) : Type 0 where
  pub kept : HasKept before after.owed after
  pub all : (k : Ref) → how_often k ks + how_often k after.owed ≡ how_often k before.owed

-- one more, or as many as before
abbrev pub HasRaisedEntries : View → Option ℕ → List Ref → Bool → View → Type 0
HasRaisedEntries before but refs true after = HasRaisedAll before (all_but but refs) after
HasRaisedEntries before but refs false after = HasReleasedAll before [] after
