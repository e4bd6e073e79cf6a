-- What main nodes name, as it stands in halves of words, and what a seat lets go of that one of them names and another one doesn't.
use Rattle.std.specs.Prelude.{◌≡◌, ◌≤◌, ℕ, true, not, List, Contains, filter, map, Option, Some, None}
use Rattle.trie_words.specs.Codes.{entry_of}
use Rattle.trie_words.specs.declared.entries.Entry.{Entry}
use Rattle.trie_words.specs.declared.names.Name.{Name}
use Rattle.machine_model.specs.Beneath.slot_arena.specs.declared.nodes.Slot.{Slot}
use Rattle.machine_model.specs.Beneath.slot_arena.specs.declared.refs.Ref.{Ref}
use Rattle.proof_claims.specs.Held.{is_in}
use Rattle.proof_memory.specs.Wants.{is_main_node}
use Rattle.lock_free.specs.declared.leaving.Drops.{Drops}
use Rattle.lock_free.specs.declared.leaving.Drops.TheVariants as drops
use Rattle.lock_free.specs.declared.leaving.Swapping.{Swapping}
use Rattle.lock_free.specs.declared.reclaiming.Decided.{Decided}
use Rattle.lock_free.specs.declared.reclaiming.Decided.TheVariants.{Commits, Fails}
use Rattle.lock_free.specs.declared.reclaiming.Kind.TheVariants as kinds
use Rattle.lock_free.specs.declared.rules.View.{View}
use Rattle.lock_free.specs.Accounts.{place_of}
use Rattle.lock_free.specs.Counts.{how_often}
use Rattle.lock_free.specs.Entries.{HasSeenEntry, HasStayed}
use Rattle.lock_free.specs.Halves.{entries_of_halves}
use Rattle.lock_free.specs.LettingGo.{names_of, taken_over}
use Rattle.lock_free.specs.Loading.{Holds, HasPosition, IsUsed}
use Rattle.lock_free.specs.Places.{small_class}
use Rattle.lock_free.specs.Raising.{kind_for, LeadTo, OwesOne}
use Rattle.lock_free.specs.SeenEntries.{AreEntriesTo}

-- ---- they are seen

-- in the slot there is this main node, which the seat's operation holds
abbrev pub IsMainIn : View → ℕ → Ref → Slot → Type 0
IsMainIn v name r slot = Holds v r × IsUsed v r slot × (is_main_node slot.node ≡ true) × (place_of v.account r ≡ name)

abbrev pub HoldsMain : View → ℕ → Type 0
HoldsMain v name = (r : Ref) × (slot : Slot) × IsMainIn v name r slot

abbrev pub HasSeenNames : View → ℕ → List Entry → View → Type 0
HasSeenNames before name entries after = HasStayed before after × ((r : Ref) (slot : Slot) → IsMainIn before name r slot → AreEntriesTo after entries (names_of before r))

-- what one takes over that is to replace it
abbrev pub HasSeenTaken : View → Name → List Entry → View → Type 0
HasSeenTaken before name entries after =
    HasStayed before after × ((r : Ref) (slot : Slot) → IsMainIn before name.slot r slot → AreEntriesTo after entries (taken_over before name.own r))

-- ---- which of them lead elsewhere

abbrev pub slots_of : List ℕ → List ℕ
slots_of halves = map (λ (half : ℕ). (entry_of half).slot) halves

-- to no slot to which one of the others leads
abbrev pub elsewhere : List ℕ → List ℕ → List ℕ
elsewhere others halves = filter (λ (half : ℕ). not (is_in (slots_of others) (entry_of half).slot)) halves

-- ---- the seat lets go of them

-- The first lead to these nodes, the others to those: the seat holds each of these that is none of those.
pub record MayLetGo (v : View) (entries others : List Entry) : Type 0 where
  pub refs : List Ref
  pub those : List Ref
  pub lead : LeadTo v entries None refs
  pub others_lead : AreEntriesTo v others those
  pub once : (k : Ref) → how_often k refs ≤ 1
  pub holds : (k : Ref) → Contains refs k → ¬ Contains those k → Contains v.owed k

-- of what a SWAP gives to it, where it was committed over the indirection's own, or over another one, or refused: the first half of these the replaced main
-- node names, as far as the fresh one takes it over, and the others the fresh one
abbrev pub MayLetGoBy : View → Swapping → Decided → List ℕ → List ℕ → Type 0
MayLetGoBy v s (Commits (Some r)) olds news = MayLetGo v (entries_of_halves olds) (entries_of_halves news)
MayLetGoBy v s (Commits None) olds news = (k : Ref) × OwesOne v k kinds.Main s.class s.replaced.slot
MayLetGoBy v s (Fails r) olds news = MayLetGo v (entries_of_halves news) (entries_of_halves olds)

-- ---- what is dropped is known

-- in the slot there is a main node that has the entry which is said to be dropped
abbrev pub HasDropped : View → ℕ → Drops → Type 0
HasDropped v name (drops.At position) = HasPosition v name position
HasDropped v name d = Unit {0}

abbrev pub HasSeenDropped : View → ℕ → Drops → Option Entry → View → Type 0
HasSeenDropped before name (drops.At position) (Some entry) after = HasSeenEntry before name position entry after
HasSeenDropped before name (drops.At position) None after = ⊥
HasSeenDropped before name d (Some entry) after = ⊥
HasSeenDropped before name d None after = after ≡ before

-- the seat holds a reference to what the entry leads to
abbrev pub OwesDropped : View → Option Entry → Type 0
OwesDropped v None = Unit {0}
OwesDropped v (Some entry) = (k : Ref) × OwesOne v k (kind_for entry.is_single) small_class entry.slot

abbrev pub MayLetGoTold : View → Swapping → Decided → Option Entry → Type 0
MayLetGoTold v s (Commits (Some r)) dropped = OwesDropped v dropped
MayLetGoTold v s (Commits None) dropped = (k : Ref) × OwesOne v k kinds.Main s.class s.replaced.slot
MayLetGoTold v s (Fails r) dropped = Unit {0}
