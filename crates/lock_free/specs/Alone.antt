-- A seat that is alone makes each slot free for it to which no open handle leads.
use Rattle.history.specs.declared.calls.Call.{Call}
use Rattle.std.specs.Prelude.{◌≡◌, ◌⊎◌, ◌+◌, ◌*◌, ◌/◌, ◌<◌, ◌≤◌, ◌++◌, ◌==◌, ℕ, zero, suc, Bool, true, false, List, [], ◌∷◌, Contains, None, nat_le, slice_index, if◌then◌else◌}
use mathlib.Core.Option.{some}
use lib.ListN.{get_elem?}
use Rattle.atomic_table.specs.Table as Table
use Rattle.atomic_table.specs.Table.{Me, Step}
use Rattle.trie_words.specs.Codes.{root_of}
use Rattle.trie_words.specs.declared.roots.RootWord.{RootWord as HandleWord}
use Rattle.trie_words.specs.declared.roots.RootWord.TheVariants as word
use Rattle.machine_model.specs.Beneath.slot_arena.specs.declared.nodes.Slot.{Slot}
use Rattle.machine_model.specs.Beneath.slot_arena.specs.declared.refs.Ref.{Ref}
use Rattle.machine_model.specs.States.{operation_of, handle_limit}
use Rattle.proof_claims.specs.Beneath.proof_reuse.specs.Beneath.proof_followed.specs.Followed.{IsFollowedByRoots}
use Rattle.lock_free.specs.declared.accounts.Account.{Account}
use Rattle.lock_free.specs.declared.rules.Heard.{Heard}
use Rattle.lock_free.specs.declared.rules.View.{View}
use Rattle.lock_free.specs.declared.sizes.Sizes.{Sizes}
use Rattle.lock_free.specs.Accounts.{place_of, state_of}
use Rattle.lock_free.specs.Cells.{loose_link}
use Rattle.lock_free.specs.Counts.{references}
use Rattle.lock_free.specs.Finishing.{unoffered}
use Rattle.lock_free.specs.Links.{link_in}
use Rattle.lock_free.specs.Loading.{now, seen, IsSound, IsUsed}
use Rattle.lock_free.specs.Making.{with_slots}
use Rattle.lock_free.specs.Nodes.{class_of}
use Rattle.lock_free.specs.Places.{cell_word, count_word, part_of, root_word, slots_in, stride, taken_word, words_of}
use Rattle.lock_free.specs.Rules.{HasActor, IsKept, WasGivenUp}
use Rattle.lock_free.specs.Seated.{IsResting}
use Rattle.lock_free.specs.Telling.{GoesOn}

-- ---- no other seat makes an access

-- The actor was another seat's, which was given up while it ran nothing; and the seat has made an access since.
pub record WasLeft (v : View) (a : ℕ) : Type 0 where
  pub heard : Heard
  pub its : Contains v.heard heard
  pub low : heard.actor ≤ a
  pub top : a ≤ heard.last
  pub idle : operation_of (state_of v.sizes heard.account) heard.actor ≡ None
  pub since : GoesOn heard.account.steps v.account.steps

-- each actor of the map is this seat's, or was one of a seat that was given up
abbrev pub IsAlone : View → Type 0
IsAlone v = (a : ℕ) → 1 ≤ a → a ≤ v.sizes.seats → HasActor v a ⊎ WasLeft v a

-- and the seat knows of each handle that its word names no offer
pub record IsByItself (v : View) : Type 0 where
  pub alone : IsAlone v
  pub rests : IsResting v
  pub plain : (handle : ℕ) → handle < handle_limit → Contains v.plain (handle, (now v).begun)

-- all words, views and steps at the access, as in `Moment`, and that whom the seat has heard of was given up
pub record LoneMoment (v : View) (word found : ℕ) : Type 0 where
  pub table : Table.State Call View
  pub kept : IsKept v.sizes table
  pub heard : (h : Heard) → Contains v.heard h → WasGivenUp table.views h
  pub id : ℕ
  pub at : get_elem? table.views id ≡ some v
  pub finds : slice_index table.words word ≡ found

-- ---- slots to which handles lead

-- the slot of this number in the class
abbrev pub name_of : Sizes → ℕ → ℕ → ℕ
name_of sizes class number = (part_of sizes class + stride class * number) / 2

-- an open handle leads to the node in this slot: it is the handle's root, or stands in a slot to which the handle leads
pub record IsLedTo (v : View) (class name : ℕ) : Type 0 where
  pub node : Ref
  pub led : IsFollowedByRoots (now v) node
  pub slot : Slot
  pub used : IsUsed v node slot
  pub in_class : class_of slot.node ≡ class
  pub place : place_of v.account node ≡ name

-- marks of the slots of a class, by their numbers
abbrev pub Marks : Type 0
Marks = ℕ → Bool

-- just those slots are marked to which handles lead
abbrev pub AreMarks : View → ℕ → Marks → Type 0
AreMarks v class marks =
    (number : ℕ) → number < slots_in v.sizes class →
    (marks number ≡ true → IsLedTo v class (name_of v.sizes class number)) × (IsLedTo v class (name_of v.sizes class number) → marks number ≡ true)

-- of so many slots of the class those that aren't marked
unfoldable pub unmarked : Sizes → ℕ → Marks → ℕ → List ℕ
unmarked sizes class marks zero = []
unmarked sizes class marks (suc n) = if marks n then unmarked sizes class marks n else unmarked sizes class marks n ++ name_of sizes class n ∷ []

-- whether this slot stands in one of so many cells of the class
unfoldable pub stands_in : Sizes → List ℕ → ℕ → ℕ → ℕ → Bool
stands_in sizes words class name zero = false
stands_in sizes words class name (suc n) = if link_in (slice_index words (cell_word sizes class n)) == name then true else stands_in sizes words class name n

-- whether it does, or is loose
abbrev pub is_aside : Sizes → List ℕ → ℕ → ℕ → Bool
is_aside sizes words class name = if stands_in sizes words class name 32 then true else nat_le loose_link (link_in (slice_index words (count_word sizes class name)))

-- those that are marked, and those that stand in cells or are loose
abbrev pub left_out : Sizes → List ℕ → ℕ → Marks → Marks
left_out sizes words class marks number = if marks number then true else is_aside sizes words class (name_of sizes class number)

-- Whatever the words are at the access, those of the counts of the slots of the class that were handed out and aren't marked say that there is a reference.
abbrev pub HaveReferences : View → ℕ → Marks → Type 0
HaveReferences v class marks =
    (found : ℕ) (m : LoneMoment v (taken_word class) found) (number : ℕ) → number < found → marks number ≡ false →
    1 ≤ references m.table.words (count_word v.sizes class (name_of v.sizes class number))

-- ---- they are all free

-- just these slots of the class are free for the seat, and none is retired
abbrev pub recovering : View → Account → ℕ → List ℕ → View
recovering v account class names =
    record v { account = unoffered account; offer = None; pool = record (with_slots v.pool class names) { parted = [] }; drafts = []; retired = []; links = [] }

-- of all that were handed out those to which no handle leads, and that neither stand in a cell nor are loose
abbrev pub HasRecovered : View → ℕ → Marks → ℕ → View → Type 0
HasRecovered before class marks found after =
    (m : LoneMoment before (taken_word class) found) ×
    (after ≡ recovering before m.kept.account class (unmarked before.sizes class (left_out before.sizes m.table.words class marks) found))

-- by a load of the word that says how many were
abbrev pub has_recovered : Step Call → Me Call View → ℕ → Me Call View → Type 0
has_recovered step before found after =
    ((class : ℕ) (marks : Marks) → class < 3 → step.word ≡ taken_word class → AreMarks before.0 class marks → HasRecovered before.0 class marks found after.0)
    × IsSound (words_of before.0.sizes) after.0 × (after.1 ≡ before.1)

-- ---- the word of a handle names no offer

abbrev pub is_plain : HandleWord → Bool
is_plain (word.Offered slot) = false
is_plain (word.Opening slot) = false
is_plain w = true

-- the seat knows so of this handle
abbrev pub knowing_plain : View → Account → ℕ → View
knowing_plain v account handle = record v { account = account; plain = (handle, (state_of v.sizes account).begun) ∷ v.plain }

abbrev pub HasSeenPlain : View → ℕ → Bool → ℕ → View → Type 0
HasSeenPlain before handle plain found after =
    (m : LoneMoment before (root_word handle) found) × (plain ≡ true → after ≡ knowing_plain before m.kept.account handle) × (plain ≡ false → after ≡ seen before m.kept.account)

-- this is the word
abbrev pub HasSeenPlainWord : View → ℕ → HandleWord → View → Type 0
HasSeenPlainWord before handle w after = (found : ℕ) × (root_of found ≡ w) × HasSeenPlain before handle (is_plain w) found after

-- by a load of its word, while the seat is alone
abbrev pub has_seen_plain : Step Call → Me Call View → ℕ → Me Call View → Type 0
has_seen_plain step before found after =
    ((handle : ℕ) → handle < handle_limit → step.word ≡ root_word handle → HasSeenPlain before.0 handle (is_plain (root_of found)) found after.0)
    × IsSound (words_of before.0.sizes) after.0 × (after.1 ≡ before.1)
