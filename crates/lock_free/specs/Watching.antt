-- What a seat that is alone sees of nodes to which handles lead: nothing changes meanwhile.
use Rattle.history.specs.declared.calls.Call.{Call}
use Rattle.std.specs.Prelude.{◌≡◌, ◌<◌, ℕ, Bool, true, slice_get, slice_index_or, Contains, Some, None}
use Rattle.atomic_table.specs.Table.{Me, Step}
use Rattle.trie_words.specs.declared.entries.Entry.{Entry}
use Rattle.trie_words.specs.declared.headers.Header.{Header}
use Rattle.trie_words.specs.declared.headers.Previous.{Previous}
use Rattle.trie_words.specs.declared.headers.Previous.TheVariants as previous
use Rattle.machine_model.specs.Beneath.slot_arena.specs.declared.nodes.Node.TheVariants.{Indirection}
use Rattle.machine_model.specs.Beneath.slot_arena.specs.declared.nodes.Prev.{Prev}
use Rattle.machine_model.specs.Beneath.slot_arena.specs.declared.nodes.Prev.TheVariants as prev
use Rattle.machine_model.specs.Beneath.slot_arena.specs.declared.nodes.Slot.{Slot}
use Rattle.machine_model.specs.Beneath.slot_arena.specs.declared.refs.Ref.{Ref}
use Rattle.machine_model.specs.Beneath.slot_arena.specs.Heaps.{entries_of, node_at}
use Rattle.machine_model.specs.States.{handle_limit, root_at}
use Rattle.proof_memory.specs.Wants.{is_main_node, is_branch_or_list}
use Rattle.proof_claims.specs.Beneath.proof_reuse.specs.Beneath.proof_followed.specs.Followed.{IsFollowedByRoots}
use Rattle.lock_free.specs.declared.rules.View.{View}
use Rattle.lock_free.specs.Accounts.{place_of}
use Rattle.lock_free.specs.Alone.{IsAlone, LoneMoment}
use Rattle.lock_free.specs.LeftNodes.{NamesShape}
use Rattle.lock_free.specs.Loading.{now, seen, IsSound, IsUsed}
use Rattle.lock_free.specs.Nodes.{is_single}
use Rattle.lock_free.specs.Places.{words_of}
use Rattle.lock_free.specs.SeatWords.{IsIdle}

-- ---- at the access

abbrev pub HasWatched : View → ℕ → ℕ → View → Type 0
HasWatched before word found after = (m : LoneMoment before word found) × (after ≡ seen before m.kept.account)

abbrev pub has_watched : Step Call → Me Call View → ℕ → Me Call View → Type 0
has_watched step before found after = HasWatched before.0 step.word found after.0 × IsSound (words_of before.0.sizes) after.0 × (after.1 ≡ before.1)

-- ---- nothing has changed

pub record IsQuiet (before after : View) : Type 0 where
  pub is : after ≡ record before { account = after.account; plain = after.plain }
  pub alone : IsAlone after
  pub idle : IsIdle after
  pub slots : (k : ℕ) → slice_index_or (now after).heap.slots k None ≡ slice_index_or (now before).heap.slots k None
  pub roots : (handle : ℕ) → root_at (now after) handle ≡ root_at (now before) handle
  pub begun : (now after).begun ≡ (now before).begun
  pub places : (r : Ref) (slot : Slot) → IsUsed before r slot → place_of after.account r ≡ place_of before.account r
  pub led : (r : Ref) → IsFollowedByRoots (now before) r → IsFollowedByRoots (now after) r
  pub was_led : (r : Ref) → IsFollowedByRoots (now after) r → IsFollowedByRoots (now before) r

-- handles lead to the node, which stands in this slot
pub record IsLed (v : View) (r : Ref) (slot : Slot) (name : ℕ) : Type 0 where
  pub led : IsFollowedByRoots (now v) r
  pub used : IsUsed v r slot
  pub place : place_of v.account r ≡ name

-- in this slot there is one
abbrev pub IsLedIn : View → ℕ → Type 0
IsLedIn v name = (r : Ref) × (slot : Slot) × IsLed v r slot name

-- ---- what its words say

-- the main node of an indirection
abbrev pub HasWatchedLink : View → ℕ → ℕ → View → Type 0
HasWatchedLink before name main after =
    IsQuiet before after × ((r : Ref) (slot : Slot) (generation : ℕ) (m : Ref) → IsLed before r slot name → slot.node ≡ Indirection generation m → main ≡ place_of before.account m)

-- the node over which a main node stands, if it isn't decided
pub data NamesPrevious (v : View) : Prev → Previous → Type 0 where
  none : NamesPrevious v prev.None previous.None
  pending : (p : Ref) (own : Bool) → NamesPrevious v (prev.Pending p) (previous.Pending (record { slot = place_of v.account p; own = own }))
  failed : (p : Ref) (own : Bool) → NamesPrevious v (prev.Failed p) (previous.Failed (record { slot = place_of v.account p; own = own }))

-- it says what stands in the slot
pub record SaysNode (v : View) (slot : Slot) (header : Header) : Type 0 where
  pub previous : NamesPrevious v slot.prev header.previous
  pub shape : NamesShape v slot.node header.shape

abbrev pub HasWatchedHeader : View → ℕ → Header → View → Type 0
HasWatchedHeader before name header after =
    IsQuiet before after × ((r : Ref) (slot : Slot) → IsLed before r slot name → is_main_node slot.node ≡ true → SaysNode before slot header)

-- an entry of a branch or a list
abbrev pub HasWatchedEntry : View → ℕ → ℕ → Entry → View → Type 0
HasWatchedEntry before name position entry after =
    IsQuiet before after × ((r : Ref) (slot : Slot) (e : Ref) → IsLed before r slot name → is_branch_or_list slot.node ≡ true → slice_get (entries_of slot.node) position ≡ Some e →
    (entry.slot ≡ place_of before.account e) × (entry.is_single ≡ is_single (node_at (now before).heap e)))

-- ---- handles

-- the seat knows of the first so many handles that their words name no offer
abbrev pub KnowsPlain : View → ℕ → Type 0
KnowsPlain v count = (handle : ℕ) → handle < count → Contains v.plain (handle, (now v).begun)

abbrev pub HasSeenAllPlain : View → Bool → View → Type 0
HasSeenAllPlain before all after = IsQuiet before after × (all ≡ true → KnowsPlain after handle_limit)
