-- What an access tells: how everything stood when it was made, and what the seat has seen of it since.
use Rattle.history.specs.declared.calls.Call.{Call}
use Rattle.std.specs.Prelude.{◌≡◌, ℕ, ◌+◌, ◌*◌, ◌/◌, ◌^◌, ◌<◌, ◌≤◌, ◌⊎◌, Bool, true, Contains, length, slice_get, slice_index, slice_index_or, Some, None}
use mathlib.Core.Option.{some}
use lib.ListN.{get_elem?}
use Rattle.atomic_table.specs.Table as Table
use Rattle.atomic_table.specs.Table.{Me, Step}
use Rattle.trie_words.specs.Codes.{IsHeader, IsLink}
use Rattle.trie_words.specs.declared.entries.Pair.{Pair}
use Rattle.trie_words.specs.declared.headers.Header.{Header}
use Rattle.trie_words.specs.declared.links.Link.{Link}
use Rattle.machine_model.specs.Beneath.slot_arena.specs.declared.refs.Ref.{Ref}
use Rattle.machine_model.specs.Beneath.slot_arena.specs.declared.nodes.Node.TheVariants.{Indirection, Single}
use Rattle.machine_model.specs.Beneath.slot_arena.specs.declared.nodes.Slot.{Slot}
use Rattle.machine_model.specs.Beneath.slot_arena.specs.Heaps.{entries_of, refs_of_slot}
use Rattle.machine_model.specs.Beneath.slot_arena.specs.Refs.{slot_of}
use Rattle.machine_model.specs.declared.actions.Action.{Action}
use Rattle.machine_model.specs.declared.actions.Action.TheVariants as act
use Rattle.machine_model.specs.declared.operations.Operation.{Operation}
use Rattle.machine_model.specs.Acting.{operation_after}
use Rattle.machine_model.specs.Keys.{KeysFit}
use Rattle.machine_model.specs.Machine.{AreBounds}
use Rattle.machine_model.specs.Operations.{action_of}
use Rattle.machine_model.specs.States.{State}
use Rattle.proof_memory.specs.Wants.{is_main_node, is_branch_or_list}
use Rattle.lock_free.specs.declared.accounts.Account.{Account}
use Rattle.lock_free.specs.declared.rules.View.{View}
use Rattle.lock_free.specs.Accounts.{bounds_for, HasWaited, running, state_of, place_at, place_of, gone_on, IsOwn}
use Rattle.lock_free.specs.Live.{at_hand}
use Rattle.lock_free.specs.Nodes.{SaysPrevious, SaysShape, IsEntryOf, half_in, class_of}
use Rattle.lock_free.specs.Places.{words_in, words_of, IsSlot}
use Rattle.lock_free.specs.Rules.{IsFree, IsKept}

-- All words, views and steps at the access, by which this was found in that word; the view is the seat's before it.
pub record Moment (v : View) (word found : ℕ) : Type 0 where
  pub table : Table.State Call View
  pub kept : IsKept v.sizes table
  pub id : ℕ
  pub at : get_elem? table.views id ≡ some v
  pub finds : slice_index table.words word ≡ found

-- ---- what a seat knows of its operation

abbrev pub now : View → State
now v = state_of v.sizes v.account

-- the seat's operation, and what its next step does
pub record IsAt (v : View) (does : Action) : Type 0 where
  pub operation : Operation
  pub runs : running v.sizes v.account v.actor operation
  pub acts : action_of (now v) operation ≡ does

-- this is the seat's operation, but for its mark, which others may have set
abbrev pub Runs : View → Operation → Type 0
Runs v operation = (mark : Bool) × running v.sizes v.account v.actor (record operation { is_marked = mark })

-- the node is in use
abbrev pub IsUsed : View → Ref → Slot → Type 0
IsUsed v r slot = slice_index_or (now v).heap.slots (slot_of r) None ≡ Some slot

-- The machine never runs out, keys are of 64 bits, and the slots of all nodes are the table's, which has so many words.
pub record IsSound (words : ℕ) (v : View) : Type 0 where
  pub size : words ≡ words_of v.sizes
  pub range : words_of v.sizes ≤ 2 ^ 28
  pub bounds : AreBounds (bounds_for v.sizes v.account.steps)
  pub keys : KeysFit v.account.steps
  pub counted : length v.account.names ≡ (now v).heap.births
  pub inside : (k : ℕ) (slot : Slot) → slice_index_or (now v).heap.slots k None ≡ Some slot → IsSlot v.sizes (class_of slot.node) (place_at v.account k)
  -- and so are those that are free for the seat
  pub free : (class name : ℕ) → IsFree v class name → 2 * name + words_in class ≤ words_of v.sizes

-- ---- what an access leaves of it

-- the seat has seen this happen, and has taken no step
abbrev pub seen : View → Account → View
seen v account = record v { account = account }

-- While others took steps its operation has stayed, but for its mark, and with it what it is to do.
pub record Waited (before : View) (account : Account) : Type 0 where
  pub waited : HasWaited before.actor before.account account
  pub sound : IsSound (words_of before.sizes) (seen before account)
  pub stays : (operation : Operation) → running before.sizes before.account before.actor operation →
      (mark : Bool) × running before.sizes account before.actor (record operation { is_marked = mark })
      × (action_of (now (seen before account)) (record operation { is_marked = mark }) ≡ action_of (now before) operation)

-- and then it took its next step
abbrev pub Took : View → Account → View → Type 0
Took before account after =
    (operation : Operation) → running before.sizes account before.actor operation → running after.sizes after.account after.actor (operation_after (now (seen before account)) operation)

-- no step was taken
abbrev pub HasSeen : View → ℕ → ℕ → View → Type 0
HasSeen before word found after = (m : Moment before word found) × (after ≡ seen before m.kept.account)

-- the operation's next step was taken
abbrev pub HasGone : View → ℕ → ℕ → View → Type 0
HasGone before word found after = (m : Moment before word found) × (after ≡ seen before (gone_on before.actor m.kept.account)) × Took before m.kept.account after

abbrev pub has_seen : Step Call → Me Call View → ℕ → Me Call View → Type 0
has_seen step before found after = HasSeen before.0 step.word found after.0 × IsSound (words_of before.0.sizes) after.0 × (after.1 ≡ before.1)

abbrev pub has_gone : Step Call → Me Call View → ℕ → Me Call View → Type 0
has_gone step before found after = HasGone before.0 step.word found after.0 × IsSound (words_of before.0.sizes) after.0 × (after.1 ≡ before.1)

-- ---- what words say of nodes

-- this is the node
abbrev pub Stores : State → Ref → Slot → Type 0
Stores state r slot = slice_index_or state.heap.slots (slot_of r) None ≡ Some slot

-- it is this main node's header
pub record HasHeader (account : Account) (state : State) (main : Ref) (header : Header) : Type 0 where
  pub slot : Slot
  pub stores : Stores state main slot
  pub is_main : is_main_node slot.node ≡ true
  pub is_previous : SaysPrevious account state (slot_of main) slot.prev header.previous
  pub is_shape : SaysShape account (slot_of main) slot.node header.shape
  pub fits : IsHeader header
  -- what stands in its words is in use
  pub used : (r : Ref) → Contains (refs_of_slot (Some slot)) r → (other : Slot) × Stores state r other

-- it is this indirection's word
pub record HasLink (account : Account) (state : State) (indirection : Ref) (link : Link) : Type 0 where
  pub slot : Slot
  pub stores : Stores state indirection slot
  pub main : Ref
  pub is_link : slot.node ≡ Indirection link.generation main
  pub place : place_of account main ≡ link.main.slot
  pub is_own : IsOwn account indirection main link.main.own
  pub fits : IsLink link
  pub used : (other : Slot) × Stores state main other

-- where it is a main node, an indirection, a single, a branch or a list
abbrev pub SaysMain : Account → State → Ref → Header → Type 0
SaysMain account state r header = (slot : Slot) → Stores state r slot → is_main_node slot.node ≡ true → HasHeader account state r header

abbrev pub SaysLink : Account → State → Ref → Link → Type 0
SaysLink account state r link = (slot : Slot) (generation : ℕ) (main : Ref) → Stores state r slot → slot.node ≡ Indirection generation main → HasLink account state r link

abbrev pub SaysKey : State → Ref → ℕ → Type 0
SaysKey state r found = (slot : Slot) (key value : ℕ) → Stores state r slot → slot.node ≡ Single key value → found ≡ key

abbrev pub SaysValue : State → Ref → ℕ → Type 0
SaysValue state r found = (slot : Slot) (key value : ℕ) → Stores state r slot → slot.node ≡ Single key value → found ≡ value

-- the entries at this position and beside it
abbrev pub SaysPair : Account → State → Ref → ℕ → Pair → Type 0
SaysPair account state r position pair =
    (slot : Slot) (n : ℕ) (e : Ref) → Stores state r slot → is_branch_or_list slot.node ≡ true → n / 2 ≡ position / 2 → slice_get (entries_of slot.node) n ≡ Some e → IsEntryOf account state.heap e
    (half_in pair n)

-- ---- what loads ask and tell

-- its next step does this to a node in this slot
abbrev pub IsAtSlot : View → (Ref → Action) → ℕ → Type 0
IsAtSlot v does name = (r : Ref) × IsAt v (does r) × (place_of v.account r ≡ name)

-- its operation has the node at hand, or a main node of which it is an entry
abbrev pub Holds : View → Ref → Type 0
Holds v r = (operation : Operation) × running v.sizes v.account v.actor operation
    × (Contains (at_hand (now v) operation) r
    ⊎ ((main : Ref) × (slot : Slot) × Contains (at_hand (now v) operation) main × IsUsed v main slot × Contains (entries_of slot.node) r))

abbrev pub HoldsSlot : View → ℕ → Type 0
HoldsSlot v name = (r : Ref) × Holds v r × (place_of v.account r ≡ name)

-- in the slot there is a branch or a list with an entry at this position
abbrev pub HasPosition : View → ℕ → ℕ → Type 0
HasPosition v name position =
    (r : Ref) × (slot : Slot) × Holds v r × IsUsed v r slot × (is_branch_or_list slot.node ≡ true) × (position < length (entries_of slot.node)) × (position < 32) × (place_of v.account r ≡ name)

-- it has taken its step
pub record Went (before after : View) : Type 0 where
  pub account : Account
  pub waited : Waited before account
  pub after_is : after ≡ seen before (gone_on before.actor account)
  pub took : Took before account after

-- it has taken none
pub record Saw (before after : View) : Type 0 where
  pub account : Account
  pub waited : Waited before account
  pub after_is : after ≡ seen before account

-- each slot has what it had
abbrev pub SameSlots : State → State → Type 0
SameSlots before after = (k : ℕ) → slice_index_or after.heap.slots k None ≡ slice_index_or before.heap.slots k None

-- by reading a word, of which this was so at that moment, with the node to which its action does that
abbrev pub HasRead : (Ref → Action) → (Account → State → Ref → Type 0) → View → View → Type 0
HasRead does Says before after =
    (w : Went before after) × ((r : Ref) → IsAt before (does r) → Says w.account (now (seen before w.account)) r × SameSlots (now (seen before w.account)) (now after))

abbrev pub HasReadHeader : View → Header → View → Type 0
HasReadHeader before header after = HasRead act.ReadPrev (λ account state main. HasHeader account state main header) before after

abbrev pub HasReadLink : View → Link → View → Type 0
HasReadLink before link after = HasRead act.ReadMain (λ account state indirection. HasLink account state indirection link) before after

abbrev pub HasLookedAtMain : View → Header → View → Type 0
HasLookedAtMain before header after = HasRead act.Look (λ account state r. SaysMain account state r header) before after

abbrev pub HasLookedAtLink : View → Link → View → Type 0
HasLookedAtLink before link after = HasRead act.Look (λ account state r. SaysLink account state r link) before after

abbrev pub HasLookedAtKey : View → ℕ → View → Type 0
HasLookedAtKey before found after = HasRead act.Look (λ account state r. SaysKey state r found) before after

abbrev pub HasLookedAtValue : View → ℕ → View → Type 0
HasLookedAtValue before found after = HasRead act.Look (λ account state r. SaysValue state r found) before after

-- what it has seen of a node that it holds in this slot
abbrev pub SawOf : (Account → State → Ref → Type 0) → View → ℕ → View → Type 0
SawOf Says before name after =
    (s : Saw before after) × ((r : Ref) → Holds before r → place_of before.account r ≡ name → Says s.account (now (seen before s.account)) r)

abbrev pub HasSeenMain : View → ℕ → Header → View → Type 0
HasSeenMain before name header after = SawOf (λ account state r. SaysMain account state r header) before name after

abbrev pub HasSeenIndirection : View → ℕ → Link → View → Type 0
HasSeenIndirection before name link after = SawOf (λ account state r. SaysLink account state r link) before name after

abbrev pub HasSeenKey : View → ℕ → ℕ → View → Type 0
HasSeenKey before name found after = SawOf (λ account state r. SaysKey state r found) before name after

abbrev pub HasSeenPair : View → ℕ → ℕ → Pair → View → Type 0
HasSeenPair before name position pair after = SawOf (λ account state r. SaysPair account state r position pair) before name after
