-- What accesses of handles' words ask and tell.
use Rattle.history.specs.declared.calls.Call.{Call}
use Rattle.history.specs.declared.calls.Call.TheVariants.{Close}
use Rattle.history.specs.declared.events.Event.TheVariants as event
use Rattle.history.specs.declared.replies.Reply.TheVariants as reply
use Rattle.std.specs.Prelude.{◌≡◌, ◌==◌, ◌+◌, ◌*◌, ◌≤◌, ◌⊎◌, ℕ, Bool, true, false, List, [], ◌∷◌, ◌++◌, Option, Some, None}
use Rattle.atomic_table.specs.Table.{Me, Step}
use Rattle.trie_words.specs.Codes.{IsRootWord, root_code}
use Rattle.trie_words.specs.declared.roots.RootWord.{RootWord}
use Rattle.trie_words.specs.declared.roots.RootWord.TheVariants as word
use Rattle.history.specs.declared.calls.Access.{Access}
use Rattle.history.specs.declared.calls.Access.TheVariants.{Writable, ReadOnly}
use Rattle.machine_model.specs.Beneath.slot_arena.specs.declared.refs.Ref.{Ref}
use Rattle.machine_model.specs.Beneath.slot_arena.specs.Heaps.{node_at}
use Rattle.machine_model.specs.declared.roots.RootWord.TheVariants.{Plain}
use Rattle.machine_model.specs.States.{root_at}
use Rattle.lock_free.specs.declared.accounts.Account.{Account}
use Rattle.lock_free.specs.declared.accounts.Known.{Known}
use Rattle.lock_free.specs.declared.reclaiming.Kind.TheVariants as kinds
use Rattle.lock_free.specs.declared.rules.Closing.{Closing}
use Rattle.lock_free.specs.declared.rules.Pinned.{Pinned}
use Rattle.lock_free.specs.declared.rules.View.{View}
use Rattle.lock_free.specs.declared.sizes.Sizes.{Sizes}
use Rattle.lock_free.specs.Accounts.{place_of, state_of}
use Rattle.lock_free.specs.Beginning.{closed_by}
use Rattle.lock_free.specs.Counting.{IsInSlot}
use Rattle.lock_free.specs.Loading.{now, IsSound, Saw, Waited}
use Rattle.lock_free.specs.Parting.{IsMet}
use Rattle.lock_free.specs.Places.{small_class, words_of, words_in, root_word}
use Rattle.lock_free.specs.Reclaiming.{kind_of_node}
use Rattle.lock_free.specs.Roots.{SaysPlain, open_with}
use Rattle.lock_free.specs.SeatWords.{IsIdle, WouldClose}
use Rattle.lock_free.specs.Telling.{history_of}

-- A seat that is pinned so may rely on an offer for this handle in this slot.
pub record HasOffer (sizes : Sizes) (account : Account) (pin : Option Pinned) (handle slot : ℕ) : Type 0 where
  pub its : Known
  pub here : IsMet account pin its
  pub place : its.slot ≡ slot
  pub on : its.handle ≡ handle
  pub inside : 2 * slot + words_in 1 ≤ words_of sizes

-- on one in this slot that opens the handle
pub record HasOpening (sizes : Sizes) (account : Account) (pin : Option Pinned) (handle slot : ℕ) : Type 0 where
  pub its : Known
  pub here : IsMet account pin its
  pub place : its.slot ≡ slot
  pub opens : its.offer.opens ≡ Some handle
  pub inside : 2 * slot + words_in 1 ≤ words_of sizes

-- the handle is closed, has the root in this slot, or stands by an offer, on which the seat may rely if it is pinned
abbrev pub TellsRoot : Sizes → Account → Option Pinned → ℕ → RootWord → Type 0
TellsRoot sizes account pin handle word.Closed = root_at (state_of sizes account) handle ≡ None
TellsRoot sizes account pin handle word.Reserved = root_at (state_of sizes account) handle ≡ None
TellsRoot sizes account pin handle (word.Writable slot) = SaysPlain account Writable slot (root_at (state_of sizes account) handle)
TellsRoot sizes account pin handle (word.ReadOnly slot) = SaysPlain account ReadOnly slot (root_at (state_of sizes account) handle)
TellsRoot sizes account pin handle (word.ClosingWritable slot seat) = SaysPlain account Writable slot (root_at (state_of sizes account) handle)
TellsRoot sizes account pin handle (word.ClosingReadOnly slot seat) = SaysPlain account ReadOnly slot (root_at (state_of sizes account) handle)
TellsRoot sizes account pin handle (word.Offered slot) = HasOffer sizes account pin handle slot ⊎ (pin ≡ None)
TellsRoot sizes account pin handle (word.Opening slot) = HasOpening sizes account pin handle slot ⊎ (pin ≡ None) ⊎ (root_at (state_of sizes account) handle ≡ None)

-- it has seen the word of this handle
abbrev pub HasSeenRoot : View → ℕ → RootWord → View → Type 0
HasSeenRoot before handle found after = (s : Saw before after) × IsRootWord found × TellsRoot before.sizes s.account before.pin handle found

-- ---- a handle is marked, which a seat would close

-- it is open, has a root that doesn't stand by an offer, and nobody would close it
abbrev pub is_unmarked : RootWord → Bool
is_unmarked (word.Writable slot) = true
is_unmarked (word.ReadOnly slot) = true
is_unmarked w = false

-- this seat would close it
abbrev pub marked_by : ℕ → RootWord → RootWord
marked_by seat (word.Writable slot) = word.ClosingWritable slot seat
marked_by seat (word.ReadOnly slot) = word.ClosingReadOnly slot seat
marked_by seat w = w

abbrev pub begins_with : ℕ → Closing
begins_with handle = record { handle = handle; looked = 0 }

-- glances may be under way then
abbrev pub marking : View → ℕ → View
marking v handle = record v { closing = begins_with handle ∷ v.closing; passed = record v.passed { cleared = false } }

-- it has marked the handle last, and has looked at nobody's pin yet
abbrev pub HasJustMarked : View → ℕ → Type 0
HasJustMarked v handle = (others : List Closing) × (v.closing ≡ begins_with handle ∷ others)

-- the mark was made, or the word was another
abbrev pub HasMarked : View → ℕ → Bool → View → Type 0
HasMarked before handle made after = (made ≡ true → after ≡ marking before handle) × (made ≡ false → after ≡ before)

abbrev pub has_marked : Step Call → Me Call View → ℕ → Me Call View → Type 0
has_marked step before found after = ((handle : ℕ) → step.word ≡ root_word handle → HasMarked before.0 handle (found == step.first) after.0) × (after.1 ≡ before.1)

-- ---- a handle is closed

-- who is pinned holds its root itself from then on
abbrev pub owes_closed : Option Pinned → Ref → List Ref → List Ref
owes_closed None root owed = owed
owes_closed (Some pinned) root owed = root ∷ owed

abbrev pub once_closed : View → ℕ → Ref → Account → View
once_closed v handle root account = record v { account = closed_by v.actor handle account; owed = owes_closed v.pin root v.owed }

-- the slot of the root that an open handle's word names
abbrev pub slot_named : RootWord → ℕ
slot_named (word.Writable slot) = slot
slot_named (word.ReadOnly slot) = slot
slot_named (word.ClosingWritable slot seat) = slot
slot_named (word.ClosingReadOnly slot seat) = slot
slot_named w = 0

-- the call that closes it has begun and ended, and so the history says; the root that it had is in the slot of this name
pub record ShutBy (before : View) (handle name : ℕ) (after : View) : Type 0 where
  pub account : Account
  pub waited : Waited before account
  pub access : Access
  pub root : Ref
  pub was : root_at (state_of before.sizes account) handle ≡ open_with access (Plain root)
  pub place : name ≡ place_of account root
  pub after_is : after ≡ once_closed before handle root account
  pub idle : IsIdle after
  pub there : IsInSlot after root small_class name
  pub its_kind : kind_of_node (node_at (now after).heap root) ≡ kinds.Indirection
  pub id : ℕ
  pub told : history_of after.sizes after.account ≡ history_of before.sizes account ++ event.Begin id before.actor (Close handle) None ∷ event.End id reply.Closed ∷ []

-- or the word was another
abbrev pub HasClosed : View → ℕ → ℕ → Bool → View → Type 0
HasClosed before handle name closed after = (closed ≡ true → ShutBy before handle name after) × (closed ≡ false → after ≡ before)

abbrev pub has_closed : Step Call → Me Call View → ℕ → Me Call View → Type 0
has_closed step before found after =
    ((handle looked : ℕ) (w : RootWord) → WouldClose before.0 handle looked → IsRootWord w → step.first ≡ root_code w → HasClosed before.0 handle (slot_named w) (found == step.first) after.0)
    × (IsSound (words_of before.0.sizes) before.0 → IsSound (words_of before.0.sizes) after.0) × (after.1 ≡ before.1)

-- ---- a mark is taken away, or another word is found

-- a seat would close the handle
abbrev pub is_marked : RootWord → Bool
is_marked (word.ClosingWritable slot seat) = true
is_marked (word.ClosingReadOnly slot seat) = true
is_marked w = false

abbrev pub without_mark : RootWord → RootWord
without_mark (word.ClosingWritable slot seat) = word.Writable slot
without_mark (word.ClosingReadOnly slot seat) = word.ReadOnly slot
without_mark w = w

abbrev pub has_unmarked : Step Call → Me Call View → ℕ → Me Call View → Type 0
has_unmarked step before found after = after ≡ before
