-- What accesses ask and tell by which an operation asks for the root of its handle, and meets the offer that stands there.
use Rattle.history.specs.declared.calls.Call.{Call}
use Rattle.history.specs.declared.calls.Access.{Access}
use Rattle.std.specs.Prelude.{◌≡◌, ◌==◌, ℕ, Bool, true, false, is_some, Some, None, if◌then◌else◌}
use Rattle.atomic_table.specs.Table.{Me, Step}
use Rattle.trie_words.specs.Codes.{root_of}
use Rattle.trie_words.specs.declared.entries.Pair.{Pair}
use Rattle.trie_words.specs.declared.roots.RootWord.{RootWord as HandleWord}
use Rattle.trie_words.specs.declared.roots.RootWord.TheVariants as word
use Rattle.history.specs.declared.calls.Access.TheVariants.{Writable}
use Rattle.machine_model.specs.Beneath.slot_arena.specs.declared.refs.Ref.{Ref}
use Rattle.machine_model.specs.Beneath.slot_arena.specs.declared.nodes.Node.TheVariants.{Indirection}
use Rattle.machine_model.specs.Beneath.slot_arena.specs.declared.nodes.Slot.{Slot}
use Rattle.machine_model.specs.Beneath.slot_arena.specs.Heaps.{generation_at}
use Rattle.machine_model.specs.declared.actions.Action.TheVariants as act
use Rattle.machine_model.specs.declared.roots.Descriptor.{Descriptor}
use Rattle.machine_model.specs.declared.roots.RootWord.TheVariants.{Plain, Offer}
use Rattle.machine_model.specs.Calls.{handle_of}
use Rattle.machine_model.specs.States.{root_at}
use Rattle.lock_free.specs.declared.accounts.Account.{Account}
use Rattle.lock_free.specs.declared.accounts.Known.{Known}
use Rattle.lock_free.specs.declared.asking.Named.{Named}
use Rattle.lock_free.specs.declared.asking.Named.TheVariants as named
use Rattle.lock_free.specs.declared.offers.Fate.{Fate}
use Rattle.lock_free.specs.declared.offers.Fate.TheVariants as fate
use Rattle.lock_free.specs.declared.rules.View.{View}
use Rattle.lock_free.specs.Accounts.{place_of, MayBeFound, WasRoot}
use Rattle.lock_free.specs.Fates.{HasSettled, IsUnsettled}
use Rattle.lock_free.specs.HandleWords.{HasOffer, HasOpening}
use Rattle.lock_free.specs.Loading.{now, seen, Holds, IsAt, IsUsed, Saw, Went, SameSlots, HasSeen, HasGone, IsSound}
use Rattle.lock_free.specs.Passing.{IsPlaced}
use Rattle.lock_free.specs.Parting.{IsMet}
use Rattle.lock_free.specs.Places.{words_of}
use Rattle.lock_free.specs.Roots.{open_with, undecided, carried_out, taken_back}

-- ---- the word of a handle, by which the root is asked for

-- what it says of the root
abbrev pub named_by : HandleWord → Named
named_by (word.Writable slot) = named.Root slot
named_by (word.ReadOnly slot) = named.Root slot
named_by (word.ClosingWritable slot seat) = named.Root slot
named_by (word.ClosingReadOnly slot seat) = named.Root slot
named_by (word.Offered slot) = named.Offer slot
named_by (word.Opening slot) = named.Nothing
named_by word.Closed = named.Nothing
named_by word.Reserved = named.Nothing

-- the operation is to read the root of this handle
pub record AsksAt (v : View) (handle : ℕ) : Type 0 where
  pub acts : IsAt v act.ReadRoot
  pub on : handle_of acts.operation.call ≡ handle

-- where the word names the root, the load is that step
abbrev pub LoadedAs : Named → View → ℕ → ℕ → View → Type 0
LoadedAs (named.Root slot) before word found after = HasGone before word found after
LoadedAs (named.Offer slot) before word found after = HasSeen before word found after
LoadedAs named.Nothing before word found after = HasSeen before word found after

abbrev pub has_asked : Step Call → Me Call View → ℕ → Me Call View → Type 0
has_asked step before found after =
    LoadedAs (named_by (root_of found)) before.0 step.word found after.0 × IsSound (words_of before.0.sizes) after.0 × (after.1 ≡ before.1)

-- a root of some handle has stood in this slot
pub record IsRootAt (v : View) (r : Ref) (name : ℕ) : Type 0 where
  pub place : place_of v.account r ≡ name
  pub slot : Slot
  pub used : IsUsed v r slot
  pub generation : ℕ
  pub main : Ref
  pub is_link : slot.node ≡ Indirection generation main
  pub reached : WasRoot v.sizes v.account r

-- it was a root since the seat's operation has begun, which runs still: so it stands there
abbrev pub IsFound : View → Ref → Type 0
IsFound v r = (h : MayBeFound v.sizes v.account r) × (h.actor ≡ v.actor)

-- the root was this one when the step was taken
pub record HasFoundRoot (before : View) (handle name : ℕ) (after : View) : Type 0 where
  pub went : Went before after
  pub access : Access
  pub root : Ref
  pub is : root_at (now (seen before went.account)) handle ≡ open_with access (Plain root)
  pub same : SameSlots (now (seen before went.account)) (now after)
  pub at : IsRootAt after root name
  pub found : IsFound after root

abbrev pub HasAskedRoot : View → ℕ → Named → View → Type 0
HasAskedRoot before handle (named.Root slot) after = HasFoundRoot before handle slot after
HasAskedRoot before handle (named.Offer slot) after = (s : Saw before after) × HasOffer before.sizes s.account before.pin handle slot
HasAskedRoot before handle named.Nothing after = Saw before after

-- ---- a root's generation

abbrev pub IsRootIn : View → ℕ → Type 0
IsRootIn v name = (r : Ref) × IsRootAt v r name × IsFound v r

abbrev pub HasSeenGeneration : View → ℕ → ℕ → View → Type 0
HasSeenGeneration before name generation after = Saw before after × ((r : Ref) → IsRootAt before r name → IsFound before r → generation_at (now after).heap r ≡ generation)

-- ---- the first word of an offer that stands there, or stood

-- what it says of the offer
abbrev pub fate_by : ℕ → Fate
fate_by found = if found == undecided then fate.Undecided else (if found == carried_out then fate.CarriedOut else fate.TakenBack)

-- where it is undecided, the load is the step by which the operation finds the offer
abbrev pub MetAs : Bool → View → ℕ → ℕ → View → Type 0
MetAs true before word found after = HasGone before word found after
MetAs false before word found after = HasSeen before word found after

abbrev pub has_met : Step Call → Me Call View → ℕ → Me Call View → Type 0
has_met step before found after = MetAs (found == undecided) before.0 step.word found after.0 × IsSound (words_of before.0.sizes) after.0 × (after.1 ≡ before.1)

-- it stood there when the step was taken
pub record HasFoundOffer (before : View) (handle name : ℕ) (after : View) : Type 0 where
  pub went : Went before after
  pub is : (k : Known) → IsMet before.account before.pin k → k.slot ≡ name → root_at (now (seen before went.account)) handle ≡ open_with Writable (Offer k.offer)

-- it was settled so
abbrev pub HasSeenSettled : View → ℕ → ℕ → View → Type 0
HasSeenSettled before name n after = (s : Saw before after) × ((k : Known) → IsMet before.account before.pin k → k.slot ≡ name → HasSettled before.sizes s.account k n)

abbrev pub HasMetOffer : View → ℕ → ℕ → Fate → View → Type 0
HasMetOffer before handle name fate.Undecided after = HasFoundOffer before handle name after
HasMetOffer before handle name fate.CarriedOut after = HasSeenSettled before name carried_out after
HasMetOffer before handle name fate.TakenBack after = HasSeenSettled before name taken_back after

-- the same, by a load that is no step
abbrev pub HasSeenFate : View → ℕ → Fate → View → Type 0
HasSeenFate before name fate.Undecided after =
    (s : Saw before after) × ((k : Known) → IsMet before.account before.pin k → k.slot ≡ name → root_at (now (seen before s.account)) k.handle ≡ open_with Writable (Offer k.offer))
HasSeenFate before name fate.CarriedOut after = HasSeenSettled before name carried_out after
HasSeenFate before name fate.TakenBack after = HasSeenSettled before name taken_back after

-- ---- what it offers

-- the old root and its main node; as long as the offer isn't settled, only that one is in its slot of what the operation holds
pub record SaysOlds (before : View) (account : Account) (k : Known) (pair : Pair) : Type 0 where
  pub root : IsPlaced (seen before account) k.offer.root pair.low
  pub expected : pair.high ≡ place_of account k.offer.expected
  pub only : IsUnsettled before.sizes account k → (r : Ref) → Holds before r → place_of before.account r ≡ pair.high → r ≡ k.offer.expected

abbrev pub KnowsOffer : View → ℕ → Type 0
KnowsOffer v name = (handle : ℕ) × HasOffer v.sizes v.account v.pin handle name

abbrev pub HasSeenOlds : View → ℕ → Pair → View → Type 0
HasSeenOlds before name pair after = (s : Saw before after) × ((k : Known) → IsMet before.account before.pin k → k.slot ≡ name → SaysOlds before s.account k pair)

-- the new root, and that of the handle that it opens
pub record SaysNews (before : View) (account : Account) (k : Known) (pair : Pair) : Type 0 where
  pub successor : IsPlaced (seen before account) k.offer.successor pair.low
  pub second : (r : Ref) → k.offer.second ≡ Some r → IsPlaced (seen before account) r pair.high
  pub alone : k.offer.second ≡ None → pair.high ≡ 0

abbrev pub HasSeenNews : View → ℕ → Pair → View → Type 0
HasSeenNews before name pair after = (s : Saw before after) × ((k : Known) → IsMet before.account before.pin k → k.slot ≡ name → SaysNews before s.account k pair)

-- ---- it is taken out of the word

-- the root that it leaves, once it is settled
abbrev pub settled_root : ℕ → Descriptor → Ref
settled_root n offer = if n == carried_out then offer.successor else offer.root

pub record IsAtClean (v : View) (handle offer root : ℕ) : Type 0 where
  pub its : HasOffer v.sizes v.account v.pin handle offer
  pub outcome : ℕ
  pub settled : HasSettled v.sizes v.account its.its outcome
  pub place : IsPlaced v (settled_root outcome its.its.offer) root

-- nothing of it concerns the seat
abbrev pub has_cleaned : Step Call → Me Call View → ℕ → Me Call View → Type 0
has_cleaned step before found after = after ≡ before

-- ---- it is taken out of the word of the handle that it opens

-- By how it was settled: the handle is open, writable over a root of its own, or for readers over the old one; or its number is reserved, as before.
pub data OpensAs (v : View) (offer : Descriptor) : ℕ → HandleWord → Type 0 where
  as_copy : (r : Ref) (name : ℕ) → offer.second ≡ Some r → IsPlaced v r name → OpensAs v offer carried_out (word.Writable name)
  for_readers : (name : ℕ) → offer.second ≡ None → IsPlaced v offer.root name → OpensAs v offer carried_out (word.ReadOnly name)
  still_reserved : OpensAs v offer taken_back word.Reserved

pub record IsAtOpen (v : View) (handle offer : ℕ) (opened : HandleWord) : Type 0 where
  pub its : HasOpening v.sizes v.account v.pin handle offer
  pub outcome : ℕ
  pub settled : HasSettled v.sizes v.account its.its outcome
  pub opens : OpensAs v its.its.offer outcome opened

-- The offer opens a handle that may be written, or one for readers, and was carried out.
abbrev pub IsOpenedBy : View → ℕ → ℕ → Bool → Type 0
IsOpenedBy v handle offer writable = (h : HasOpening v.sizes v.account v.pin handle offer) × HasSettled v.sizes v.account h.its carried_out × (is_some h.its.offer.second ≡ writable)
