-- What the words of handles mean, with the first words of the offers in them.
use Rattle.std.specs.Prelude.{◌≡◌, ◌≢◌, ℕ, ◌+◌, ◌*◌, ◌<◌, ◌==◌, ◌⊎◌, List, Contains, Option, Some, None, slice_index, if◌then◌else◌}
use Rattle.trie_words.specs.Codes.{root_code, pair_code, IsRootWord}
use Rattle.trie_words.specs.declared.roots.RootWord.{RootWord as HandleWord}
use Rattle.trie_words.specs.declared.roots.RootWord.TheVariants as word
use Rattle.history.specs.declared.calls.Access.{Access}
use Rattle.history.specs.declared.calls.Access.TheVariants.{Writable, ReadOnly}
use Rattle.machine_model.specs.declared.operations.Operation.{Operation}
use Rattle.machine_model.specs.declared.roots.Descriptor.{Descriptor}
use Rattle.machine_model.specs.declared.roots.Root.{Root}
use Rattle.machine_model.specs.declared.roots.RootWord.{RootWord}
use Rattle.machine_model.specs.declared.roots.RootWord.TheVariants.{Plain, Offer}
use Rattle.machine_model.specs.Beneath.slot_arena.specs.declared.refs.Ref.{Ref}
use Rattle.machine_model.specs.Acting.{opened_root}
use Rattle.machine_model.specs.States.{State, operation_of, handle_limit}
use Rattle.lock_free.specs.declared.accounts.Account.{Account}
use Rattle.lock_free.specs.declared.accounts.Known.{Known}
use Rattle.lock_free.specs.Accounts.{place_of}
use Rattle.lock_free.specs.Places.{root_word}

-- ---- what has become of an offer, by its first word

abbrev pub undecided : ℕ
undecided = 0

abbrev pub carried_out : ℕ
carried_out = 1

abbrev pub taken_back : ℕ
taken_back = 2

abbrev pub fate : List ℕ → Known → ℕ
fate words k = slice_index words (2 * k.slot)

-- what then stands for it in the root word
abbrev pub meant : ℕ → Descriptor → RootWord
meant word offer = if word == 0 then Offer offer else (if word == 1 then Plain offer.successor else Plain offer.root)

-- and what is open under the handle that it is to open
abbrev pub opened_by : ℕ → Descriptor → Option Root
opened_by word offer = if word == 1 then Some (opened_root offer offer.second) else None

abbrev pub second_of : Account → Option Ref → ℕ
second_of account None = 0
second_of account (Some r) = place_of account r

-- the offer's words are written
pub record IsWritten (account : Account) (words : List ℕ) (k : Known) : Type 0 where
  pub olds : slice_index words (2 * k.slot + 1) ≡ pair_code (record { low = place_of account k.offer.root; high = place_of account k.offer.expected })
  pub news : slice_index words (2 * k.slot + 2) ≡ pair_code (record { low = place_of account k.offer.successor; high = second_of account k.offer.second })

-- ---- what a handle's word means

abbrev pub open_with : Access → RootWord → Option Root
open_with access w = Some (record { access = access; word = w })

-- no offer has the slot
abbrev pub NoOffer : Account → ℕ → Type 0
NoOffer account slot = (k : Known) → Contains account.offers k → k.slot ≢ slot

-- the handle has the root in this slot
pub record SaysPlain (account : Account) (access : Access) (slot : ℕ) (r : Option Root) : Type 0 where
  pub root : Ref
  pub place : slot ≡ place_of account root
  pub is : r ≡ open_with access (Plain root)

-- the offer in this slot says what its root is
pub record SaysOffered (account : Account) (words : List ℕ) (handle slot : ℕ) (r : Option Root) : Type 0 where
  pub its : Known
  pub here : Contains account.offers its
  pub on : its.handle ≡ handle
  pub place : slot ≡ its.slot
  pub is : r ≡ open_with Writable (meant (fate words its) its.offer)

-- the offer in this slot opens the handle
pub record SaysOpening (account : Account) (words : List ℕ) (handle slot : ℕ) (r : Option Root) : Type 0 where
  pub its : Known
  pub here : Contains account.offers its
  pub place : slot ≡ its.slot
  pub opens : its.offer.opens ≡ Some handle
  pub is : r ≡ opened_by (fate words its) its.offer

abbrev pub SaysRoot : Account → List ℕ → ℕ → HandleWord → Option Root → Type 0
SaysRoot account words handle word.Closed r = r ≡ None
SaysRoot account words handle word.Reserved r = r ≡ None
SaysRoot account words handle (word.Writable slot) r = SaysPlain account Writable slot r
SaysRoot account words handle (word.ReadOnly slot) r = SaysPlain account ReadOnly slot r
SaysRoot account words handle (word.ClosingWritable slot seat) r = SaysPlain account Writable slot r
SaysRoot account words handle (word.ClosingReadOnly slot seat) r = SaysPlain account ReadOnly slot r
SaysRoot account words handle (word.Offered slot) r = SaysOffered account words handle slot r
SaysRoot account words handle (word.Opening slot) r = SaysOpening account words handle slot r ⊎ (NoOffer account slot × (r ≡ None))

pub record MeansRoot (account : Account) (words : List ℕ) (handle found : ℕ) (r : Option Root) : Type 0 where
  pub what : HandleWord
  pub fits : IsRootWord what
  pub code : found ≡ root_code what
  pub says : SaysRoot account words handle what r

-- ---- offers that stand

-- An undecided offer's handle names it, and so does the one that it is to open.
pub record IsPending (words : List ℕ) (k : Known) : Type 0 where
  pub low : k.handle < handle_limit
  pub stands : slice_index words (root_word k.handle) ≡ root_code (word.Offered k.slot)
  pub opens : (opened : ℕ) → k.offer.opens ≡ Some opened → (opened < handle_limit) × (slice_index words (root_word opened) ≡ root_code (word.Opening k.slot))

-- ---- whose offer was carried out

-- the offer is that of the operation's present try
pub record IsItsTry (o : Operation) (offer : Descriptor) : Type 0 where
  pub its : o.id ≡ offer.operation
  pub now : o.attempt ≡ offer.attempt

-- the operation is marked just where it was carried out
abbrev pub AreMarked : State → List ℕ → List Known → Type 0
AreMarked state words offers =
    (k : Known) → Contains offers k → (a : ℕ) (o : Operation) → operation_of state a ≡ Some o → IsItsTry o k.offer → o.is_marked ≡ (fate words k == carried_out)
