-- Offers on which seats may rely, and those that have come out of the words of handles: once nobody may rely on such a one its slot is used again.
use Rattle.std.specs.Prelude.{◌≡◌, ◌≢◌, ◌⊎◌, ◌+◌, ◌<◌, ◌≤◌, ℕ, false, List, [], ◌∷◌, Contains, map, Option, Some, slice_index}
use Rattle.trie_words.specs.Codes.{root_code, IsRootWord}
use Rattle.trie_words.specs.declared.roots.RootWord.TheVariants as word
use Rattle.machine_model.specs.States.{handle_limit}
use Rattle.lock_free.specs.declared.accounts.Account.{Account}
use Rattle.lock_free.specs.declared.accounts.Known.{Known}
use Rattle.lock_free.specs.declared.accounts.Parted.{Parted}
use Rattle.lock_free.specs.declared.accounts.OwnOffer.{OwnOffer}
use Rattle.lock_free.specs.declared.accounts.PartedSlot.{PartedSlot}
use Rattle.lock_free.specs.declared.rules.Pinned.{Pinned}
use Rattle.lock_free.specs.Places.{root_word}

-- no number stands twice
abbrev pub Once : List ℕ → Type 0
Once [] = Unit {0}
Once (n ∷ ns) = ¬ Contains ns n × Once ns

-- ---- which offers stand

-- the word names the offer in this slot
abbrev pub NamesOffer : ℕ → ℕ → Type 0
NamesOffer found slot =
    (IsRootWord (word.Offered slot) × (found ≡ root_code (word.Offered slot))) ⊎ (IsRootWord (word.Opening slot) × (found ≡ root_code (word.Opening slot)))

abbrev pub IsParted : List Parted → Known → Type 0
IsParted parted k = (x : Parted) × Contains parted x × (x.known ≡ k)

-- Each offer stands until it is parted, and then as long as its slot isn't free again; no handle's word names one that is parted.
pub record AreParted (offered offers : List Known) (parted : List Parted) (words : List ℕ) : Type 0 where
  pub known : (k : Known) → Contains offers k → Contains offered k
  pub left : (k : Known) → Contains offered k → Contains offers k ⊎ IsParted parted k
  pub unnamed : (k : Known) → Contains offers k → IsParted parted k → (handle : ℕ) → handle < handle_limit → ¬ NamesOffer (slice_index words (root_word handle)) k.slot

-- ---- what a seat may rely on

-- The seat is pinned, and the offer wasn't parted when it pinned itself: so it stands still.
pub record IsMet (account : Account) (pin : Option Pinned) (k : Known) : Type 0 where
  pub pinned : Pinned
  pub is : pin ≡ Some pinned
  pub here : Contains account.offered k
  pub unparted : ¬ IsParted pinned.account.parted k

-- its own offer stands, and isn't parted; a word out of which the seat has taken it names it no more
pub record OwnStands (offers : List Known) (parted : List Parted) (words : List ℕ) (actor : ℕ) (own : OwnOffer) : Type 0 where
  pub stands : Contains offers own.known
  pub maker : own.known.maker ≡ actor
  pub unparted : ¬ IsParted parted own.known
  pub unnamed : own.is_named ≡ false → own.known.handle < handle_limit → IsRootWord (word.Offered own.known.slot) → slice_index words (root_word own.known.handle) ≢ root_code
      (word.Offered own.known.slot)
  pub unopening : own.is_opening ≡ false → (handle : ℕ) → own.known.offer.opens ≡ Some handle → handle < handle_limit → IsRootWord (word.Opening own.known.slot) →
      slice_index words (root_word handle) ≢ root_code (word.Opening own.known.slot)

-- the seat's offer in this slot is parted, by this epoch, and stands
pub record HasParted (offers : List Known) (parted : List Parted) (actor : ℕ) (y : PartedSlot) : Type 0 where
  pub its : Parted
  pub here : Contains parted its
  pub stands : Contains offers its.known
  pub place : its.known.slot ≡ y.slot
  pub maker : its.known.maker ≡ actor
  pub stamp : its.stamp ≤ y.stamp

abbrev pub slots_of : List PartedSlot → List ℕ
slots_of slots = map (λ (y : PartedSlot). y.slot) slots

-- of a seat that is pinned so, whose offers these are
pub record KnowsOffers (offered offers : List Known) (parted : List Parted) (words : List ℕ) (actor : ℕ) (pin : Option Pinned) (own : Option OwnOffer) (slots : List PartedSlot) : Type 0 where
  pub grown : (pinned : Pinned) → pin ≡ Some pinned → (x : Parted) → Contains pinned.account.parted x → Contains parted x
  -- one that was parted since was so in the epoch then or the next one
  pub early : (pinned : Pinned) → pin ≡ Some pinned → (x : Parted) → Contains parted x → (pinned.since ≤ x.stamp + 1) ⊎ Contains pinned.account.parted x
  pub met : (pinned : Pinned) → pin ≡ Some pinned → (k : Known) → Contains offered k → ¬ IsParted pinned.account.parted k → Contains offers k
  pub its_own : (o : OwnOffer) → own ≡ Some o → OwnStands offers parted words actor o
  pub waiting : (y : PartedSlot) → Contains slots y → HasParted offers parted actor y
  pub once : Once (slots_of slots)
