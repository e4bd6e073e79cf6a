-- What a seat does with an offer of its own once that is settled: it takes the offer out of the words of handles, and parts it; and once nobody may rely on it any
-- more the offer's slot is free for the seat again.
use Rattle.history.specs.declared.calls.Call.{Call}
use Rattle.std.specs.Prelude.{◌≡◌, ◌⊎◌, ◌+◌, ◌++◌, ◌<◌, ◌≤◌, ℕ, Bool, false, is_some, List, [], ◌∷◌, length, Option, Some, None}
use Rattle.atomic_table.specs.Table.{Me, Step}
use Rattle.trie_words.specs.declared.roots.RootWord.{RootWord as HandleWord}
use Rattle.machine_model.specs.declared.operations.Operation.{Operation}
use Rattle.lock_free.specs.declared.accounts.Known.{Known}
use Rattle.lock_free.specs.declared.accounts.OwnOffer.{OwnOffer}
use Rattle.lock_free.specs.declared.accounts.PartedSlot.{PartedSlot}
use Rattle.lock_free.specs.declared.offers.Fate.TheVariants as fate
use Rattle.lock_free.specs.declared.rules.Pool.{Pool}
use Rattle.lock_free.specs.declared.rules.View.{View}
use Rattle.lock_free.specs.Fates.{HasSettled}
use Rattle.lock_free.specs.HandleWords.{HasOffer}
use Rattle.lock_free.specs.Loading.{IsSound, Runs}
use Rattle.lock_free.specs.Making.{with_slot}
use Rattle.lock_free.specs.OfferWords.{outcome_by}
use Rattle.lock_free.specs.Passing.{Later}
use Rattle.lock_free.specs.Places.{words_of}
use Rattle.lock_free.specs.RootWords.{HasSeenFate, IsAtClean, IsAtOpen}
use Rattle.lock_free.specs.Rules.{IsFree}

-- ---- what a seat does besides that

-- It has seen more, and its operation goes on: the seat is as it was but for its offer, and for those that are parted.
pub record HasMovedOn (v w : View) : Type 0 where
  pub later : Later v (record w { offer = v.offer; pool = v.pool })
  pub pool : w.pool ≡ record v.pool { parted = w.pool.parted }
  pub runs : (operation : Operation) → Runs v operation → Runs w operation

-- and this has become of its offer
abbrev pub HasDoneOwn : (Option OwnOffer → Option OwnOffer) → View → View → Type 0
HasDoneOwn f v w = HasMovedOn v w × (w.offer ≡ f v.offer) × (w.pool ≡ v.pool)

-- ---- it is taken out of the words

-- The offer is the seat's latest one; no word names it as the one that opens a handle, if it opens none.
abbrev pub IsItsOwn : View → Known → Type 0
IsItsOwn v k = (o : OwnOffer) × (v.offer ≡ Some o) × (o.known ≡ k) × (k.offer.opens ≡ None → o.is_opening ≡ false)

-- It is on this handle in this slot, and opens that number, if it does, for a copy that may be written or for readers.
pub record IsOwnCopy (v : View) (handle slot : ℕ) (opens : Option ℕ) (writable : Bool) : Type 0 where
  pub its : HasOffer v.sizes v.account v.pin handle slot
  pub own : IsItsOwn v its.its
  pub its_opens : its.its.offer.opens ≡ opens
  pub small : handle < 256
  pub low : (number : ℕ) → opens ≡ Some number → number < 256
  pub second : is_some its.its.offer.second ≡ writable

-- and it was carried out, or taken back
abbrev pub IsSettledOwn : View → ℕ → ℕ → Option ℕ → Bool → Bool → Type 0
IsSettledOwn v handle slot opens writable carried = (c : IsOwnCopy v handle slot opens writable) × HasSettled v.sizes v.account c.its.its (outcome_by carried)

abbrev pub once_unnamed : Option OwnOffer → Option OwnOffer
once_unnamed None = None
once_unnamed (Some o) = Some (record o { is_named = false })

abbrev pub once_unopening : Option OwnOffer → Option OwnOffer
once_unopening None = None
once_unopening (Some o) = Some (record o { is_opening = false })

abbrev pub unnamed : View → View
unnamed v = record v { offer = once_unnamed v.offer }

abbrev pub unopening : View → View
unopening v = record v { offer = once_unopening v.offer }

-- it leaves the root in this slot
abbrev pub IsAtOwnClean : View → ℕ → ℕ → ℕ → Type 0
IsAtOwnClean v handle slot root = (c : IsAtClean v handle slot root) × IsItsOwn v c.its.its

abbrev pub has_cleaned_own : Step Call → Me Call View → ℕ → Me Call View → Type 0
has_cleaned_own step before found after = after ≡ (unnamed before.0, before.1)

-- the word of the handle that it opens says this in its place
abbrev pub IsAtOwnOpen : View → ℕ → ℕ → HandleWord → Type 0
IsAtOwnOpen v handle slot opened = (h : IsAtOpen v handle slot opened) × IsItsOwn v h.its.its

abbrev pub has_opened_own : Step Call → Me Call View → ℕ → Me Call View → Type 0
has_opened_own step before found after = after ≡ (unopening before.0, before.1)

-- ---- it is parted

-- no word names it any more
abbrev pub IsToPart : View → ℕ → Type 0
IsToPart v slot = (o : OwnOffer) × (v.offer ≡ Some o) × (o.known.slot ≡ slot) × (o.is_named ≡ false) × (o.is_opening ≡ false)

abbrev pub with_parted : Pool → ℕ → ℕ → Pool
with_parted pool slot stamp = record pool { parted = pool.parted ++ record { slot = slot; stamp = stamp } ∷ [] }

abbrev pub parting : View → ℕ → ℕ → View
parting v slot stamp = record v { offer = None; pool = with_parted v.pool slot stamp }

-- by a load of the epoch
abbrev pub has_parted : Step Call → Me Call View → ℕ → Me Call View → Type 0
has_parted step before found after = ((slot : ℕ) → IsToPart before.0 slot → after.0 ≡ parting before.0 slot found) × (after.1 ≡ before.1)

-- so many can be at a time, until slots of some are free again
abbrev pub most_parted : ℕ
most_parted = 64

abbrev pub IsFullOfParted : Pool → Type 0
IsFullOfParted pool = most_parted ≤ length pool.parted

-- or it stays as it is, since no more can be
abbrev pub PartsOrNot : View → ℕ → View → Type 0
PartsOrNot before slot after = ((stamp : ℕ) × (after ≡ parting before slot stamp)) ⊎ ((after ≡ before) × IsFullOfParted before.pool)

-- besides what else the seat has done
abbrev pub PartsBesides : View → ℕ → View → Type 0
PartsBesides before slot after = ((stamp : ℕ) × (after.pool ≡ with_parted before.pool slot stamp)) ⊎ ((after.pool ≡ before.pool) × IsFullOfParted before.pool)

-- where it was settled
abbrev pub PartsIfSettled : View → ℕ → View → Type 0
PartsIfSettled before slot after = PartsBesides before slot after ⊎ HasSeenFate before slot fate.Undecided after

-- ---- its slot is free

-- this is the first of those that were parted, and the epoch that the seat has seen is later by three
abbrev pub IsRipeOffer : View → PartedSlot → List PartedSlot → Type 0
IsRipeOffer v y rest = (v.pool.parted ≡ y ∷ rest) × (y.stamp + 3 ≤ v.epoch)

-- by an epoch that it has seen
abbrev pub IsRipeIn : Pool → ℕ → Type 0
IsRipeIn pool seen = (y : PartedSlot) × (rest : List PartedSlot) × (pool.parted ≡ y ∷ rest) × (y.stamp + 3 ≤ seen)

abbrev pub without_first : Pool → ℕ → List PartedSlot → Pool
without_first pool slot rest = record (with_slot pool 1 slot) { parted = rest }

abbrev pub freeing_first : View → PartedSlot → List PartedSlot → View
freeing_first v y rest = record v { pool = without_first v.pool y.slot rest }

abbrev pub HasFreedFirst : View → View → Type 0
HasFreedFirst before after = (y : PartedSlot) (rest : List PartedSlot) → IsRipeOffer before y rest → after ≡ freeing_first before y rest

-- some are free, and what was free is
pub record HasFreedOffers (before after : View) : Type 0 where
  pub is : after ≡ record before { pool = after.pool }
  pub free : (class name : ℕ) → IsFree before class name → IsFree after class name

-- by any load
abbrev pub has_freed_offer : Step Call → Me Call View → ℕ → Me Call View → Type 0
has_freed_offer step before found after =
    HasFreedFirst before.0 after.0 × IsSound (words_of before.0.sizes) after.0 × (after.1 ≡ before.1)
