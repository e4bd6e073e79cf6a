-- What the exchange of a handle's word that is to bring an offer to stand asks and tells.
use Rattle.history.specs.declared.calls.Call.{Call}
use Rattle.std.specs.Prelude.{◌≡◌, ◌==◌, ◌<◌, ◌++◌, ◌∷◌, ℕ, Bool, true, false, List, [], Some, if◌then◌else◌}
use Rattle.atomic_table.specs.Table.{Me, Step}
use Rattle.trie_words.specs.Codes.{root_of}
use Rattle.trie_words.specs.declared.roots.RootWord.{RootWord}
use Rattle.trie_words.specs.declared.roots.RootWord.TheVariants as word
use Rattle.machine_model.specs.declared.actions.Action.TheVariants as act
use Rattle.machine_model.specs.declared.operations.Operation.{Operation}
use Rattle.machine_model.specs.declared.roots.Descriptor.{Descriptor}
use Rattle.machine_model.specs.Calls.{handle_of}
use Rattle.machine_model.specs.States.{word_at, handle_limit}
use Rattle.machine_model.specs.Swapping.{is_plain}
use Rattle.lock_free.specs.declared.accounts.Account.{Account}
use Rattle.lock_free.specs.declared.offers.Fate.{Fate}
use Rattle.lock_free.specs.declared.offers.Fate.TheVariants as fate
use Rattle.lock_free.specs.declared.root_offers.Proposed.{Proposed}
use Rattle.lock_free.specs.declared.root_offers.Proposed.TheVariants.{Stands, Misses, Meets}
use Rattle.lock_free.specs.declared.rules.Pinned.{Pinned}
use Rattle.lock_free.specs.declared.rules.View.{View}
use Rattle.lock_free.specs.Accounts.{place_of}
use Rattle.lock_free.specs.GivingUp.{given_up, HasDropped}
use Rattle.lock_free.specs.HandleWords.{HasOffer, HasSeenRoot}
use Rattle.lock_free.specs.Loading.{now, seen, HasSeen, IsAt, IsSound, Runs, Saw, Waited, Took}
use Rattle.lock_free.specs.Offering.{DraftsOffer, known_at, offered_by}
use Rattle.lock_free.specs.Parting.{IsMet}
use Rattle.lock_free.specs.Places.{words_of}
use Rattle.lock_free.specs.RootWords.{HasSeenSettled}
use Rattle.lock_free.specs.Roots.{undecided, carried_out, taken_back}
use Rattle.lock_free.specs.Rules.{pool_of}
use Rattle.std.specs.Prelude.{Option, Some, None}

-- ---- what is asked

-- The seat has written the offer in the last of its free slots of class 1, and the word of the number that it opens names that slot; its root is in this one.
pub record WritesOffer (v : View) (root slot : ℕ) (offer : Descriptor) (rest : List ℕ) : Type 0 where
  pub last : pool_of v.pool 1 ≡ rest ++ slot ∷ []
  pub drafts : DraftsOffer v.account v.drafts slot offer
  pub names : (handle : ℕ) → offer.opens ≡ Some handle → v.opening ≡ Some slot
  pub place : place_of v.account offer.root ≡ root

-- the operation's next step offers it on this handle
abbrev pub IsToOffer : View → ℕ → ℕ → ℕ → Type 0
IsToOffer v handle root slot = (offer : Descriptor) × (rest : List ℕ) × (p : IsAt v (act.Offer offer)) × WritesOffer v root slot offer rest × (handle_of p.operation.call ≡ handle)

-- ---- what is told

-- the step was taken, and found the root still standing there, or not
abbrev pub TookOffer : View → Account → Bool → View → Type 0
TookOffer before account stood after =
    Waited before account × Took before account after
    × ((offer : Descriptor) (p : IsAt before (act.Offer offer)) → is_plain (word_at (now (seen before account)) (handle_of p.operation.call)) offer.root ≡ stood)

-- the offer in this slot stands, and the seat may rely on it
abbrev pub HasOffered : View → ℕ → View → Type 0
HasOffered before slot after =
    (account : Account) × TookOffer before account true after
    × ((offer : Descriptor) (p : IsAt before (act.Offer offer)) (rest : List ℕ) → pool_of before.pool 1 ≡ rest ++ slot ∷ [] → after ≡ offered_by before slot
    (handle_of p.operation.call) rest offer account)
    × ((offer : Descriptor) (p : IsAt before (act.Offer offer)) → IsMet after.account after.pin (known_at before.actor slot (handle_of p.operation.call) offer)
    × (handle_of p.operation.call < handle_limit))

-- another root stood there, or another offer: what was made is free for the seat again
abbrev pub HasMissed : View → View → Type 0
HasMissed before after =
    (account : Account) × TookOffer before account false after × ((o : Operation) → Runs before o →
    (after ≡ given_up before account o.private after.drafts) × HasDropped (seen before account) o.private o.line after)

-- or no step was taken: the word says that a seat would close the handle, or names an offer; who offers is pinned
abbrev pub HasProposed : View → ℕ → ℕ → Proposed → View → Type 0
HasProposed before handle slot Stands after = HasOffered before slot after
HasProposed before handle slot Misses after = HasMissed before after
HasProposed before handle slot (Meets word) after = HasSeenRoot before handle word after × ((pinned : Pinned) × (before.pin ≡ Some pinned))

-- by what was found
abbrev pub proposed_by : ℕ → RootWord → Proposed
proposed_by root (word.Writable other) = if other == root then Stands else Misses
proposed_by root w = Meets w

abbrev pub has_proposed : Step Call → Me Call View → ℕ → Me Call View → Type 0
has_proposed step before found after =
    ((handle root slot : ℕ) → IsToOffer before.0 handle root slot → HasProposed before.0 handle slot (proposed_by root (root_of found)) after.0) × IsSound (words_of before.0.sizes) after.0
    × (after.1 ≡ before.1)

-- ---- an offer that was met

-- an offer in this slot stands, or stood, where the operation is to offer
abbrev pub MeetsOffer : View → ℕ → Type 0
MeetsOffer v slot = (offer : Descriptor) × (p : IsAt v (act.Offer offer)) × HasOffer v.sizes v.account v.pin (handle_of p.operation.call) slot

-- where it is undecided, the load of its first word is the step by which the operation misses
abbrev pub YieldedAs : Bool → View → ℕ → ℕ → View → Type 0
YieldedAs true before word found after = HasMissed before after
YieldedAs false before word found after = HasSeen before word found after

abbrev pub has_yielded : Step Call → Me Call View → ℕ → Me Call View → Type 0
has_yielded step before found after = YieldedAs (found == undecided) before.0 step.word found after.0 × IsSound (words_of before.0.sizes) after.0 × (after.1 ≡ before.1)

abbrev pub HasYielded : View → ℕ → Fate → View → Type 0
HasYielded before name fate.Undecided after = HasMissed before after
HasYielded before name fate.CarriedOut after = HasSeenSettled before name carried_out after
HasYielded before name fate.TakenBack after = HasSeenSettled before name taken_back after

-- the way was made free for it, or another offer stands there
abbrev pub HasMadeWay : View → Bool → View → Type 0
HasMadeWay before true after = HasMissed before after
HasMadeWay before false after = Saw before after

-- ---- in the end

abbrev pub HasOfferedOrMissed : View → ℕ → Bool → View → Type 0
HasOfferedOrMissed before slot true after = HasOffered before slot after
HasOfferedOrMissed before slot false after = HasMissed before after

-- within a number of tries: or it has seen that something else stands there, and is where it was
abbrev pub HasOfferedWithin : View → ℕ → Option Bool → View → Type 0
HasOfferedWithin before slot (Some stands) after = HasOfferedOrMissed before slot stands after
HasOfferedWithin before slot None after = Saw before after
