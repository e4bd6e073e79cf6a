-- An offer comes to stand in the root word of a handle: what a seat has written of it before, what the definition's step leaves, and what the seat knows then.
use Rattle.std.specs.Prelude.{◌≡◌, ◌≢◌, ◌⊎◌, ℕ, ◌+◌, ◌*◌, true, false, is_some, List, [], ◌∷◌, ◌++◌, Contains, Some, None, slice_index_or}
use Rattle.trie_words.specs.Codes.{pair_code}
use Rattle.history.specs.declared.calls.Access.TheVariants.{Writable}
use Rattle.machine_model.specs.Beneath.slot_arena.specs.declared.refs.Ref.{Ref}
use Rattle.machine_model.specs.declared.roots.Descriptor.{Descriptor}
use Rattle.machine_model.specs.declared.roots.RootWord.TheVariants.{Plain, Offer}
use Rattle.machine_model.specs.declared.copying.CopyLine.TheVariants as copy
use Rattle.machine_model.specs.declared.lines.Line.TheVariants as line
use Rattle.machine_model.specs.declared.operations.Operation.{Operation}
use Rattle.machine_model.specs.declared.roots.Complete.{Complete}
use Rattle.machine_model.specs.declared.steps.Step.TheVariants as step
use Rattle.machine_model.specs.Acting.{operation_after}
use Rattle.machine_model.specs.Calls.{handle_of}
use Rattle.machine_model.specs.Machine.{AreBounds}
use Rattle.machine_model.specs.States.{State, operation_of, root_at}
use Rattle.lock_free.specs.Owing.{owes_then}
use Rattle.lock_free.specs.declared.accounts.Account.{Account}
use Rattle.lock_free.specs.declared.accounts.Known.{Known}
use Rattle.lock_free.specs.declared.accounts.OwnOffer.{OwnOffer}
use Rattle.lock_free.specs.declared.rules.View.{View}
use Rattle.lock_free.specs.declared.sizes.Sizes.{Sizes}
use Rattle.lock_free.specs.Accounts.{bounds_for, state_of, place_of, HasStood, MayBeFound}
use Rattle.lock_free.specs.Live.{IsLive}
use Rattle.lock_free.specs.Making.{with_slots}
use Rattle.lock_free.specs.Nodes.{IsAhead}
use Rattle.lock_free.specs.Roots.{IsItsTry, open_with, second_of, undecided}

-- no node changes, and nothing more is live
pub record LeavesNodes (sizes : Sizes) (account after : Account) : Type 0 where
  pub bounds : AreBounds (bounds_for sizes after.steps)
  pub nodes : (k : ℕ) → slice_index_or (state_of sizes after).heap.slots k None ≡ slice_index_or (state_of sizes account).heap.slots k None
  pub births : (state_of sizes after).heap.births ≡ (state_of sizes account).heap.births
  pub live : (r : Ref) → IsLive (state_of sizes after) r → IsLive (state_of sizes account) r
  pub reached : (r : Ref) → MayBeFound sizes after r → MayBeFound sizes account r ⊎ IsLive (state_of sizes account) r
  pub generations : (state_of sizes after).generations ≡ (state_of sizes account).generations
  pub aheads : (i a f : Ref) → IsAhead (state_of sizes after) i a f → IsAhead (state_of sizes account) i a f
  pub still : (i a f : Ref) → IsAhead (state_of sizes account) i a f → IsAhead (state_of sizes after) i a f

-- ---- what the seat has written

pub record DraftsOffer (account : Account) (drafts : List (ℕ × ℕ)) (slot : ℕ) (offer : Descriptor) : Type 0 where
  pub first : Contains drafts (2 * slot, undecided)
  pub olds : Contains drafts (2 * slot + 1, pair_code (record { low = place_of account offer.root; high = place_of account offer.expected }))
  pub news : Contains drafts (2 * slot + 2, pair_code (record { low = place_of account offer.successor; high = second_of account offer.second }))

-- ---- what the definition's step leaves

-- the words of its handle and of that which it opens name it
abbrev pub own_offer : Known → OwnOffer
own_offer known = record { known = known; is_named = true; is_opening = is_some known.offer.opens }

abbrev pub known_at : ℕ → ℕ → ℕ → Descriptor → Known
known_at maker slot handle offer = record { slot = slot; handle = handle; maker = maker; offer = offer }

abbrev pub offered_at : ℕ → ℕ → ℕ → Descriptor → Account → Account
offered_at actor slot handle offer account =
    record account {
      steps = account.steps ++ step.Go actor ∷ [];
      offered = known_at actor slot handle offer ∷ account.offered;
      offers = known_at actor slot handle offer ∷ account.offers;
    }

-- the actor's operation offers this, where its root still stands
pub record Offers (sizes : Sizes) (account : Account) (actor slot : ℕ) (operation : Operation) (offer : Descriptor) : Type 0 where
  pub leaves : LeavesNodes sizes account (offered_at actor slot (handle_of operation.call) offer account)
  pub stood : root_at (state_of sizes account) (handle_of operation.call) ≡ open_with Writable (Plain offer.root)
  pub stands : root_at (state_of sizes (offered_at actor slot (handle_of operation.call) offer account)) (handle_of operation.call) ≡ open_with Writable (Offer offer)
  pub roots : (handle : ℕ) → handle ≢ handle_of operation.call → root_at (state_of sizes (offered_at actor slot (handle_of operation.call) offer account)) handle ≡ root_at (state_of sizes account)
      handle
  pub others : (a : ℕ) → a ≢ actor → operation_of (state_of sizes (offered_at actor slot (handle_of operation.call) offer account)) a ≡ operation_of (state_of sizes account) a
  pub own : operation_of (state_of sizes (offered_at actor slot (handle_of operation.call) offer account)) actor ≡ Some (operation_after (state_of sizes account) operation)
  -- for the handle that the operation has reserved
  pub opens : offer.opens ≡ operation.opens
  -- by a new try of this operation alone, none of which was carried out
  pub its_try : IsItsTry (operation_after (state_of sizes account) operation) offer
  pub fresh : (k : Known) → Contains account.offers k → IsItsTry (operation_after (state_of sizes account) operation) k.offer → ⊥
  pub never : HasStood sizes account offer → ⊥
  pub alone : (a : ℕ) (o : Operation) → a ≢ actor → operation_of (state_of sizes account) a ≡ Some o → o.id ≢ offer.operation
  pub unmarked : operation.is_marked ≡ false
  pub still_unmarked : (operation_after (state_of sizes account) operation).is_marked ≡ false

-- ---- who has offered what stands

-- the operation of an offer that stands runs, unmarked, completes it, and has reserved what it opens
pub record HasOwner (state : State) (offer : Descriptor) : Type 0 where
  pub actor : ℕ
  pub operation : Operation
  pub runs : operation_of state actor ≡ Some operation
  pub opens : operation.opens ≡ offer.opens
  pub unmarked : operation.is_marked ≡ false
  pub completing : Complete
  pub completes : operation.line ≡ line.Copy (copy.Complete completing)

-- ---- the seat then

abbrev pub offered_by : View → ℕ → ℕ → List ℕ → Descriptor → Account → View
offered_by v slot handle rest offer account = record v {
  account = offered_at v.actor slot handle offer account;
  pool = with_slots v.pool 1 rest;
  opening = None;
  offer = Some (own_offer (known_at v.actor slot handle offer));
  drafts = [];
  owed =
      owes_then v account;
}
