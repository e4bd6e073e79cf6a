-- The seat's operation finds what came of its own offer: what that gives is the seat's.
use Rattle.history.specs.declared.calls.Call.{Call}
use Rattle.std.specs.Prelude.{◌≡◌, ◌≢◌, ◌==◌, ◌<◌, ◌+◌, ◌*◌, ◌&&◌, ℕ, Bool, true, false, not, List, [], ◌∷◌, Contains, count_by, length, map}
use Rattle.atomic_table.specs.Table.{Me, Step}
use Rattle.machine_model.specs.Beneath.slot_arena.specs.declared.refs.Ref.{Ref}
use Rattle.machine_model.specs.Beneath.slot_arena.specs.Heaps.{refs_of_option}
use Rattle.machine_model.specs.Beneath.slot_arena.specs.Refs.{slot_of}
use Rattle.machine_model.specs.declared.actions.Action.TheVariants as act
use Rattle.machine_model.specs.declared.copying.CopyLine.TheVariants as copy
use Rattle.machine_model.specs.declared.lines.Line.TheVariants as line
use Rattle.machine_model.specs.declared.roots.Complete.{Complete}
use Rattle.machine_model.specs.declared.roots.Descriptor.{Descriptor}
use Rattle.machine_model.specs.States.{State}
use Rattle.proof_claims.specs.Left.{is_freeze, names, once}
use Rattle.lock_free.specs.declared.accounts.Account.{Account}
use Rattle.lock_free.specs.declared.rules.Retired.{Retired}
use Rattle.lock_free.specs.declared.rules.View.{View}
use Rattle.lock_free.specs.Accounts.{gone_on, place_of, state_of}
use Rattle.lock_free.specs.Counts.{how_often}
use Rattle.lock_free.specs.Loading.{seen, IsAt, IsSound, Moment, Waited}
use Rattle.lock_free.specs.OfferWords.{IsAtComplete, TellsCarried, TookUnmarked, carried_by, outcome_by}
use Rattle.lock_free.specs.Owing.{owes_then, owing}
use Rattle.lock_free.specs.Places.{words_of}
use Rattle.lock_free.specs.Reclaiming.{retiring_all}
use Rattle.lock_free.specs.Roots.{IsItsTry}

-- the operation is at the last step of the COMPLETE of its own offer, which is in this slot
pub record IsConcluding (v : View) (slot : ℕ) (expected : Bool) : Type 0 where
  pub at : IsAtComplete v slot expected
  pub completing : Complete
  pub own : at.acts.operation.line ≡ line.Copy (copy.Complete completing)
  pub its_try : IsItsTry at.acts.operation at.its.offer

-- the roots that were made for the offer
abbrev pub made_for : Descriptor → List Ref
made_for offer = offer.successor ∷ refs_of_option offer.second

-- So often the node is given: where the offer was carried out the old root is, once, but for a freeze; where it was taken back, what the roots name that were made for it.
abbrev pub times_given : Bool → State → Descriptor → Ref → ℕ
times_given true state offer k = once ((offer.root == k) && not (is_freeze offer.opens offer.second))
times_given false state offer k = count_by (λ (x : Ref). names state x k) (made_for offer)

-- Where it was taken back the slots of the roots that were made for it are retired: no handle holds these any more.
abbrev pub roots_left : Bool → Descriptor → List Ref
roots_left true offer = []
roots_left false offer = made_for offer

abbrev pub root_retired : Account → ℕ → Ref → Retired
root_retired account stamp r = record { class = 0; name = place_of account r; number = slot_of r; stamp = stamp; account = account; deep = false }

-- each of these nodes was made, in a slot of the table
abbrev pub ArePlaced : Account → List Ref → Type 0
ArePlaced account rs = (r : Ref) → Contains rs r → (slot_of r < length account.names) × (place_of account r ≢ 0)

-- the step is taken, in this epoch
abbrev pub concluded : View → Account → ℕ → List Ref → View
concluded v account epoch roots =
    retiring_all (owing (seen v (gone_on v.actor account)) (owes_then v account)) (map (root_retired (gone_on v.actor account) epoch) roots)

pub record HasConcluded (before : View) (carried : Bool) (after : View) : Type 0 where
  pub account : Account
  pub epoch : ℕ
  pub waited : Waited before account
  pub after_is : (offer : Descriptor) (main : Ref) → IsAt before (act.Complete offer main) → after ≡ concluded before account epoch (roots_left carried offer)
  pub took : TookUnmarked before account after
  pub tells : TellsCarried before account carried
  pub made : (offer : Descriptor) (main : Ref) → IsAt before (act.Complete offer main) → ArePlaced account (roots_left carried offer)
  pub given : (offer : Descriptor) (main k : Ref) → IsAt before (act.Complete offer main) →
      how_often k after.owed ≡ how_often k before.owed + times_given carried (state_of before.sizes account) offer k

-- the exchange found this, and would write that
pub record IsConcluded (before : View) (offer : Descriptor) (carried : Bool) (word found : ℕ) (after : View) : Type 0 where
  pub moment : Moment before word found
  pub epoch : ℕ
  pub is : after ≡ concluded before moment.kept.account epoch (roots_left carried offer)
  pub made : ArePlaced moment.kept.account (roots_left carried offer)
  pub took : TookUnmarked before moment.kept.account after

abbrev pub has_concluded : Step Call → Me Call View → ℕ → Me Call View → Type 0
has_concluded step before found after =
    ((slot : ℕ) (expected : Bool) (c : IsConcluding before.0 slot expected) → step.word ≡ 2 * slot → step.second ≡ outcome_by expected →
    IsConcluded before.0 c.at.its.offer (carried_by found expected) step.word found after.0)
    × IsSound (words_of before.0.sizes) after.0 × (after.1 ≡ before.1)
