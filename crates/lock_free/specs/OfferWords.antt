-- What accesses of offers' first words ask and tell.
use Rattle.history.specs.declared.calls.Call.{Call}
use Rattle.std.specs.Prelude.{◌≡◌, ◌==◌, ◌||◌, ℕ, Bool, if◌then◌else◌}
use Rattle.atomic_table.specs.Table.{Me, Step}
use Rattle.machine_model.specs.Beneath.slot_arena.specs.declared.refs.Ref.{Ref}
use Rattle.machine_model.specs.declared.actions.Action.{Action}
use Rattle.machine_model.specs.declared.actions.Action.TheVariants as act
use Rattle.machine_model.specs.declared.operations.Operation.{Operation}
use Rattle.machine_model.specs.declared.roots.Descriptor.{Descriptor}
use Rattle.machine_model.specs.Acting.{operation_after}
use Rattle.machine_model.specs.Calls.{handle_of}
use Rattle.machine_model.specs.States.{word_at}
use Rattle.machine_model.specs.Swapping.{stands_in, is_carried_out}
use Rattle.lock_free.specs.declared.accounts.Account.{Account}
use Rattle.lock_free.specs.declared.accounts.Known.{Known}
use Rattle.lock_free.specs.declared.rules.View.{View}
use Rattle.lock_free.specs.Accounts.{running, gone_on}
use Rattle.lock_free.specs.Fates.{IsUnsettled}
use Rattle.lock_free.specs.Loading.{now, seen, IsAt, Went, Moment, Waited, Runs, IsSound}
use Rattle.lock_free.specs.Parting.{IsMet}
use Rattle.lock_free.specs.Places.{words_of}
use Rattle.lock_free.specs.Roots.{IsItsTry, undecided, carried_out, taken_back}

-- the seat knows the offer in this slot, which was made on its operation's handle, and the operation is to do that to it
pub record IsAtOffer (v : View) (does : Descriptor → Action) (slot : ℕ) : Type 0 where
  pub its : Known
  pub here : IsMet v.account v.pin its
  pub place : its.slot ≡ slot
  pub acts : IsAt v (does its.offer)
  pub on : its.handle ≡ handle_of acts.operation.call

-- ---- ABORT

abbrev pub IsAtAbort : View → ℕ → Type 0
IsAtAbort v slot = IsAtOffer v act.Abort slot

-- whether it stood still
abbrev pub HasAborted : View → Bool → View → Type 0
HasAborted before stood after =
    (w : Went before after) × ((offer : Descriptor) (p : IsAt before (act.Abort offer)) → stands_in (word_at (now (seen before w.account)) (handle_of p.operation.call)) offer ≡ stood)

-- ---- COMPLETE

-- what it settles to: with the expected main node the offer is carried out
abbrev pub outcome_by : Bool → ℕ
outcome_by expected = if expected then carried_out else taken_back

-- whether it is carried out by now, by what was found
abbrev pub carried_by : ℕ → Bool → Bool
carried_by found expected = if found == undecided then expected else (found == carried_out)

-- as long as the offer isn't settled the main node that it has read is the expected one, or isn't
pub record IsAtComplete (v : View) (slot : ℕ) (expected : Bool) : Type 0 where
  pub its : Known
  pub main : Ref
  pub here : IsMet v.account v.pin its
  pub place : its.slot ≡ slot
  pub acts : IsAt v (act.Complete its.offer main)
  pub on : its.handle ≡ handle_of acts.operation.call
  pub test : IsUnsettled v.sizes v.account its → (main == its.offer.expected) ≡ expected

-- the operation has taken its step, but for its mark
abbrev pub TookUnmarked : View → Account → View → Type 0
TookUnmarked before account after = (operation : Operation) → running before.sizes account before.actor operation → Runs after (operation_after (now (seen before account)) operation)

-- where the offer was that of the operation's try, whether it is carried out by now
abbrev pub TellsCarried : View → Account → Bool → Type 0
TellsCarried before account carried =
    (offer : Descriptor) (main : Ref) (p : IsAt before (act.Complete offer main)) (operation : Operation) → running before.sizes account before.actor operation → IsItsTry operation offer →
    (is_carried_out (word_at (now (seen before account)) (handle_of operation.call)) offer main || operation.is_marked) ≡ carried

abbrev pub HasCompleted : View → Bool → View → Type 0
HasCompleted before carried after =
    (account : Account) × Waited before account × (after ≡ seen before (gone_on before.actor account)) × TookUnmarked before account after × TellsCarried before account carried

abbrev pub has_completed : Step Call → Me Call View → ℕ → Me Call View → Type 0
has_completed step before found after =
    ((m : Moment before.0 step.word found) × (after.0 ≡ seen before.0 (gone_on before.0.actor m.kept.account)) × TookUnmarked before.0 m.kept.account after.0) × IsSound (words_of before.0.sizes)
    after.0 × (after.1 ≡ before.1)
