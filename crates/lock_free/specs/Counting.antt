-- A reference more is counted, or one less.
use Rattle.history.specs.declared.calls.Call.{Call}
use Rattle.std.specs.Prelude.{◌≡◌, ◌≢◌, ◌==◌, ℕ, Bool, true, false, ◌∷◌, Contains}
use Rattle.atomic_table.specs.Table.{Me, Step}
use Rattle.machine_model.specs.Beneath.slot_arena.specs.declared.nodes.Slot.{Slot}
use Rattle.machine_model.specs.Beneath.slot_arena.specs.declared.refs.Ref.{Ref}
use Rattle.machine_model.specs.declared.operations.Operation.{Operation}
use Rattle.lock_free.specs.declared.counting.Lowered.{Lowered}
use Rattle.lock_free.specs.declared.counting.Lowered.TheVariants as lowered
use Rattle.lock_free.specs.declared.counting.Raised.{Raised}
use Rattle.lock_free.specs.declared.counting.Raised.TheVariants as raised
use Rattle.lock_free.specs.declared.rules.View.{View}
use Rattle.lock_free.specs.Accounts.{place_of, running}
use Rattle.lock_free.specs.Counts.{references_in, without_one}
use Rattle.lock_free.specs.Loading.{Holds, IsUsed}
use Rattle.lock_free.specs.Nodes.{class_of}
use Rattle.lock_free.specs.Owing.{owing}
use Rattle.lock_free.specs.Places.{count_word}
use Rattle.lock_free.specs.Reclaiming.{HasRetiredIt}

-- the node is in this slot of this class
pub record IsInSlot (v : View) (k : Ref) (class name : ℕ) : Type 0 where
  pub slot : Slot
  pub used : IsUsed v k slot
  pub class_is : class_of slot.node ≡ class
  pub place : place_of v.account k ≡ name

-- ---- one more

-- its operation has the node at hand
abbrev pub HasAtHand : View → Ref → ℕ → ℕ → Type 0
HasAtHand v k class name = Holds v k × IsInSlot v k class name

abbrev pub has_raised : Step Call → Me Call View → ℕ → Me Call View → Type 0
has_raised step before found after =
    (k : Ref) (class name : ℕ) → HasAtHand before.0 k class name → step.word ≡ count_word before.0.sizes class name →
    (found ≡ step.first → after ≡ (owing before.0 (k ∷ before.0.owed), before.1)) × (found ≢ step.first → after ≡ before)

abbrev pub HasRaised : View → Ref → Raised → View → Type 0
HasRaised before k raised.Done after = after ≡ owing before (k ∷ before.owed)
HasRaised before k raised.Gone after = after ≡ before
HasRaised before k raised.Full after = after ≡ before
HasRaised before k raised.Lost after = after ≡ before

-- ---- one less

-- the seat holds a reference to it, and it is no node that its operation has just made
abbrev pub Owes : View → Ref → ℕ → ℕ → Type 0
Owes v k class name = Contains v.owed k × IsInSlot v k class name × ((operation : Operation) → running v.sizes v.account v.actor operation → ¬ Contains operation.private k)

abbrev pub lowering : View → Ref → View
lowering v k = owing v (without_one k v.owed)

-- it was the last one: no root leads there any more, and the seat has retired the slot
abbrev pub HasLoweredBy : View → Ref → Bool → View → Type 0
HasLoweredBy before k last after = (last ≡ true → HasRetiredIt before k true (lowering before k) after) × (last ≡ false → after ≡ lowering before k)

abbrev pub has_lowered : Step Call → Me Call View → ℕ → Me Call View → Type 0
has_lowered step before found after =
    ((k : Ref) (class name : ℕ) → Owes before.0 k class name → step.word ≡ count_word before.0.sizes class name → HasLoweredBy before.0 k (references_in found == 1) after.0) × (after.1 ≡ before.1)

abbrev pub is_last : Lowered → Bool
is_last lowered.Last = true
is_last lowered.Done = false
