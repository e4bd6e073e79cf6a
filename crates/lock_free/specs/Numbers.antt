-- The numbers of handles that calls open: a seat reserves one, names the offer that is to open it, and gives it back where none did.
use Rattle.history.specs.declared.calls.Call.{Call}
use Rattle.std.specs.Prelude.{◌≡◌, ◌==◌, ◌<◌, ℕ, Bool, true, false, Option, Some, None}
use Rattle.atomic_table.specs.Table.{Me, Step}
use Rattle.trie_words.specs.Codes.{root_of}
use Rattle.trie_words.specs.declared.roots.RootWord.TheVariants as word
use Rattle.machine_model.specs.declared.copying.CopyLine.TheVariants as copy
use Rattle.machine_model.specs.declared.lines.Line.TheVariants as line
use Rattle.machine_model.specs.declared.operations.Operation.{Operation}
use Rattle.machine_model.specs.declared.roots.Descriptor.{Descriptor}
use Rattle.lock_free.specs.declared.rules.View.{View}
use Rattle.lock_free.specs.Loading.{Runs}
use Rattle.lock_free.specs.Places.{root_word}
use Rattle.lock_free.specs.Rules.{IsFree}

-- ---- a number is reserved

abbrev pub reserving : View → ℕ → View
reserving v number = record v { opens = Some number; opening = None }

abbrev pub HasTried : View → ℕ → Bool → View → Type 0
HasTried before number made after = (made ≡ true → after ≡ reserving before number) × (made ≡ false → after ≡ before)

abbrev pub has_reserved : Step Call → Me Call View → ℕ → Me Call View → Type 0
has_reserved step before found after = ((number : ℕ) → step.word ≡ root_word number → HasTried before.0 number (found == step.first) after.0) × (after.1 ≡ before.1)

-- the seat has this number for itself, or nothing has changed
abbrev pub HasReserved : View → Option ℕ → View → Type 0
HasReserved before (Some number) after = (number < 256) × (after ≡ reserving before number)
HasReserved before None after = after ≡ before

-- ---- its word names the offer

-- the operation is about to offer what is to open the number, in a slot that is free for the seat
pub record IsNaming (v : View) (number slot : ℕ) : Type 0 where
  pub reserved : v.opens ≡ Some number
  pub free : IsFree v 1 slot
  pub operation : Operation
  pub runs : Runs v operation
  pub offer : Descriptor
  pub on : operation.line ≡ line.Copy (copy.Offer offer)

abbrev pub naming : View → ℕ → View
naming v slot = record v { opening = Some slot }

abbrev pub has_named : Step Call → Me Call View → ℕ → Me Call View → Type 0
has_named step before found after = (slot : ℕ) → root_of step.first ≡ word.Opening slot → after ≡ (naming before.0 slot, before.1)

-- ---- it is given back

abbrev pub without_number : View → View
without_number v = record v { opens = None; opening = None }

abbrev pub has_given_back : Step Call → Me Call View → ℕ → Me Call View → Type 0
has_given_back step before found after = after ≡ (without_number before.0, before.1)
