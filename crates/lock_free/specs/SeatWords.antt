-- What stores to a seat's own word ask and tell.
use Rattle.history.specs.declared.calls.Call.{Call}
use Rattle.history.specs.declared.events.Event.TheVariants as event
use Rattle.history.specs.declared.replies.Reply.{Reply}
use Rattle.std.specs.Prelude.{◌≡◌, ◌+◌, ◌==◌, ◌||◌, ℕ, Bool, true, false, List, [], ◌∷◌, ◌++◌, Option, Some, None, if◌then◌else◌}
use mathlib.Core.Option.{some}
use Rattle.atomic_table.specs.Table.{Me, Step}
use Rattle.trie_words.specs.Codes.{pin_of}
use Rattle.trie_words.specs.declared.pins.Pin.{Pin}
use Rattle.machine_model.specs.declared.actions.Action.TheVariants as act
use Rattle.machine_model.specs.declared.operations.Operation.{Operation}
use Rattle.machine_model.specs.States.{operation_of}
use Rattle.lock_free.specs.declared.accounts.Account.{Account}
use Rattle.lock_free.specs.declared.rules.Closing.{Closing}
use Rattle.lock_free.specs.declared.rules.Pinned.{Pinned}
use Rattle.lock_free.specs.declared.rules.View.{View}
use Rattle.lock_free.specs.Accounts.{gone_on, running}
use Rattle.lock_free.specs.Loading.{now, IsAt, IsSound, Runs, Waited}
use Rattle.lock_free.specs.Places.{pin_word, words_of}
use Rattle.lock_free.specs.Telling.{history_of}

-- the seat runs nothing
abbrev pub IsIdle : View → Type 0
IsIdle v = operation_of (now v) v.actor ≡ None

-- ---- the exchange by which a seat pins itself for a call

-- who wasn't pinned held nothing itself
abbrev pub pinned_for : View → Pinned → Call → View
pinned_for v pinned call = record v { pin = Some pinned; asks = Some call; entered = None; owed = [] }

abbrev pub HasPinned : Me Call View → Pin → Call → Me Call View → Type 0
HasPinned before pin call after = (pinned : Pinned) × (pinned.pin ≡ pin) × (after ≡ (pinned_for before.0 pinned call, before.1))

abbrev pub has_pinned : Step Call → Me Call View → ℕ → Me Call View → Type 0
has_pinned step before found after = (pin : Pin) (call : Call) → pin_of step.second ≡ Some pin → step.said ≡ some call → HasPinned before pin call after

-- ---- the store of 0 by which it goes out of one that it hasn't begun

-- what it held itself is counted still, and held by nobody
abbrev pub unpinned : View → View
unpinned v = record v { pin = None; entered = None; owed = [] }

abbrev pub has_unpinned : Step Call → Me Call View → ℕ → Me Call View → Type 0
has_unpinned step before found after = after ≡ (unpinned before.0, before.1)

-- ---- the store of 0 by which an operation ends

-- its operation is to end with some answer
abbrev pub IsAtEnd : View → Type 0
IsAtEnd v = (answer : Reply) × IsAt v (act.End answer)

-- the number that it has reserved is left where the operation hasn't opened it
abbrev pub left_by : Bool → Option ℕ → Option ℕ
left_by true number = None
left_by false number = number

-- what the seat held itself is counted still, and held by nobody
abbrev pub once_ended : View → Bool → Account → View
once_ended v mark account = record v { account = gone_on v.actor account; pin = None; entered = None; opens = left_by mark v.opens; opening = None; owed = [] }

-- it has ended with this answer, and so the history says
pub record HasEnded (before : View) (answer : Reply) (after : View) : Type 0 where
  pub account : Account
  pub waited : Waited before account
  pub operation : Operation
  pub runs : running before.sizes account before.actor operation
  pub its : (o : Operation) → Runs before o → operation ≡ record o { is_marked = operation.is_marked }
  pub after_is : after ≡ once_ended before operation.is_marked account
  pub idle : IsIdle after
  pub told : history_of after.sizes after.account ≡ history_of before.sizes account ++ event.End operation.id answer ∷ []

abbrev pub has_ended : Step Call → Me Call View → ℕ → Me Call View → Type 0
has_ended step before found after =
    ((answer : Reply) → IsAt before.0 (act.End answer) → HasEnded before.0 answer after.0) × IsSound (words_of before.0.sizes) after.0 × (after.1 ≡ before.1)

-- ---- a seat that would close a handle looks at the pins of all seats

-- a seat with this pin has no call on the handle
abbrev pub is_out : ℕ → Option Pin → Bool
is_out handle None = true
is_out handle (Some pin) = if pin.handle == handle then false else true

-- so many have none on it
abbrev pub closes : ℕ → ℕ → Closing
closes handle looked = record { handle = handle; looked = looked }

-- it has marked the handle last, all glances have fallen since, and then it has looked at so many
abbrev pub WouldClose : View → ℕ → ℕ → Type 0
WouldClose v handle looked = (others : List Closing) × (v.closing ≡ closes handle looked ∷ others) × (v.passed.cleared ≡ true)

abbrev pub passing : View → ℕ → ℕ → View
passing v handle looked = record v { closing = closes handle (looked + 1) ∷ v.closing }

abbrev pub HasPassed : View → ℕ → ℕ → Bool → View → Type 0
HasPassed before handle looked out after = (out ≡ true → after ≡ passing before handle looked) × (out ≡ false → after ≡ before)

-- the next one has none, or is the seat itself
abbrev pub is_passed : View → ℕ → ℕ → ℕ → Bool
is_passed v handle looked found = is_out handle (pin_of found) || (looked + 1 == v.actor)

abbrev pub has_passed : Step Call → Me Call View → ℕ → Me Call View → Type 0
has_passed step before found after =
    ((handle looked : ℕ) → WouldClose before.0 handle looked → step.word ≡ pin_word (looked + 1) → HasPassed before.0 handle looked (is_passed before.0 handle looked found) after.0)
    × (after.1 ≡ before.1)
