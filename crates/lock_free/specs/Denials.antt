-- What it tells of a handle that a call on it was denied, in the words of histories.
use Rattle.std.specs.Prelude.{◌≡◌, ◌≤◌, ◌⊎◌, ℕ, map, Contains, List, Option, None, Some, Err}
use Rattle.std.specs.FinMap as finite
use Rattle.history.specs.declared.calls.Access.TheVariants.{Writable, ReadOnly}
use Rattle.history.specs.declared.calls.Call.{Call}
use Rattle.history.specs.declared.events.Event.{Event}
use Rattle.history.specs.Orders.{Explains}
use Rattle.history.specs.Worlds.{HandleMap}
use Rattle.machine_model.specs.Beneath.ctrie_base.specs.Hashes.{hash_of}
use Rattle.machine_model.specs.Calls.{handle_of}
use Rattle.machine_model.specs.Machine.{AreBounds}
use Rattle.machine_model.specs.States.{handle_limit}
use Rattle.lock_free.specs.declared.accounts.Account.{Account}
use Rattle.lock_free.specs.declared.accounts.Known.{Known}
use Rattle.lock_free.specs.declared.calling.Denial.{Denial}
use Rattle.lock_free.specs.declared.calling.Denial.TheVariants as denial
use Rattle.lock_free.specs.declared.rules.View.{View}
use Rattle.lock_free.specs.Accesses.{WasOpenAt}
use Rattle.lock_free.specs.Accounts.{bounds_for}
use Rattle.lock_free.specs.Calling.{HasCalled}
use Rattle.lock_free.specs.Closing.{FoundClosed}
use Rattle.lock_free.specs.SeatCalls.{IsNoHandle}
use Rattle.lock_free.specs.Telling.{history_of, GoesOn}

-- At some time between these two the handle wasn't open: an order explains all that had been called by then, and leads to a world in which the handle names nothing.
pub record WasNotOpen (hash : ℕ → ℕ) (handle : ℕ) (before after : List Event) : Type 0 where
  pub then : List Event
  pub since : GoesOn before then
  pub until : GoesOn then after
  pub order : List ℕ
  pub world : HandleMap
  pub explains : Explains hash then order world
  pub none : finite.get world handle ≡ None

-- as the seat has seen it
abbrev pub WasNotOpenAt : View → ℕ → View → Type 0
WasNotOpenAt before handle after = WasNotOpen (hash_of before.sizes.hash) handle (history_of before.sizes before.account) (history_of before.sizes after.account)

-- what each offer opens, of all that have come to stand
abbrev pub offered_by : Account → List (Option ℕ)
offered_by account = map (λ (k : Known). k.offer.opens) account.offered

-- There is no such number, or the handle wasn't open, or an offer opens it, which its word may name still; or it was for readers; or it could be written.
abbrev pub TellsDenial : View → ℕ → Denial → View → Type 0
TellsDenial before handle denial.NoHandle after = (handle_limit ≤ handle) ⊎ WasNotOpenAt before handle after ⊎ Contains (offered_by after.account) (Some handle)
TellsDenial before handle denial.ReadOnly after = WasOpenAt before handle ReadOnly after
TellsDenial before handle denial.NotReadOnly after = WasOpenAt before handle Writable after

-- ---- laws

-- A call that is denied tells so.
abbrev pub DenialsTellHandles : Type 0
DenialsTellHandles =
    (before after : View) (call : Call) (why : Denial) → AreBounds (bounds_for before.sizes before.account.steps) → IsNoHandle call why ⊎ HasCalled before call (Err why) after →
    TellsDenial before (handle_of call) why after

-- A close that finds the handle closed tells so too.
abbrev pub ClosesTellHandles : Type 0
ClosesTellHandles =
    (before after : View) (handle : ℕ) → AreBounds (bounds_for before.sizes before.account.steps) → FoundClosed before handle after → WasNotOpenAt before handle after
