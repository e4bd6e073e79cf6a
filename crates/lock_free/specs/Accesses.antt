-- What a seat is told of a handle: whether it is open, and whether its map may be changed.
use Rattle.std.specs.Prelude.{◌≡◌, ℕ, List, None, Some, Result, Ok, Err}
use Rattle.std.specs.FinMap as map
use Rattle.history.specs.declared.calls.Access.{Access}
use Rattle.history.specs.declared.calls.Access.TheVariants.{Writable, ReadOnly}
use Rattle.history.specs.declared.calls.Call.TheVariants.{Count}
use Rattle.history.specs.declared.events.Event.{Event}
use Rattle.history.specs.declared.replies.Reply.TheVariants as reply
use Rattle.history.specs.Orders.{Explains}
use Rattle.history.specs.Worlds.{HandleMap, KeyMap}
use Rattle.machine_model.specs.Beneath.ctrie_base.specs.Hashes.{hash_of}
use Rattle.lock_free.specs.declared.call_errors.CallError.{CallError}
use Rattle.lock_free.specs.declared.call_errors.CallError.TheVariants as error
use Rattle.lock_free.specs.declared.calling.Denial.TheVariants as denial
use Rattle.lock_free.specs.declared.rules.View.{View}
use Rattle.lock_free.specs.Answering.{HasAnswered}
use Rattle.lock_free.specs.SeatCalls.{WasDenied}
use Rattle.lock_free.specs.Telling.{history_of, GoesOn}

-- At some time between these two the handle was open and allowed this: an order explains all that had been called by then, and leads to a world in which the handle names
-- such a map.
pub record WasOpen (hash : ℕ → ℕ) (handle : ℕ) (access : Access) (before after : List Event) : Type 0 where
  pub then : List Event
  pub since : GoesOn before then
  pub until : GoesOn then after
  pub order : List ℕ
  pub world : HandleMap
  pub explains : Explains hash then order world
  pub pairs : KeyMap
  pub names : map.get world handle ≡ Some (record { access = access; pairs = pairs })

-- as the seat has seen it
abbrev pub WasOpenAt : View → ℕ → Access → View → Type 0
WasOpenAt before handle access after = WasOpen (hash_of before.sizes.hash) handle access (history_of before.sizes before.account) (history_of before.sizes after.account)

-- what a count is denied for tells of its handle
abbrev pub access_denied : CallError → Result Access CallError
access_denied error.NotReadOnly = Ok Writable
access_denied why = Err why

-- A count was denied since the handle may be written; or it began, and was given up at once: it stands in the history as refused. Or the handle isn't open, or is only being
-- opened: for no other reason is it refused.
abbrev pub IsToldAccess : View → ℕ → Result Access CallError → View → Type 0
IsToldAccess before handle (Ok Writable) after = WasDenied before (Count handle) denial.NotReadOnly after × WasOpenAt before handle Writable after
IsToldAccess before handle (Ok ReadOnly) after = HasAnswered before (Count handle) None reply.NoSlots after × WasOpenAt before handle ReadOnly after
IsToldAccess before handle (Err why) after = (why ≡ error.NoHandle) × WasDenied before (Count handle) denial.NoHandle after
