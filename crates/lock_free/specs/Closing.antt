-- What closing a handle comes to.
use Rattle.history.specs.declared.calls.Call.{Call}
use Rattle.std.specs.Prelude.{◌≡◌, ◌≤◌, ℕ, Bool, true, false, List, [], ◌∷◌, None}
use Rattle.machine_model.specs.States.{handle_limit, root_at}
use Rattle.lock_free.specs.declared.closing.Shut.{Shut}
use Rattle.lock_free.specs.declared.closing.Shut.TheVariants as shut
use Rattle.lock_free.specs.declared.rules.Checked.{Checked}
use Rattle.lock_free.specs.declared.rules.Closing.{Closing}
use Rattle.lock_free.specs.declared.rules.Pinned.{Pinned}
use Rattle.lock_free.specs.declared.rules.View.{View}
use Rattle.lock_free.specs.HandleWords.{ShutBy}
use Rattle.lock_free.specs.Loading.{now, Saw}
use Rattle.lock_free.specs.Raising.{HasReleasedAll}
use Rattle.lock_free.specs.SeatWords.{pinned_for, unpinned, WouldClose}

-- the seat with these marks of handles: where its marks are gone from the words they say nothing. It may have let glances fall.
abbrev pub with_marks : View → List Closing → Checked → View
with_marks v marks passed = record v { closing = marks; passed = passed }

-- ---- it looks at all pins

abbrev pub HasPassedAll : View → ℕ → Bool → View → Type 0
HasPassedAll before handle out after =
    ((marks : List Closing) × (after ≡ with_marks before marks before.passed)) × (out ≡ true → WouldClose after handle before.sizes.seats)

-- ---- it closes a handle that it has marked

-- It is closed, by a call that has begun and ended at once, and the seat, which is pinned, has let go of its root.
pub record HasShutIt (before : View) (handle : ℕ) (after : View) : Type 0 where
  pub name : ℕ
  pub closed : View
  pub shuts : ShutBy before handle name closed
  pub released : HasReleasedAll closed (shuts.root ∷ []) after

abbrev pub ShutOrNot : View → ℕ → Bool → View → Type 0
ShutOrNot before handle true after = HasShutIt before handle after
ShutOrNot before handle false after = after ≡ before

-- it has pinned itself for that, but to no handle
pub record ShutPinned (before : View) (handle : ℕ) (closed : Bool) (after : View) : Type 0 where
  pub pinned : Pinned
  pub to_none : handle_limit ≤ pinned.pin.handle
  pub call : Call
  pub rest : View
  pub shut : ShutOrNot (pinned_for before pinned call) handle closed rest
  pub after_is : after ≡ unpinned rest

-- Pinned nowhere, it is as it was but for its marks, for glances that it has let fall, and for the call for which it has pinned itself last.
pub record RestsAs (before after : View) : Type 0 where
  pub is : after ≡ record before { closing = after.closing; passed = after.passed; asks = after.asks; pin = None; entered = None; owed = after.owed }

-- ---- it marks the handle and closes it

-- it is closed, or nothing has happened
abbrev pub HasMarkedAndShut : View → ℕ → Bool → View → Type 0
HasMarkedAndShut before handle closed after =
    (closed ≡ true → (marks : List Closing) × (passed : Checked) × ShutPinned (with_marks before marks passed) handle true after) × (closed ≡ false → RestsAs before after)

-- ---- all of it

-- it has seen this happen, and has taken no step
pub record Watched (before after : View) : Type 0 where
  pub at : View
  pub saw : Saw before at
  pub rests : RestsAs at after

-- it was closed as the seat looked
pub record FoundClosed (before : View) (handle : ℕ) (after : View) : Type 0 where
  pub saw : Saw before after
  pub closed : root_at (now after) handle ≡ None

-- the seat watched, and then closed it
pub record HasClosedIt (before : View) (handle : ℕ) (after : View) : Type 0 where
  pub at : View
  pub saw : Saw before at
  pub marks : List Closing
  pub passed : Checked
  pub closes : ShutPinned (with_marks at marks passed) handle true after

abbrev pub HasShut : View → ℕ → Shut → View → Type 0
HasShut before handle shut.Closed after = HasClosedIt before handle after
HasShut before handle shut.Busy after = Watched before after
HasShut before handle shut.NoHandle after = FoundClosed before handle after
