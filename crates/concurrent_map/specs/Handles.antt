-- What a handle was at some time during a call of a seat.
use Rattle.std.specs.Prelude.{◌≤◌, ◌⊎◌, ℕ, Contains, Some}
use Rattle.ctrie_base.specs.Hashes.{hash_of}
use Rattle.history.specs.declared.calls.Access.{Access}
use Rattle.lock_free.specs.Accesses.{WasOpen}
use Rattle.lock_free.specs.Denials as lf
use Rattle.concurrent_map.specs.Seats.{SeatState}

-- It was open and allowed this: an order explains all that had been called by then, and leads to a world in which it names such a map.
abbrev pub WasOpenTo : SeatState → ℕ → Access → SeatState → Type 0
WasOpenTo before handle access after = WasOpen (hash_of before.map.sizes.hash) handle access before.history after.history

-- It wasn't open: an order explains all that had been called by then, and leads to a world in which it names no map.
abbrev pub WasNotOpen : SeatState → ℕ → SeatState → Type 0
WasNotOpen before handle after = lf.WasNotOpen (hash_of before.map.sizes.hash) handle before.history after.history

-- There was no handle of this number: no handle has so high a one, or this one wasn't open.
abbrev pub WasNoHandle : SeatState → ℕ → SeatState → Type 0
WasNoHandle before handle after = (256 ≤ handle) ⊎ WasNotOpen before handle after

-- There was none; or a copy has been offered that opens it, and until its call returns the handle's word may name this offer.
abbrev pub WasNoHandleYet : SeatState → ℕ → SeatState → Type 0
WasNoHandleYet before handle after = WasNoHandle before handle after ⊎ Contains after.offered (Some handle)
