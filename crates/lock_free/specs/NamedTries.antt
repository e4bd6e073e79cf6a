-- What comes of a named seat that has tried a call so many times.
use Rattle.std.specs.Prelude.{◌≡◌}
use Rattle.lock_free.specs.declared.named_tries.NamedTried.{NamedTried}
use Rattle.lock_free.specs.declared.named_tries.NamedTried.TheVariants as named
use Rattle.lock_free.specs.declared.parked_seats.Tried.{Tried}
use Rattle.lock_free.specs.declared.parked_seats.Tried.TheVariants as tried
use Rattle.lock_free.specs.Naming.{MapId}
use Rattle.lock_free.specs.Seated.{Seated}

-- the same without the name
abbrev pub plain : {N : Type 0} → NamedTried N → Tried
plain (named.Answered seat told) = tried.Answered seat told
plain (named.Parked seat) = tried.Parked seat

-- the seat is one of this map
abbrev pub IsSeatOf : MapId → Seated → Type 0
IsSeatOf map seat = (seat.table ≡ map.table) × (seat.view.sizes ≡ map.sizes)

abbrev pub IsOfMap : MapId → Tried → Type 0
IsOfMap map (tried.Answered seat told) = IsSeatOf map seat
IsOfMap map (tried.Parked seat) = IsSeatOf map seat
