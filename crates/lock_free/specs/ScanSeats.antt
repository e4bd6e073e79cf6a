-- What comes of a seat that lists in parts.
use Rattle.std.specs.Prelude.{Result, Ok, Err}
use Rattle.lock_free.specs.declared.call_errors.CallError.{CallError}
use Rattle.lock_free.specs.declared.scans.Scanned.{Scanned}
use Rattle.lock_free.specs.declared.scans.Scanned.TheVariants as scanned
use Rattle.lock_free.specs.declared.walks.Reached.{Reached}
use Rattle.lock_free.specs.declared.walks.Reached.TheVariants as reached
use Rattle.lock_free.specs.Seated.{Seated}

-- how far it has come, and its seat
abbrev pub reached_by : Scanned → Result Reached CallError
reached_by (scanned.Paused seat) = Ok reached.Most
reached_by (scanned.Done seat) = Ok reached.All
reached_by (scanned.Refused seat why) = Err why

abbrev pub seat_of : Scanned → Seated
seat_of (scanned.Paused seat) = seat
seat_of (scanned.Done seat) = seat
seat_of (scanned.Refused seat why) = seat

abbrev pub scanned_by : Seated → Result Reached CallError → Scanned
scanned_by seat (Ok reached.Most) = scanned.Paused seat
scanned_by seat (Ok reached.All) = scanned.Done seat
scanned_by seat (Err why) = scanned.Refused seat why
