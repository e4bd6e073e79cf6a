-- Calls that stand in an order.
use Rattle.std.specs.Prelude.{◌≡◌, ℕ, ◌<◌, Some, slice_get}
use Rattle.gate.specs.Logs.{Logged, LogGoesOn, entry}

-- in each log that goes on from both there are these calls of the two seats, the one before the other
abbrev pub StandsBefore : {O : Type 0} → ℕ → ℕ → ℕ → ℕ → Logged O ℕ ℕ → Logged O ℕ ℕ → Type 0
StandsBefore {O} one call other next told later = (last : Logged O ℕ ℕ) → LogGoesOn told last → LogGoesOn later last →
    (first second answer reply : ℕ) × (first < second) × (slice_get last.log first ≡ Some (entry one call answer)) × (slice_get last.log second ≡ Some (entry other next reply))
