-- A new gate and its seats.
use Rattle.std.specs.Prelude.{◌≡◌, ℕ, zero, suc, ◌+◌, List, [], ◌∷◌}
use Rattle.atomic_table.specs.Seated.{TableId}
use Rattle.gate.specs.Logs.{fresh}
use Rattle.gate.specs.Seats.{Room, Seated}

module _ {O C A : Type 0} where
  -- a seat that has made no call, and has seen the object without any
  abbrev pub fresh_seat : TableId → O → ℕ → Seated O C A
  fresh_seat id object number = record { gate = id; number = number; seen = fresh object }

  -- so many of them, with the numbers from this one on
  abbrev pub fresh_seats : TableId → O → ℕ → ℕ → List (Seated O C A)
  fresh_seats id object number zero = []
  fresh_seats id object number (suc n) = fresh_seat id object number ∷ fresh_seats id object (number + 1) n

  -- the gate is before this object, and has so many seats, which are here
  pub record IsMade (object : O) (seats : ℕ) (gate : Room O) (made : List (Seated O C A)) : Type 0 where
    pub first : gate.first ≡ object
    pub number : gate.seats ≡ seats
    pub fresh : made ≡ fresh_seats gate.id object 1 seats
