-- What contracts see of a gate and of a seat.
use Rattle.std.specs.Prelude.{◌≡◌, ℕ, ◌≤◌, List, [], length, All}
use Rattle.atomic_table.specs.Seated.{TableId}
use Rattle.gate.specs.Logs.{Logged, saturated}
use Rattle.gate.specs.Views.{Place, outside}

-- a gate: which one it is, what its object was first, and how many seats it has
pub record Room (O : Type 0) : Type 0 where
  pub id : TableId
  pub first : O
  pub seats : ℕ

-- a seat: of which gate it is, its number, and the object with its log as the seat saw them last
pub record Seated (O C A : Type 0) : Type 0 where
  pub gate : TableId
  pub number : ℕ
  pub seen : Logged O C A

module _ {O C A : Type 0} where
  -- the seat is one of this gate's
  abbrev pub IsSeatOf : Room O → Seated O C A → Type 0
  IsSeatOf gate seat = seat.gate ≡ gate.id

  -- each of these is
  abbrev pub AreSeatsOf : Room O → List (Seated O C A) → Type 0
  AreSeatsOf gate seats = All (λ seat. IsSeatOf gate seat) seats

-- the seat is outside with its number, and has counted the calls that it has seen
module _ {S O C A : Type 0} where
  pub record IsSeated (me : Place S O C A) (number : ℕ) (seen : Logged O C A) (last : ℕ) : Type 0 where
    pub place : me ≡ (outside number seen, [])
    pub low : 1 ≤ number
    pub counted : last ≡ saturated (length seen.log)
