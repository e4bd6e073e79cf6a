-- What contracts see of a map and of its seats.
use Rattle.std.specs.Prelude.{◌≡◌, ◌+◌, ℕ, List, [], ◌∷◌, All, Option}
use Rattle.history.specs.declared.events.Event.{Event}
use Rattle.lock_free.specs.Answers.{Answer, talk_of}
use Rattle.lock_free.specs.Denials.{offered_by}
use Rattle.lock_free.specs.Naming.{MapId}
use Rattle.lock_free.specs.Seated.{Seated}
use Rattle.lock_free.specs.Telling.{history_of}

-- The map whose seat it is, its number there, and what it has seen: the begins and ends of all calls of all seats up to then, and which handles copies were offered to open.
pub record SeatState : Type 0 where
  pub map : MapId
  pub number : ℕ
  pub history : List Event
  pub offered : List (Option ℕ)

abbrev pub state_of_seat : Seated → SeatState
state_of_seat s = record {
  map = record { table = s.table; sizes = s.view.sizes };
  number = s.view.actor;
  history = history_of s.view.sizes s.view.account;
  offered = offered_by s.view.account;
}

-- its own calls so far, in its own order, each with its reply
abbrev pub answers_of_seat : SeatState → List Answer
answers_of_seat s = (talk_of s.number s.history).answers

-- the seat is one of this map's
abbrev pub IsSeatOf : MapId → SeatState → Type 0
IsSeatOf map s = s.map ≡ map

-- each of these is
abbrev pub AreSeatsOf : MapId → List SeatState → Type 0
AreSeatsOf map seats = All (IsSeatOf map) seats

-- ---- new seats

-- it has this number, and was answered nothing
pub record IsNewSeat (map : MapId) (number : ℕ) (s : SeatState) : Type 0 where
  pub of : IsSeatOf map s
  pub numbered : s.number ≡ number
  pub silent : answers_of_seat s ≡ []

-- so many new seats, with the numbers from this one on
abbrev pub AreNewSeats : MapId → ℕ → List SeatState → ℕ → Type 0
AreNewSeats map number [] count = count ≡ 0
AreNewSeats map number (s ∷ seats) count = IsNewSeat map number s × ((rest : ℕ) × (count ≡ rest + 1) × AreNewSeats map (number + 1) seats rest)
