-- Laws of logs, whatever the object answers.
use Rattle.std.specs.Prelude.{◌≡◌, ℕ, ◌-◌, ◌<◌, ◌≤◌, [], ◌∷◌, ◌++◌, List, length, slice_get, Some, sum_by}
use Rattle.gate.specs.Logs.{Logged, entry, calls_of, LogGoesOn, IsLegal, HasFollowed, HasCalled}
use Rattle.gate.specs.Seats.{Room, Seated}
use Rattle.gate.specs.Calls.{IsCalled}
use Rattle.gate.specs.Finishing.{AreHere, IsGathered}
use Rattle.gate.specs.declared.objects.Entry.{Entry}

module _ {O C A : Type 0} (answers : ℕ → O → C → A → O → Type 0) where
  abbrev pub CallsKeepALogLegal : Type 0
  CallsKeepALogLegal = (seat : ℕ) (call : C) (answer : A) (board now : Logged O C A) → IsLegal answers board → HasCalled answers seat call answer board now → IsLegal answers now

  abbrev pub ACallIsOneEntry : Type 0
  ACallIsOneEntry = (before after : Seated O C A) (call : C) (answer : A) → IsCalled answers before call answer after →
      calls_of before.number after.seen.log ≡ calls_of before.number before.seen.log ++ entry before.number call answer ∷ []

  abbrev pub OthersLeaveOwnCalls : Type 0
  OthersLeaveOwnCalls = (seat : ℕ) (seen board : Logged O C A) → HasFollowed answers seat seen board → calls_of seat board.log ≡ calls_of seat seen.log

  -- The log that a seat sees after a call goes on from the one that it saw before; so does the one that it hears of, and that of `finish`, each of which
  -- has followed; and what goes on from a later log goes on from an earlier one.
  pub record LogsGoOn : Type 0 where
    pub called : (before after : Seated O C A) (call : C) (answer : A) → IsCalled answers before call answer after → LogGoesOn before.seen after.seen
    pub followed : (seat : ℕ) (seen board : Logged O C A) → HasFollowed answers seat seen board → LogGoesOn seen board
    pub further : (first middle last : Logged O C A) → LogGoesOn first middle → LogGoesOn middle last → LogGoesOn first last

  -- Where one seat calls, and another one that knows of so many calls calls then, each log that goes on from both has the two calls at their numbers, the
  -- first before the second.
  abbrev pub ToldCallsStandBefore : Type 0
  ToldCallsStandBefore = (one told : Seated O C A) (call : C) (answer : A) (other later : Seated O C A) (next : C) (reply : A) (last : Logged O C A) →
      IsCalled answers one call answer told → length told.seen.log ≤ length other.seen.log → IsCalled answers other next reply later →
      LogGoesOn told.seen last → LogGoesOn later.seen last →
      (length told.seen.log < length later.seen.log)
      × (slice_get last.log (length told.seen.log - 1) ≡ Some (entry one.number call answer))
      × (slice_get last.log (length later.seen.log - 1) ≡ Some (entry other.number next reply))

-- Whatever is counted of calls, the log's calls count what the calls count that each seat has made.
abbrev pub SeatsMakeTheLog : {S O C A : Type 0} → (ℕ → O → C → A → O → Type 0) → (S → Seated O C A) → Type 0
SeatsMakeTheLog {S} {O} {C} {A} answers of = (gate : Room O) (seats : List S) (object : O) → AreHere of gate.seats seats → (all : IsGathered answers of gate seats object) →
    (weight : Entry C A → ℕ) → sum_by weight all.last.log ≡ sum_by (λ s. sum_by weight (calls_of (of s).number (of s).seen.log)) seats
