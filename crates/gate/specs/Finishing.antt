-- The end of a gate. What is handed in are seats, or values that hold one each: `of` is the seat that a value holds.
use Rattle.std.specs.Prelude.{◌≡◌, ℕ, ◌≤◌, List, Some, slice_get, All, Result, Ok, Err}
use Rattle.std.specs.Global.{Vec}
use Rattle.gate.specs.Logs.{Logged, IsLegal, HasFollowed}
use Rattle.gate.specs.Rules.{AreSeated}
use Rattle.gate.specs.Seats.{Room, Seated, IsSeatOf}

module _ {S O C A : Type 0} (of : S → Seated O C A) where
  -- each of these is a seat of the gate
  abbrev pub AreOf : Room O → List S → Type 0
  AreOf gate seats = All (λ s. IsSeatOf gate (of s)) seats

  -- the seat of this number is among these
  abbrev pub IsHere : ℕ → List S → Type 0
  IsHere number seats = (k : ℕ) × (s : S) × (slice_get seats k ≡ Some s) × ((of s).number ≡ number)

  -- the seat of each number up to this one is, or that of one of them isn't
  abbrev pub AreHere : ℕ → List S → Type 0
  AreHere most seats = (number : ℕ) → 1 ≤ number → number ≤ most → IsHere number seats

  abbrev pub IsMissing : ℕ → List S → Type 0
  IsMissing most seats = (number : ℕ) × (1 ≤ number) × (number ≤ most) × ¬ IsHere number seats

  -- no two of these have the same number
  abbrev pub AreDistinct : List S → Type 0
  AreDistinct seats = (j k : ℕ) (s t : S) → slice_get seats j ≡ Some s → slice_get seats k ≡ Some t → (of s).number ≡ (of t).number → j ≡ k

module _ {S O C A : Type 0} (answers : ℕ → O → C → A → O → Type 0) (of : S → Seated O C A) where
  -- There is one log of all calls. They lead from the first object to this one, each is one of the gate's seats, and since
  -- a seat saw the log last there was no call of its own. No two of the seats are the same.
  pub record IsGathered (gate : Room O) (seats : List S) (object : O) : Type 0 where
    pub last : Logged O C A
    pub object_is : object ≡ last.object
    pub first : last.first ≡ gate.first
    pub legal : IsLegal answers last
    pub calls : AreSeated gate.seats last.log
    pub followed : (k : ℕ) (s : S) → slice_get seats k ≡ Some s → HasFollowed answers (of s).number (of s).seen last
    pub distinct : AreDistinct of seats

  -- the object is out; or where a seat isn't there, all that was handed in
  abbrev pub IsFinished : Room O → List S → Result O (Room O × Vec S) → Type 0
  IsFinished gate seats (Ok object) = AreHere of gate.seats seats × IsGathered gate seats object
  IsFinished gate seats (Err back) = IsMissing of gate.seats seats × (back.0 ≡ gate) × (back.1.items ≡ seats)
