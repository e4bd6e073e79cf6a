-- What a call makes of a seat.
use Rattle.std.specs.Prelude.{◌≡◌, ℕ}
use Rattle.gate.specs.Logs.{Logged, IsLegal, HasFollowed, HasCalled}
use Rattle.gate.specs.Seats.{Seated}

module _ {O C A : Type 0} (answers : ℕ → O → C → A → O → Type 0) where
  -- The seat found an object whose log was legal, and had gone on by other seats' calls from what it had seen; and it
  -- left the object with one entry more, this call's.
  pub record IsCalled (before : Seated O C A) (call : C) (answer : A) (after : Seated O C A) : Type 0 where
    pub gate : after.gate ≡ before.gate
    pub number : after.number ≡ before.number
    pub board : Logged O C A
    pub followed : HasFollowed answers before.number before.seen board
    pub legal : IsLegal answers board
    pub called : HasCalled answers before.number call answer board after.seen

  -- The seat made no call, and has seen the object and its legal log once more.
  pub record HasHeard (before after : Seated O C A) : Type 0 where
    pub gate : after.gate ≡ before.gate
    pub number : after.number ≡ before.number
    pub followed : HasFollowed answers before.number before.seen after.seen
    pub legal : IsLegal answers after.seen
