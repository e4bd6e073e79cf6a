-- A seat takes in another one, which makes no access any more.
use Rattle.std.specs.Prelude.{◌≡◌, ℕ}
use Rattle.lock_free.specs.declared.rules.View.{View}
use Rattle.lock_free.specs.Alone.{WasLeft}
use Rattle.lock_free.specs.Rules.{HasActor}
use Rattle.lock_free.specs.SeatWords.{IsIdle}
use Rattle.lock_free.specs.Telling.{GoesOn}

-- it has heard of the other seat, and has made an access since
pub record HasJoined (before other after : View) : Type 0 where
  pub is : after ≡ record before { heard = after.heard; account = after.account }
  pub goes_on : GoesOn before.account.steps after.account.steps
  pub idle : IsIdle before → IsIdle after
  pub left : (a : ℕ) → HasActor other a → WasLeft after a
  pub still : (a : ℕ) → WasLeft before a → WasLeft after a
