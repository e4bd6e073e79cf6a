-- What accounts tell in the words of histories.
use Rattle.std.specs.Prelude.{◌≡◌, ℕ, List, ◌++◌}
use Rattle.history.specs.declared.events.Event.{Event}
use Rattle.machine_model.specs.Machine.{AreBounds}
use Rattle.proof_linearizable.specs.Beneath.proof_order.specs.Laws.Orders.{IsExplained}
use Rattle.lock_free.specs.declared.accounts.Account.{Account}
use Rattle.lock_free.specs.declared.rules.View.{View}
use Rattle.lock_free.specs.declared.sizes.Sizes.{Sizes}
use Rattle.lock_free.specs.Accounts.{bounds_for, state_of, past_of}
use Rattle.lock_free.specs.Loading.{IsSound}

-- all begins and ends so far
abbrev pub history_of : Sizes → Account → List Event
history_of sizes account = (past_of sizes account).events

-- the one list goes on as the other
abbrev pub GoesOn : {X : Type 0} → List X → List X → Type 0
GoesOn {X} xs ys = (more : List X) × (ys ≡ xs ++ more)

-- an order explains the history so far, and leads to what handles show
abbrev pub IsExplainedSoFar : Sizes → Account → Type 0
IsExplainedSoFar sizes account = IsExplained (bounds_for sizes account.steps) (state_of sizes account) (past_of sizes account)

-- Whatever a seat has seen is explained.
abbrev pub SeatsAreExplained : Type 0
SeatsAreExplained = (words : ℕ) (v : View) → IsSound words v → IsExplainedSoFar v.sizes v.account

-- With more steps the history goes on.
abbrev pub HistoriesGoOn : Type 0
HistoriesGoOn = (sizes : Sizes) (before after : Account) → AreBounds (bounds_for sizes before.steps) → GoesOn before.steps after.steps → GoesOn (history_of sizes before) (history_of sizes after)
