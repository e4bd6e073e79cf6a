-- Laws of orders.
use Rattle.std.specs.Prelude.{◌≡◌, ℕ, List}
use Rattle.history.specs.declared.events.Event.{Event}
use Rattle.history.specs.declared.faults.OrderFault.{OrderFault}
use Rattle.history.specs.Worlds.{HandleMap}
use Rattle.history.specs.Orders.{Explains}
use Rattle.history.specs.Faults.{IsFirstFault}

-- an order leads to at most one world
abbrev pub LeadsToOneWorld : Type 0
LeadsToOneWorld =
    (hash : ℕ → ℕ) (history : List Event) (order : List ℕ) (v w : HandleMap) → Explains hash history order v → Explains hash history order w → v ≡ w

-- an order has at most one first fault
abbrev pub HasOneFirstFault : Type 0
HasOneFirstFault =
    (hash : ℕ → ℕ) (history : List Event) (order : List ℕ) (f g : OrderFault) → IsFirstFault hash history order f → IsFirstFault hash history order g → f ≡ g
