-- The numbers and names of refusals, as reports and messages spell them.
use Rattle.std.specs.Prelude.{ℕ, List, codes}
use Rattle.ctrie_base.specs.declared.refusals.Refusal.{Refusal}
use Rattle.ctrie_base.specs.declared.refusals.Refusal.TheVariants.{NoHandle, ReadOnly, NotReadOnly, HandlesFull, Busy, ActorBusy, NoActor, Idle, Spent, NoSlots}
use Rattle.ctrie_base.specs.declared.refusals.Refusal.TheVariants.{Memory, BadLimits, BadLine, BadNumber, BadHeader, TooLong, BadOrder}

-- a refusal's number
abbrev pub number_of : Refusal → ℕ
number_of NoHandle = 1
number_of ReadOnly = 2
number_of NotReadOnly = 3
number_of HandlesFull = 4
number_of Busy = 5
number_of ActorBusy = 6
number_of NoActor = 7
number_of Idle = 8
number_of Spent = 9
number_of NoSlots = 10
number_of Memory = 11
number_of BadLimits = 12
number_of BadLine = 20
number_of BadNumber = 21
number_of BadHeader = 22
number_of TooLong = 23
number_of BadOrder = 24

-- a refusal's name
abbrev pub name_of : Refusal → List ℕ
name_of NoHandle = codes "NoHandle"
name_of ReadOnly = codes "ReadOnly"
name_of NotReadOnly = codes "NotReadOnly"
name_of HandlesFull = codes "HandlesFull"
name_of Busy = codes "Busy"
name_of ActorBusy = codes "ActorBusy"
name_of NoActor = codes "NoActor"
name_of Idle = codes "Idle"
name_of Spent = codes "Spent"
name_of NoSlots = codes "NoSlots"
name_of Memory = codes "Memory"
name_of BadLimits = codes "BadLimits"
name_of BadLine = codes "BadLine"
name_of BadNumber = codes "BadNumber"
name_of BadHeader = codes "BadHeader"
name_of TooLong = codes "TooLong"
name_of BadOrder = codes "BadOrder"
