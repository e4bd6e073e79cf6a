-- Banks in branches.
use Rattle.std.specs.Prelude.{ℕ, ◌%◌, Option, Some, None}
use Rattle.test_gate.specs.declared.banks.Order.{Order}
use Rattle.test_gate.specs.declared.banks.Order.TheVariants.{Store, Send, Sum}

-- the branch that an order is about, if it is about one alone
abbrev pub branch_of : ℕ → Order → Option ℕ
branch_of branches (Store branch amount) = Some (branch % branches)
branch_of branches (Send from to amount) = None
branch_of branches Sum = None
