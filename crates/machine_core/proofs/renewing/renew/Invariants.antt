use Rattle.machine_core.specs.Renewing.{IsRenewing}
use Rattle.machine_core.proofs.renewing.renew.Given as goal

-- the first entries are renewed
abbrev pub invariant-loop-i : goal.invariant-loop-i
invariant-loop-i l = IsRenewing l.fn.heap l.main l.generation l.i l.heap l.made.items l.entries.items
