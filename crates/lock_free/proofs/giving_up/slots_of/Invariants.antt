use Rattle.std.proofs.Common.{◌≡◌, ◌≤◌, length, take}
use Rattle.lock_free.specs.LettingMadeGo.{slots_made}
use Rattle.lock_free.proofs.giving_up.slots_of.Given as goal

abbrev pub invariant-loop-n : goal.invariant-loop-n
invariant-loop-n l = (l.slots.items ≡ slots_made (take l.n l.made.items)) × (length l.slots.items ≡ l.n) × (l.n ≤ length l.made.items)
