use Rattle.std.proofs.Common.{◌≡◌, ◌≤◌, length, take}
use Rattle.lock_free.specs.SeenNames.{elsewhere}
use Rattle.lock_free.proofs.letting_go.elsewhere.Given as goal

abbrev pub invariant-loop-n : goal.invariant-loop-n
invariant-loop-n l = (l.apart.items ≡ elsewhere l.others (take l.n l.halves)) × (length l.apart.items ≤ l.n) × (l.n ≤ length l.halves)
