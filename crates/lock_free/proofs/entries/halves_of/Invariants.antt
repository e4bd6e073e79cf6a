use Rattle.std.proofs.Common.{◌≡◌, ◌≤◌, length, take}
use Rattle.lock_free.specs.Halves.{halves_of}
use Rattle.lock_free.proofs.entries.halves_of.Given as goal

abbrev pub invariant-loop-n : goal.invariant-loop-n
invariant-loop-n l = (l.halves.items ≡ halves_of (take l.n l.entries)) × (length l.halves.items ≡ l.n) × (l.n-end ≡ length l.entries) × (l.n ≤ l.n-end)
