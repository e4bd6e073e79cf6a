use Rattle.std.proofs.Common.{◌≡◌, ◌≤◌, length, take}
use Rattle.lock_free.specs.Halves.{entries_of_halves}
use Rattle.lock_free.specs.LeftNodes.{entries_beside}
use Rattle.lock_free.proofs.freeing.beside.Given as goal

abbrev pub invariant-loop-n : goal.invariant-loop-n
invariant-loop-n l =
    (entries_of_halves l.others.items ≡ entries_beside l.left_out (entries_of_halves (take l.n l.halves))) × (length l.others.items ≤ l.n) × (l.n ≤ length l.halves)
