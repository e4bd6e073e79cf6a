use Rattle.std.proofs.Common.{◌≡◌, ◌≤◌, ◌+◌, ◌++◌, length, take}
use Rattle.lock_free.specs.LettingMadeGo.{slots_kept}
use Rattle.lock_free.proofs.giving_up.add_kept.Given as goal

abbrev pub invariant-loop-n : goal.invariant-loop-n
invariant-loop-n l =
    (l.slots.items ≡ l.initial.slots.items ++ slots_kept (take l.n l.kept)) × (length l.slots.items ≡ length l.initial.slots.items + l.n) × (l.n ≤ length l.kept)
