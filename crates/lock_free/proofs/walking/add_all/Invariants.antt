use Rattle.std.proofs.Common.{◌≡◌, ◌++◌, ◌≤◌, length, reverse, take}
use Rattle.lock_free.proofs.walking.add_all.Given as goal

abbrev pub invariant-loop-n : goal.invariant-loop-n
invariant-loop-n l = (l.todo.items ≡ l.initial.todo.items ++ take l.n (reverse l.entries.items)) × (l.n-end ≡ length l.entries.items) × (l.n ≤ l.n-end)
