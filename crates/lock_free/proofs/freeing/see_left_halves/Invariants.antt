use Rattle.std.proofs.Common.{◌≡◌, ◌≤◌, length}
use Rattle.lock_free.specs.Halves.{entries_of_halves}
use Rattle.lock_free.proofs.LeftEntries.{SeenSome}
use Rattle.lock_free.proofs.freeing.see_left_halves.Given as goal

abbrev pub invariant-loop-position : goal.invariant-loop-position
invariant-loop-position l =
    (l.actor.table_id ≡ l.initial.actor.table_id) × (l.actor.me ≡ l.initial.actor.me) × SeenSome l.initial.actor.me.0 l.slot l.count (entries_of_halves l.halves.items)
    × (length l.halves.items ≡ l.position) × (l.position ≤ l.count)
