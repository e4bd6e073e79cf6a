use Rattle.std.proofs.Common.{◌≡◌, ◌≤◌, ◌/◌, length}
use Rattle.lock_free.specs.Halves.{entries_of_halves}
use Rattle.lock_free.specs.Loading.{IsSound}
use Rattle.lock_free.specs.SeenEntries.{HasWritten}
use Rattle.lock_free.proofs.makes.write_entries.Given as goal

abbrev pub invariant-loop-n : goal.invariant-loop-n
invariant-loop-n l =
    (l.actor.table_id ≡ l.initial.actor.table_id) × IsSound l.words.table_id.words l.actor.me.0 × HasWritten l.initial.actor.me.0 l.slot (entries_of_halves l.halves) l.n l.actor.me.0
    × (l.n ≤ length l.halves / 2)
