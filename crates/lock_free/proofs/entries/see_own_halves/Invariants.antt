use Rattle.std.proofs.Common.{◌≡◌, ◌*◌, ◌≤◌, ◌/◌, length}
use Rattle.lock_free.specs.Halves.{entries_of_halves, AreHalves}
use Rattle.lock_free.specs.Loading.{IsSound}
use Rattle.lock_free.proofs.AllEntries.{SeenSome}
use Rattle.lock_free.proofs.entries.see_own_halves.Given as goal

abbrev pub invariant-loop-n : goal.invariant-loop-n
invariant-loop-n l =
    (l.actor.table_id ≡ l.initial.actor.table_id) × IsSound l.words.table_id.words l.actor.me.0 × SeenSome l.initial.actor.me.0 l.main l.count l.actor.me.0 (entries_of_halves l.halves.items) ×
    AreHalves l.halves.items
    × (length l.halves.items ≡ 2 * l.n) × (l.n ≤ l.count / 2)
