use Rattle.std.proofs.Common.{◌≡◌, ◌≤◌, List, length, take}
use Rattle.machine_model.specs.Beneath.slot_arena.specs.declared.refs.Ref.{Ref as ARef}
use Rattle.lock_free.specs.Halves.{entries_of_halves}
use Rattle.lock_free.specs.Limbos.{IsLimbo}
use Rattle.lock_free.specs.Loading.{IsSound}
use Rattle.lock_free.specs.Raising.{all_but, HasReleasedAll, MayRelease}
use Rattle.lock_free.proofs.raising.release_entries.Given as goal

abbrev pub invariant-loop-n : goal.invariant-loop-n
invariant-loop-n l =
    (l.actor.table_id ≡ l.initial.actor.table_id) × IsSound l.words.table_id.words l.actor.me.0 × (l.stock ≡ record l.initial.stock { limbo = l.stock.limbo }) × IsLimbo l.stock.limbo l.actor.me.0 ×
    ((refs : List ARef) → MayRelease l.initial.actor.me.0 (entries_of_halves l.halves) l.but refs → HasReleasedAll l.initial.actor.me.0 (all_but l.but (take l.n refs)) l.actor.me.0) ×
    (l.n ≤ length l.halves)
