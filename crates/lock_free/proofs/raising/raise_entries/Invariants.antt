use Rattle.std.proofs.Common.{◌≡◌, ◌≤◌, List, length, take}
use Rattle.machine_model.specs.Beneath.slot_arena.specs.declared.refs.Ref.{Ref as ARef}
use Rattle.lock_free.specs.Halves.{entries_of_halves}
use Rattle.lock_free.specs.Loading.{IsSound}
use Rattle.lock_free.specs.Raising.{all_but, HasRaisedAll, MayRaise}
use Rattle.lock_free.proofs.raising.raise_entries.Given as goal

abbrev pub invariant-loop-n : goal.invariant-loop-n
invariant-loop-n l =
    (l.actor.table_id ≡ l.initial.actor.table_id) × IsSound l.words.table_id.words l.actor.me.0 × (l.stock ≡ l.initial.stock) ×
    ((refs : List ARef) → MayRaise l.initial.actor.me.0 (entries_of_halves l.halves) l.but refs → HasRaisedAll l.initial.actor.me.0 (all_but l.but (take l.n refs)) l.actor.me.0) ×
    (l.n ≤ length l.halves)
