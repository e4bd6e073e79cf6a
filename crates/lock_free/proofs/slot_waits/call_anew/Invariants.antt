use Rattle.std.proofs.Common.{◌≡◌}
use Rattle.lock_free.specs.declared.rules.View.{View}
use Rattle.lock_free.specs.Loading.{IsSound}
use Rattle.lock_free.specs.SlotWaits.{HasTriedInVain}
use Rattle.lock_free.specs.Stocks.{IsStock}
use Rattle.lock_free.specs.WholeCalls.{HasLeft}
use Rattle.lock_free.proofs.slot_waits.call_anew.Given as goal

abbrev pub invariant-loop : goal.invariant-loop
invariant-loop g l =
    (goal.iterator-loop g).can_next l.iterator' × (goal.iterator-loop g).is_finite l.iterator' × (l.actor.table_id ≡ l.initial.actor.table_id) × IsSound l.words.table_id.words l.actor.me.0
    × IsStock l.stock l.actor.me.0 × HasLeft l.initial.actor.me.0 l.actor.me.0 × ((before : View) → HasTriedInVain before l.call l.initial.actor.me.0 → HasTriedInVain before l.call l.actor.me.0)
