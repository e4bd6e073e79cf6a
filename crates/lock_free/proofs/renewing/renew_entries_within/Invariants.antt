use Rattle.std.proofs.Common.{◌≡◌}
use Rattle.lock_free.specs.Stocks.{IsStock}
use Rattle.lock_free.proofs.RenewAll.{GoesRenewing}
use Rattle.lock_free.proofs.renewing.renew_entries_within.Given as goal

abbrev pub invariant-loop-n : goal.invariant-loop-n
invariant-loop-n l =
    (l.actor.table_id ≡ l.fn.actor.table_id) × IsStock l.stock l.actor.me.0
    × GoesRenewing l.words.table_id.words l.way l.start l.fn.actor.me.0 l.actor.me.0 l.entries.items l.n l.renewed.items l.kept.items
