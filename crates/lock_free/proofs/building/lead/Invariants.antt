use Rattle.std.proofs.Common.{◌≡◌, ◌+◌, ◌≤◌}
use Rattle.lock_free.specs.Loading.{IsSound}
use Rattle.lock_free.specs.Stocks.{IsStock}
use Rattle.lock_free.proofs.Leads.{Leads}
use Rattle.lock_free.proofs.building.lead.Given as goal

abbrev pub invariant-loop-n : goal.invariant-loop-n
invariant-loop-n l =
    (l.actor.table_id ≡ l.fn.actor.table_id) × IsSound l.words.table_id.words l.actor.me.0 × IsStock l.stock l.actor.me.0
    × Leads l.fn.actor.me.0 l.by l.depth l.n l.link l.actor.me.0 × (l.by.depth + 1 ≤ l.n) × (l.n ≤ l.depth)
