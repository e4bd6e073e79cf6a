use Rattle.std.proofs.Common.{◌≡◌, ◌≤◌, length}
use Rattle.lock_free.specs.Freeing.{HasLetGo}
use Rattle.lock_free.specs.LettingMadeGo.{slots_kept}
use Rattle.lock_free.specs.Limbos.{IsLimbo}
use Rattle.lock_free.specs.Loading.{IsSound}
use Rattle.lock_free.proofs.MadeGo.{HoldsRest}
use Rattle.lock_free.proofs.giving_up.let_made_go.Given as goal

abbrev pub invariant-loop-n : goal.invariant-loop-n
invariant-loop-n l =
    (l.actor.table_id ≡ l.initial.actor.table_id) × IsSound l.words.table_id.words l.actor.me.0 × (l.stock ≡ record l.initial.stock { limbo = l.stock.limbo }) × IsLimbo l.stock.limbo l.actor.me.0
    × HasLetGo l.initial.actor.me.0 l.actor.me.0 × HoldsRest l.initial.actor.me.0 l.made.items l.fresh (slots_kept l.kept) l.n l.actor.me.0 × (l.n ≤ length l.made.items)
