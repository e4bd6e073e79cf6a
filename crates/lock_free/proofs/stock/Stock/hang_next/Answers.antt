use Rattle.std.proofs.Common.{subst}
use Rattle.lock_free.specs.Limbos.{having_retired, IsLimbo, IsNext}
use Rattle.lock_free.specs.Stocks.{Stocked}
use Rattle.lock_free.proofs.stock.Stock.hang_next.Goals as goal

pub returns-clause-limbo : goal.returns-clause-limbo
returns-clause-limbo c =
    subst (λ (s : Stocked). (h : IsNext s.limbo c.args.actor.now.me.0 c.args.kind c.args.class c.args.slot) → IsLimbo c.hang.new.limbo (having_retired c.hang.new.actor.me.0 h.now)) c.self.view_is
    c.hang.ensures.limbo
