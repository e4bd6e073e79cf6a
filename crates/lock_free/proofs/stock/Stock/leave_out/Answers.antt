use Rattle.std.proofs.Common.{ap, arith, ◌∙◌}
use Rattle.lock_free.specs.Making.{with_slots}
use Rattle.lock_free.specs.Rules.{pool_of}
use Rattle.lock_free.specs.Stocks.{Stocked}
use Rattle.lock_free.proofs.CellStock.{popped_rest}
use Rattle.lock_free.proofs.StockRoom.{popped_fewer}
use Rattle.lock_free.proofs.stock.Stock.leave_out.Goals as goal

pub invariant_of-self : goal.invariant_of-self
invariant_of-self c class =
    let fewer = popped_fewer c.self.inside.free c.pop.new.self c.args.class c.pop.result c.pop.ensures class in
    let few = c.self.invariant class in
    omega (arith, fewer, few)

pub returns-clause-pool : goal.returns-clause-pool
returns-clause-pool c rest name is =
    let same = ap (λ (s : Stocked). s.pool) c.self.view_is in
    popped_rest c.self.inside.free c.pop.new.self c.args.class c.pop.result c.pop.ensures rest name (ap (λ p. pool_of p c.args.class) same ∙ is) ∙ ap (λ p. with_slots p c.args.class rest) same
