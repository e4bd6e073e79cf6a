use Rattle.std.proofs.Common.{◌≤◌, ◌+◌, ◌∷◌, [], length, sym, ap, subst, ◌∙◌, arith}
use Rattle.std.proofs.lemmas.List.{length-append}
use Rattle.lock_free.specs.Rules.{pool_of}
use Rattle.lock_free.specs.Stocks.{HasRoom, Stocked}
use Rattle.lock_free.proofs.StockRoom.{popped_fewer}
use Rattle.lock_free.proofs.stock.Stock.note.Goals as goal

pub invariant_of-self : goal.invariant_of-self
invariant_of-self c class =
    let fewer = popped_fewer c.self.inside.free c.pop.new.self c.args.class c.pop.result c.pop.ensures class in
    let room : length (pool_of c.self.inside.free class) + length c.self.inside.made.items + 1 ≤ 128 =
    subst (λ (s : Stocked). HasRoom s 1) (sym c.self.view_is) c.requires.room class in
    let more = ap length c.push.ensures.items ∙ length-append c.self.inside.made.items (_ ∷ []) in
    omega (arith, fewer, room, more)
