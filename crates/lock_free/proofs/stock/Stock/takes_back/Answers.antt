use Rattle.std.proofs.Common.{◌+◌, sym, subst, arith}
use Rattle.std.proofs.lemmas.Bool.{le-leb}
use Rattle.lock_free.specs.Freed.{kept_free}
use Rattle.lock_free.specs.Stocks.{HasRoomFor, Stocked}
use Rattle.lock_free.proofs.stock.Stock.takes_back.Goals as goal

pub returns-clause-takes : goal.returns-clause-takes
returns-clause-takes c room =
    let left = subst (λ (s : Stocked). HasRoomFor s c.args.class kept_free) (sym c.self.view_is) room in
    let made = c.len.ensures.value in
    let free = c.len-2.ensures.is in
    le-leb (c.len.result + c.len-2.result + 48) 128 (omega (arith, made, free, left))
