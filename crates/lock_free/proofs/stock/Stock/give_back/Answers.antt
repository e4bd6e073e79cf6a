use Rattle.std.proofs.Common.{◌<◌, length, arith}
use Rattle.lock_free.proofs.StockRoom.{given_more, put_back_next}
use Rattle.lock_free.proofs.stock.Stock.give_back.Goals as goal

pub loop-n-preserved : goal.loop-n-preserved
loop-n-preserved c =
    let i = c.loop-n.invariant in
    let below = c.loop-n-test.true in
    let within : c.loop-n.n < length c.loop-n.self-inside.made.items = (let long = i.5 in omega (arith, below, long)) in (
      i.0,
      i.1,
      i.2,
      put_back_next c.loop-n.self-inside.made.items c.deref.result.now c.loop-n.n _ c.loop-n.self-inside.free c.add.new.self _ c.deref.ensures.0 within c.add.ensures i.3,
      (λ class. (let more = given_more c.deref.result.now c.loop-n.n _ c.loop-n.self-inside.free c.add.new.self c.add.ensures class in let few = i.4 class in omega (arith, more, few))),
      i.5,
      omega (arith, below),
    )
