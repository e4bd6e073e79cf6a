use Rattle.std.proofs.Common.{length, sym, subst}
use Rattle.lock_free.specs.Stocks.{HasRoomFor, Stocked}
use Rattle.lock_free.proofs.StockRoom.{added_fits}
use Rattle.lock_free.proofs.stock.Stock.add.Goals as goal

pub invariant_of-self : goal.invariant_of-self
invariant_of-self c =
    added_fits c.self.inside.free c.add.new.self c.args.class c.args.slot (length c.self.inside.made.items) c.add.ensures
    (subst (λ (s : Stocked). HasRoomFor s c.args.class 1) (sym c.self.view_is) c.requires.room) c.self.invariant
