use Rattle.std.proofs.Common.{◌<◌, length, sym, subst}
use Rattle.lock_free.specs.Stocks.{HasRoomFor, Stocked}
use Rattle.lock_free.proofs.StockRoom.{freed_few}
use Rattle.lock_free.proofs.stock.Stock.free_parted.Goals as goal

pub invariant_of-self : goal.invariant_of-self
invariant_of-self c =
    freed_few c.self.inside.free c.free_parted.new.self c.self.inside.made.items (subst (λ (s : Stocked). 0 < length s.pool.parted) (sym c.self.view_is) c.requires.some)
    c.free_parted.ensures (subst (λ (s : Stocked). HasRoomFor s 1 1) (sym c.self.view_is) c.requires.room) c.self.invariant
