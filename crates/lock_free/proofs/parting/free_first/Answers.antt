use Rattle.std.proofs.Common.{sym, subst}
use Rattle.lock_free.specs.Loading.{IsSound}
use Rattle.lock_free.specs.Stocks.{IsStock}
use Rattle.lock_free.proofs.GiveUpStep.{epoch_inside}
use Rattle.lock_free.proofs.OfferFrees.{free_offer_allowed}
use Rattle.lock_free.proofs.PartedStock.{freed_first, freed_stock, ripe_now, some_ripe}
use Rattle.lock_free.proofs.parting.free_first.Goals as goal

pub load-requires : goal.load-requires
load-requires c =
    let me = c.args.actor.now.me in (
      c.requires.table,
      epoch_inside c.args.words.now.table_id.words me.0 c.requires.sound,
      free_offer_allowed c.args.words.now.key c.args.words.now.table_id.slots c.args.actor.now.id me c.requires.sound.bounds.1 (subst (λ n. IsSound n me.0) c.requires.sound.size c.requires.sound)
          c.requires.ripe.0 c.requires.ripe.1 (ripe_now c.args.stock.now me.0 c.requires.stock c.requires.ripe) _,
    )

pub free_parted-requires-clause-some : goal.free_parted-requires-clause-some
free_parted-requires-clause-some c = some_ripe c.args.stock.now.pool c.args.stock.now.limbo.seen c.requires.ripe

pub returns-clause-sound : goal.returns-clause-sound
returns-clause-sound c = subst (λ n. IsSound n c.load.new.seat.me.0) (sym c.requires.sound.size) c.load.ensures.2.1

pub returns-clause-stock : goal.returns-clause-stock
returns-clause-stock c =
    let v = c.args.actor.now.me.0 in
    let y = c.requires.ripe.0 in
    let rest = c.requires.ripe.1 in
    subst (IsStock c.free_parted.new.self) (sym (c.load.ensures.2.0 y rest (ripe_now c.args.stock.now v c.requires.stock c.requires.ripe)))
    (freed_stock c.args.stock.now c.free_parted.new.self v y rest c.free_parted.ensures.sizes (c.free_parted.ensures.pool y rest c.requires.ripe.2) c.free_parted.ensures.made
    c.free_parted.ensures.limbo c.requires.stock)

pub returns-clause-freed : goal.returns-clause-freed
returns-clause-freed c =
    let v = c.args.actor.now.me.0 in
    freed_first v c.load.new.seat.me.0 c.requires.ripe.0 c.requires.ripe.1
    (c.load.ensures.2.0 c.requires.ripe.0 c.requires.ripe.1 (ripe_now c.args.stock.now v c.requires.stock c.requires.ripe))
