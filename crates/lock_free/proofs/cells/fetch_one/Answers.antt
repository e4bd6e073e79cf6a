use Rattle.std.proofs.Common.{ap, ◌∙◌}
use Rattle.lock_free.proofs.CellStock.{free_fetched}
use Rattle.lock_free.proofs.LimboStays.{stock_taken}
use Rattle.lock_free.proofs.cells.fetch_one.Goals as goal

pub returns-in-Some-clause-stock : goal.returns-in-Some-clause-stock
returns-in-Some-clause-stock c =
    let given = c.add.ensures in
    let same = c.set_first_loose.ensures in
    stock_taken c.args.stock.now c.set_first_loose.new.self c.args.actor.now.me.0 c.fetch.new.actor.me.0 c.args.class c.in-Some.stored.slot (c.in-Some.ensures {u = tt}).fetched c.requires.stock
    (ap (λ s. s.sizes) same ∙ given.sizes) (ap (λ s. s.pool) same ∙ given.pool) (ap (λ s. s.made) same ∙ given.made) (ap (λ s. s.limbo) same ∙ given.limbo)

pub returns-in-Some-clause-fetched : goal.returns-in-Some-clause-fetched
returns-in-Some-clause-fetched c =
    free_fetched c.args.actor.now.me.0 c.fetch.new.actor.me.0 c.args.class c.in-Some.stored.slot c.requires.class (c.in-Some.ensures {u = tt}).fetched
