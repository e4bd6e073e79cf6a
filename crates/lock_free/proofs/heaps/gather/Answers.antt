use Rattle.std.proofs.Common.{ap, ◌∙◌}
use Rattle.lock_free.proofs.LetGo.{one_taken}
use Rattle.lock_free.proofs.LimboStays.{stock_taken}
use Rattle.lock_free.proofs.heaps.gather.Goals as goal

pub returns-in-Some-clause-stock : goal.returns-in-Some-clause-stock
returns-in-Some-clause-stock c =
    let given = c.add.ensures in
    let same = c.set_first_loose.ensures in
    stock_taken c.args.stock.now c.set_first_loose.new.self c.args.actor.now.me.0 c.fetch.new.actor.me.0 c.args.class c.in-Some.stored.slot (c.in-Some.ensures {u = tt}).fetched c.requires.stock
    (ap (λ s. s.sizes) same ∙ given.sizes) (ap (λ s. s.pool) same ∙ given.pool) (ap (λ s. s.made) same ∙ given.made) (ap (λ s. s.limbo) same ∙ given.limbo)

pub returns-in-Some-clause-gathered : goal.returns-in-Some-clause-gathered
returns-in-Some-clause-gathered c =
    one_taken c.args.actor.now.me.0 c.fetch.new.actor.me.0 c.args.class c.in-Some.stored.slot c.requires.class (c.in-Some.ensures {u = tt}).fetched
