use Rattle.std.proofs.Common.{ap, ◌∙◌}
use Rattle.lock_free.specs.Rules.{pool_of}
use Rattle.lock_free.proofs.CellStock.{put_given, stock_put}
use Rattle.lock_free.proofs.cells.loosen_one.Goals as goal

pub returns-then-loosen-clause-stock : goal.returns-then-loosen-clause-stock
returns-then-loosen-clause-stock c =
    let v = c.args.actor.now.me.0 in
    let put = c.if-loosen.ensures.put in
    let left = c.leave_out.ensures in
    let same = c.set_first_loose.ensures in
    stock_put c.args.stock.now c.set_first_loose.new.self v c.loosen.new.actor.me.0 c.args.class put.0 put.3 c.requires.stock (ap (λ s. s.sizes) same ∙ left.sizes)
    (ap (λ s. s.pool) same ∙ left.pool put.0 put.1 (ap (λ p. pool_of p c.args.class) c.requires.stock.pool ∙ put.2)) (ap (λ s. s.made) same ∙ left.made) (ap (λ s. s.limbo) same ∙ left.limbo)

pub returns-then-loosen-clause-given : goal.returns-then-loosen-clause-given
returns-then-loosen-clause-given c =
    let put = c.if-loosen.ensures.put in put_given c.args.actor.now.me.0 c.loosen.new.actor.me.0 c.args.class put.0 put.1 c.requires.class put.2 put.3
