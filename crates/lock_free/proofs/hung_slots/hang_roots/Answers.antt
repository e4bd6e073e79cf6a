use Rattle.std.proofs.Common.{arith}
use Rattle.lock_free.specs.declared.reclaiming.Kind.TheVariants.{Replaced}
use Rattle.lock_free.proofs.HungNext.{first_next, last_hung, last_next, one_hung, second_newest}
use Rattle.lock_free.proofs.hung_slots.hang_roots.Goals as goal

pub hang_next-requires-clause-next : goal.hang_next-requires-clause-next
hang_next-requires-clause-next c = first_next c.args.stock.now.limbo c.args.actor.now.me.0 c.args.roots c.requires.newest

pub hang_next-requires-then-roots-ne0-clause-next : goal.hang_next-requires-then-roots-ne0-clause-next
hang_next-requires-then-roots-ne0-clause-next c =
    let first = first_next c.args.stock.now.limbo c.args.actor.now.me.0 c.args.roots c.requires.newest in
    last_next c.hang_next.new.self.limbo c.hang_next.new.actor.me.0 Replaced 0 c.args.roots.high
    (second_newest c.args.stock.now.limbo c.args.actor.now.me.0 c.args.roots c.requires.newest c.hang_next.new.self.limbo c.hang_next.new.actor.me.0 c.hang_next.ensures.hung
    (c.hang_next.ensures.limbo first)
    (λ e. omega (arith, c.if-roots-ne0.true, e)))

pub returns-then-roots-ne0-clause-limbo : goal.returns-then-roots-ne0-clause-limbo
returns-then-roots-ne0-clause-limbo c =
    let first = first_next c.args.stock.now.limbo c.args.actor.now.me.0 c.args.roots c.requires.newest in
    last_hung c.hang_next-then-roots-ne0.new.self.limbo c.hang_next.new.actor.me.0 c.hang_next-then-roots-ne0.new.actor.me.0 c.hang_next-then-roots-ne0.ensures.hung
    (c.hang_next-then-roots-ne0.ensures.limbo
    (last_next c.hang_next.new.self.limbo c.hang_next.new.actor.me.0 Replaced 0 c.args.roots.high
    (second_newest c.args.stock.now.limbo c.args.actor.now.me.0 c.args.roots c.requires.newest c.hang_next.new.self.limbo c.hang_next.new.actor.me.0 c.hang_next.ensures.hung
    (c.hang_next.ensures.limbo first)
    (λ e. omega (arith, c.if-roots-ne0.true, e)))))

pub returns-else-roots-ne0-clause-limbo : goal.returns-else-roots-ne0-clause-limbo
returns-else-roots-ne0-clause-limbo c =
    let first = first_next c.args.stock.now.limbo c.args.actor.now.me.0 c.args.roots c.requires.newest in
    one_hung c.args.stock.now.limbo c.args.actor.now.me.0 c.args.roots c.requires.newest c.hang_next.new.self.limbo c.hang_next.new.actor.me.0
    c.hang_next.ensures.hung (c.hang_next.ensures.limbo first) (omega (arith, c.if-roots-ne0.false))
