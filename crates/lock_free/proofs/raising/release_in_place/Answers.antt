use Rattle.std.proofs.Common.{refl, sym, ◌∙◌}
use Rattle.lock_free.proofs.Raisings.{last_newest, last_sizes, more_hangs}
use Rattle.lock_free.proofs.raising.release_in_place.Goals as goal

pub hang_one-requires-clause-sizes : goal.hang_one-requires-clause-sizes
hang_one-requires-clause-sizes c =
    let (k, owes) = c.requires.owed in
    sym (c.sizes-sizes.ensures ∙ last_sizes c.args.actor.now.me.0 k c.args.kind c.args.class c.args.slot owes c.args.stock.now.sizes c.lower.new.actor.me.0 c.requires.sizes
    (((c.in-Last.ensures {u = tt}).lowered k owes.0).0 refl))

pub hang_one-requires-clause-newest : goal.hang_one-requires-clause-newest
hang_one-requires-clause-newest c =
    let (k, owes) = c.requires.owed in
    last_newest c.args.actor.now.me.0 k c.args.kind c.args.class c.args.slot owes c.args.stock.now.limbo c.lower.new.actor.me.0 c.requires.limbo
    (((c.in-Last.ensures {u = tt}).lowered k owes.0).0 refl)

pub returns-in-Done-clause-limbo : goal.returns-in-Done-clause-limbo
returns-in-Done-clause-limbo c =
    let (k, owes) = c.requires.owed in
    more_hangs c.args.actor.now.me.0 k c.args.kind c.args.class c.args.slot owes c.args.stock.now.limbo c.lower.new.actor.me.0 c.requires.limbo (((c.in-Done.ensures {u = tt}).lowered k owes.0).1 refl)
