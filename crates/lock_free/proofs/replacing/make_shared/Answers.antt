use Rattle.machine_model.specs.declared.actions.Action.TheVariants as act
use Rattle.lock_free.specs.Halves.{entries_of_halves}
use Rattle.lock_free.specs.Raising.{all_but}
use Rattle.lock_free.proofs.Resting.{rested_kept}
use Rattle.lock_free.proofs.SharedMakes.{back_held, back_rested, built_new, raised_at, raised_holds, raised_kept, raised_main, raised_over, stock_kept}
use Rattle.lock_free.proofs.replacing.make_shared.Goals as goal

pub raise_entries-requires-clause-at_hand : goal.raise_entries-requires-clause-at_hand
raise_entries-requires-clause-at_hand c = (c.requires.holds.refs, c.requires.holds.may)

-- a reference couldn't be counted
pub returns-then-not-raise_entries-clause-stock : goal.returns-then-not-raise_entries-clause-stock
returns-then-not-raise_entries-clause-stock c =
    let h = c.requires.holds in
    let kept = (c.if-not-raise_entries.ensures.raised h.refs h.may).kept in
    stock_kept c.args.stock.now c.raise_entries.new.stock c.args.actor.now.me.0 c.raise_entries.new.actor.me.0.owed c.raise_entries.new.actor.me.0 c.requires.stock kept c.raise_entries.ensures.same
    c.raise_entries.ensures.limbo

pub returns-then-not-raise_entries-clause-built : goal.returns-then-not-raise_entries-clause-built
returns-then-not-raise_entries-clause-built c node p =
    let h = c.requires.holds in
    rested_kept c.args.actor.now.me.0 c.raise_entries.new.actor.me.0.owed c.raise_entries.new.actor.me.0 (c.if-not-raise_entries.ensures.raised h.refs h.may).kept

-- the node is made
pub make_main-requires-clause-stock : goal.make_main-requires-clause-stock
make_main-requires-clause-stock c =
    let h = c.requires.holds in
    let v = c.args.actor.now.me.0 in
    let w = c.raise_entries.new.actor.me.0 in
    stock_kept c.args.stock.now c.raise_entries.new.stock v w.owed w c.requires.stock (raised_kept v (all_but c.args.brought h.refs) w (c.if-not-raise_entries.ensures.raised h.refs h.may))
    c.raise_entries.ensures.same
    c.raise_entries.ensures.limbo

pub make_main-requires-clause-making : goal.make_main-requires-clause-making
make_main-requires-clause-making c =
    let h = c.requires.holds in
    raised_main c.args.actor.now.me.0 (all_but c.args.brought h.refs) c.raise_entries.new.actor.me.0 (c.if-not-raise_entries.ensures.raised h.refs h.may) c.args.header.shape
    (entries_of_halves c.args.halves.now) c.requires.making

pub make_main-requires-clause-raised : goal.make_main-requires-clause-raised
make_main-requires-clause-raised c =
    let h = c.requires.holds in
    raised_holds c.args.actor.now.me.0 (entries_of_halves c.args.counted.now) c.args.brought h c.raise_entries.new.actor.me.0 (c.if-not-raise_entries.ensures.raised h.refs h.may)

pub make_main-requires-clause-over : goal.make_main-requires-clause-over
make_main-requires-clause-over c =
    let h = c.requires.holds in
    raised_over c.args.actor.now.me.0 (all_but c.args.brought h.refs) c.raise_entries.new.actor.me.0 (c.if-not-raise_entries.ensures.raised h.refs h.may) c.args.header.previous c.requires.over

pub returns-in-Some-clause-built : goal.returns-in-Some-clause-built
returns-in-Some-clause-built c =
    let h = c.requires.holds in
    built_new c.args.actor.now.me.0 (all_but c.args.brought h.refs) c.raise_entries.new.actor.me.0 (c.if-not-raise_entries.ensures.raised h.refs h.may) c.in-Some.slot c.make_main.new.actor.me.0
    (c.in-Some.ensures {u = tt}).made

-- no slot was had
pub release_entries-requires-clause-sizes : goal.release_entries-requires-clause-sizes
release_entries-requires-clause-sizes c = c.make_main.ensures.stock.sizes

pub release_entries-requires-clause-limbo : goal.release_entries-requires-clause-limbo
release_entries-requires-clause-limbo c = c.make_main.ensures.stock.limbo

pub release_entries-requires-clause-owed : goal.release_entries-requires-clause-owed
release_entries-requires-clause-owed c =
    let h = c.requires.holds in
    let v = c.args.actor.now.me.0 in
    let w = c.raise_entries.new.actor.me.0 in
    let done = c.if-not-raise_entries.ensures.raised h.refs h.may in
    let making = c.requires.making in
    let same = (c.in-None.ensures {u = tt}).made making.node (raised_at v (all_but c.args.brought h.refs) w done (act.Make making.node) making.making) in
    (h.refs, back_held v (entries_of_halves c.args.counted.now) c.args.brought h w done c.make_main.new.actor.me.0 same)

pub returns-in-None-clause-stock : goal.returns-in-None-clause-stock
returns-in-None-clause-stock c =
    let h = c.requires.holds in
    let v = c.args.actor.now.me.0 in
    let w = c.raise_entries.new.actor.me.0 in
    let x = c.make_main.new.actor.me.0 in
    let done = c.if-not-raise_entries.ensures.raised h.refs h.may in
    let making = c.requires.making in
    let same = (c.in-None.ensures {u = tt}).made making.node (raised_at v (all_but c.args.brought h.refs) w done (act.Make making.node) making.making) in
    let released = c.release_entries.ensures.released h.refs (back_held v (entries_of_halves c.args.counted.now) c.args.brought h w done x same) in
    stock_kept c.make_main.new.stock c.release_entries.new.stock x c.release_entries.new.actor.me.0.owed c.release_entries.new.actor.me.0 c.make_main.ensures.stock released.kept
    c.release_entries.ensures.same
    c.release_entries.ensures.limbo

pub returns-in-None-clause-built : goal.returns-in-None-clause-built
returns-in-None-clause-built c node p =
    let h = c.requires.holds in
    let v = c.args.actor.now.me.0 in
    let w = c.raise_entries.new.actor.me.0 in
    let x = c.make_main.new.actor.me.0 in
    let done = c.if-not-raise_entries.ensures.raised h.refs h.may in
    let making = c.requires.making in
    let same = (c.in-None.ensures {u = tt}).made making.node (raised_at v (all_but c.args.brought h.refs) w done (act.Make making.node) making.making) in
    back_rested v (entries_of_halves c.args.counted.now) c.args.brought h w done x c.release_entries.new.actor.me.0 same
    (c.release_entries.ensures.released h.refs (back_held v (entries_of_halves c.args.counted.now) c.args.brought h w done x same))
