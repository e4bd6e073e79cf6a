use Rattle.std.proofs.Common.{◌+◌, ◌-◌, sym, ap, subst, ◌∙◌, arith}
use Rattle.nodes.specs.Levels.{parting}
use Rattle.lock_free.specs.BuildingUp.{HasPaired}
use Rattle.lock_free.proofs.Besides.{pair_held, position_small, depth_small, key_held, pair_holds, pair_ready, pair_stock, pair_none, link_ready, paired}
use Rattle.lock_free.proofs.building.build_beside.Goals as goal

pub see_entry-old-requires-clause-held : goal.see_entry-old-requires-clause-held
see_entry-old-requires-clause-held c = pair_held c.args.words.now.table_id.words c.args.actor.now.me.0 c.requires.sound c.args.by c.args.given c.args.position c.args.single c.requires.at

pub overflow_cast-position : goal.overflow_cast-position
overflow_cast-position c =
    let low = position_small c.args.words.now.table_id.words c.args.actor.now.me.0 c.requires.sound c.args.by c.args.given c.args.position c.args.single c.requires.at in omega (arith, low)

pub overflow_add-by : goal.overflow_add-by
overflow_add-by c =
    let low = depth_small c.args.words.now.table_id.words c.args.actor.now.me.0 c.requires.sound c.args.by c.args.given c.args.position c.args.single c.requires.at in omega (arith, low)

pub see_key-requires-clause-held : goal.see_key-requires-clause-held
see_key-requires-clause-held c =
    key_held c.args.words.now.table_id.words c.args.actor.now.me.0 c.requires.sound c.args.by c.args.given c.args.position c.args.single c.requires.at c.see_entry-old.new.actor.me.0
    c.see_entry-old.result c.see_entry-old.ensures.seen

pub make_shared_pair-requires-clause-stock : goal.make_shared_pair-requires-clause-stock
make_shared_pair-requires-clause-stock c =
    pair_stock c.args.words.now.table_id.words c.args.actor.now.me.0 c.requires.sound c.args.by c.args.given c.args.position c.args.single c.requires.at c.see_entry-old.new.actor.me.0
    c.see_entry-old.result c.see_entry-old.ensures.seen
    c.see_entry-old.ensures.sound c.see_key.new.actor.me.0 c.see_key.ensures.sound c.see_key.result c.see_key.ensures.seen c.hash-old_hash.result c.hash-old_hash.ensures c.parting-depth.result
    (c.parting-depth.ensures ∙ ap (λ x. parting (x - (c.args.by.depth + 1)) c.hash-old_hash.result c.args.by.hash (c.args.by.depth + 1)) c.list_depth-most.ensures.depth)
    c.args.stock.now c.requires.stock

pub make_shared_pair-requires-clause-making : goal.make_shared_pair-requires-clause-making
make_shared_pair-requires-clause-making c =
    pair_ready c.args.words.now.table_id.words c.args.actor.now.me.0 c.requires.sound c.args.by c.args.given c.args.position c.args.single c.requires.at c.see_entry-old.new.actor.me.0
    c.see_entry-old.result c.see_entry-old.ensures.seen
    c.see_entry-old.ensures.sound c.see_key.new.actor.me.0 c.see_key.ensures.sound c.see_key.result c.see_key.ensures.seen c.hash-old_hash.result c.hash-old_hash.ensures c.parting-depth.result
    (c.parting-depth.ensures ∙ ap (λ x. parting (x - (c.args.by.depth + 1)) c.hash-old_hash.result c.args.by.hash (c.args.by.depth + 1)) c.list_depth-most.ensures.depth)

pub make_shared_pair-requires-clause-holds : goal.make_shared_pair-requires-clause-holds
make_shared_pair-requires-clause-holds c =
    pair_holds c.args.words.now.table_id.words c.args.actor.now.me.0 c.requires.sound c.args.by c.args.given c.args.position c.args.single c.requires.at c.see_entry-old.new.actor.me.0
    c.see_entry-old.result c.see_entry-old.ensures.seen
    c.see_entry-old.ensures.sound c.see_key.new.actor.me.0 c.see_key.ensures.sound c.see_key.result c.see_key.ensures.seen c.hash-old_hash.result c.hash-old_hash.ensures c.parting-depth.result
    (c.parting-depth.ensures ∙ ap (λ x. parting (x - (c.args.by.depth + 1)) c.hash-old_hash.result c.args.by.hash (c.args.by.depth + 1)) c.list_depth-most.ensures.depth)

pub returns-in_err-main-clause-paired : goal.returns-in_err-main-clause-paired
returns-in_err-main-clause-paired c =
    subst (λ r. HasPaired c.args.actor.now.me.0 c.args.position r c.make_shared_pair.new.actor.me.0) (sym c.from_residual.ensures)
    (pair_none c.args.words.now.table_id.words c.args.actor.now.me.0 c.requires.sound c.args.by c.args.given c.args.position c.args.single c.requires.at c.see_entry-old.new.actor.me.0
    c.see_entry-old.result c.see_entry-old.ensures.seen
    c.see_entry-old.ensures.sound c.see_key.new.actor.me.0 c.see_key.ensures.sound c.see_key.result c.see_key.ensures.seen c.hash-old_hash.result c.hash-old_hash.ensures c.parting-depth.result
    (c.parting-depth.ensures ∙ ap (λ x. parting (x - (c.args.by.depth + 1)) c.hash-old_hash.result c.args.by.hash (c.args.by.depth + 1)) c.list_depth-most.ensures.depth)
    c.make_shared_pair.new.actor.me.0 (c.in_err-main.ensures {u = tt}).built)

pub lead-requires-clause-at : goal.lead-requires-clause-at
lead-requires-clause-at c =
    link_ready c.args.words.now.table_id.words c.args.actor.now.me.0 c.requires.sound c.args.by c.args.given c.args.position c.args.single c.requires.at c.see_entry-old.new.actor.me.0
    c.see_entry-old.result c.see_entry-old.ensures.seen
    c.see_entry-old.ensures.sound c.see_key.new.actor.me.0 c.see_key.ensures.sound c.see_key.result c.see_key.ensures.seen c.hash-old_hash.result c.hash-old_hash.ensures c.parting-depth.result
    (c.parting-depth.ensures ∙ ap (λ x. parting (x - (c.args.by.depth + 1)) c.hash-old_hash.result c.args.by.hash (c.args.by.depth + 1)) c.list_depth-most.ensures.depth)
    c.make_shared_pair.new.actor.me.0 c.in_ok-main.main (c.in_ok-main.ensures {u = tt}).built

pub returns-clause-paired : goal.returns-clause-paired
returns-clause-paired c =
    paired c.args.words.now.table_id.words c.args.actor.now.me.0 c.requires.sound c.args.by c.args.given c.args.position c.args.single c.requires.at c.see_entry-old.new.actor.me.0
    c.see_entry-old.result c.see_entry-old.ensures.seen
    c.see_entry-old.ensures.sound c.see_key.new.actor.me.0 c.see_key.ensures.sound c.see_key.result c.see_key.ensures.seen c.hash-old_hash.result c.hash-old_hash.ensures c.parting-depth.result
    (c.parting-depth.ensures ∙ ap (λ x. parting (x - (c.args.by.depth + 1)) c.hash-old_hash.result c.args.by.hash (c.args.by.depth + 1)) c.list_depth-most.ensures.depth)
    c.make_shared_pair.new.actor.me.0 c.in_ok-main.main (c.in_ok-main.ensures {u = tt}).built c.lead.result c.lead.new.actor.me.0 c.lead.ensures.led
