use Rattle.std.proofs.Common.{sym, subst, ◌∙◌}
use Rattle.lock_free.proofs.FreesOn.{becomes_now, freed_left, freed_more, freed_none, let_go_becomes, let_go_stock, ripe_deep, stock_led}
use Rattle.lock_free.specs.Places.{IsSlot}
use Rattle.lock_free.proofs.LetGo.{item_slot}
use Rattle.lock_free.proofs.ripe_nodes.free_one.Goals as goal

pub returns-in_default-clause-freed : goal.returns-in_default-clause-freed
returns-in_default-clause-freed c = freed_none c.args.actor.now.me.0

pub returns-then-not-takes_back-clause-freed : goal.returns-then-not-takes_back-clause-freed
returns-then-not-takes_back-clause-freed c = freed_none c.args.actor.now.me.0

pub reclaim_deep-link-requires-clause-slot : goal.reclaim_deep-link-requires-clause-slot
reclaim_deep-link-requires-clause-slot c =
    subst (λ z. IsSlot z c.args.class c.in-Some.slot) c.requires.sizes
    (item_slot c.args.stock.now.limbo c.args.actor.now.me.0 c.requires.stock.limbo c.args.kind c.args.class c.requires.class c.in-Some.slot (sym c.first_aged.ensures ∙ c.in-Some.is))

pub reclaim_deep-link-requires-clause-ripe : goal.reclaim_deep-link-requires-clause-ripe
reclaim_deep-link-requires-clause-ripe c =
    ripe_deep c.args.stock.now.limbo c.args.actor.now.me.0 c.requires.stock.limbo c.args.kind c.requires.deep c.args.class c.requires.class c.in-Some.slot
    (sym c.first_aged.ensures ∙ c.in-Some.is) c.requires.ripe

pub release_names-requires-clause-limbo : goal.release_names-requires-clause-limbo
release_names-requires-clause-limbo c =
    let stock = c.args.stock.now in
    let v = c.args.actor.now.me.0 in
    let first = sym c.first_aged.ensures ∙ c.in-Some.is in
    (stock_led c.args.words.now.table_id.words v c.requires.sound c.requires.running stock c.requires.stock c.args.kind c.args.class c.requires.class c.in-Some.slot first c.reclaim_deep-link.result
    c.reclaim_deep-link.new.actor.me.0 c.reclaim_deep-link.ensures.freed c.lead_on.new.self c.add.new.self c.lead_on.ensures c.add.ensures.sizes c.add.ensures.pool c.add.ensures.made
    c.add.ensures.limbo).limbo

pub release_names-requires-clause-left : goal.release_names-requires-clause-left
release_names-requires-clause-left c =
    let stock = c.args.stock.now in
    let v = c.args.actor.now.me.0 in
    let first = sym c.first_aged.ensures ∙ c.in-Some.is in
    freed_left c.args.words.now.table_id.words v c.requires.sound c.requires.running stock c.requires.stock c.args.kind c.args.class c.requires.class c.in-Some.slot first c.reclaim_deep-link.result
    c.reclaim_deep-link.new.actor.me.0 c.reclaim_deep-link.ensures.freed

pub returns-clause-stock : goal.returns-clause-stock
returns-clause-stock c =
    let stock = c.args.stock.now in
    let v = c.args.actor.now.me.0 in
    let first = sym c.first_aged.ensures ∙ c.in-Some.is in
    let_go_stock c.reclaim_deep-link.new.actor.me.0 c.release_names.new.actor.me.0 c.add.new.self c.release_names.new.stock
    (stock_led c.args.words.now.table_id.words v c.requires.sound c.requires.running stock c.requires.stock c.args.kind c.args.class c.requires.class c.in-Some.slot first c.reclaim_deep-link.result
    c.reclaim_deep-link.new.actor.me.0 c.reclaim_deep-link.ensures.freed c.lead_on.new.self c.add.new.self c.lead_on.ensures c.add.ensures.sizes c.add.ensures.pool c.add.ensures.made
    c.add.ensures.limbo)
    (c.release_names.ensures.released
    (freed_left c.args.words.now.table_id.words v c.requires.sound c.requires.running stock c.requires.stock c.args.kind c.args.class c.requires.class c.in-Some.slot first
    c.reclaim_deep-link.result c.reclaim_deep-link.new.actor.me.0 c.reclaim_deep-link.ensures.freed)).kept c.release_names.ensures.same c.release_names.ensures.limbo

pub returns-clause-freed : goal.returns-clause-freed
returns-clause-freed c =
    let stock = c.args.stock.now in
    let v = c.args.actor.now.me.0 in
    let w = c.reclaim_deep-link.new.actor.me.0 in
    let first = sym c.first_aged.ensures ∙ c.in-Some.is in
    freed_more v w c.release_names.new.actor.me.0
    (becomes_now c.args.words.now.table_id.words v c.requires.sound c.requires.running stock c.requires.stock c.args.kind c.args.class c.requires.class c.in-Some.slot first
    c.reclaim_deep-link.result w c.reclaim_deep-link.ensures.freed)
    (let_go_becomes w c.release_names.new.actor.me.0
    (c.release_names.ensures.released
    (freed_left c.args.words.now.table_id.words v c.requires.sound c.requires.running stock c.requires.stock c.args.kind c.args.class c.requires.class c.in-Some.slot first
    c.reclaim_deep-link.result c.reclaim_deep-link.new.actor.me.0 c.reclaim_deep-link.ensures.freed)).kept)
