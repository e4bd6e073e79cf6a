use Rattle.lock_free.proofs.RenewEntries.{looked_stock, kept_renewed, old_passing, old_way, link_stock, link_holds, link_making, none_renewed, some_renewed, spent_renewed, spent_stock}
use Rattle.lock_free.proofs.renewing.renew_entry_within.Goals as goal

pub returns-then-keeps-clause-stock : goal.returns-then-keeps-clause-stock
returns-then-keeps-clause-stock c =
    looked_stock c.args.words.now.table_id.words c.args.actor.now.me.0 c.keeps.new.actor.me.0 c.requires.sound c.args.entry c.requires.at c.keeps.result c.keeps.ensures.looked c.args.stock.now
    c.requires.stock

pub returns-then-keeps-clause-renewed : goal.returns-then-keeps-clause-renewed
returns-then-keeps-clause-renewed c =
    kept_renewed c.args.words.now.table_id.words c.args.actor.now.me.0 c.keeps.new.actor.me.0 c.requires.sound c.args.entry c.requires.at c.keeps.result c.keeps.ensures.looked c.if-keeps.true

pub read_on-requires-clause-way : goal.read_on-requires-clause-way
read_on-requires-clause-way c =
    old_way c.args.words.now.table_id.words c.args.actor.now.me.0 c.keeps.new.actor.me.0 c.requires.sound c.args.entry c.requires.at c.keeps.result c.keeps.ensures.looked c.if-keeps.false
    c.args.way c.requires.way

pub read_on-requires-clause-passing : goal.read_on-requires-clause-passing
read_on-requires-clause-passing c =
    old_passing c.args.words.now.table_id.words c.args.actor.now.me.0 c.keeps.new.actor.me.0 c.requires.sound c.args.entry c.requires.at c.keeps.result c.keeps.ensures.looked c.if-keeps.false

pub make_shared_link-requires-clause-stock : goal.make_shared_link-requires-clause-stock
make_shared_link-requires-clause-stock c =
    link_stock c.args.words.now.table_id.words c.args.actor.now.me.0 c.keeps.new.actor.me.0 c.requires.sound c.args.entry c.requires.at c.keeps.result c.keeps.ensures.looked c.if-keeps.false
    c.read_on.new.actor.me.0 c.keeps.ensures.sound c.read_on.ensures.sound c.in-Gives.below (c.in-Gives.ensures {u = tt}).passed c.args.stock.now c.requires.stock

pub make_shared_link-requires-clause-making : goal.make_shared_link-requires-clause-making
make_shared_link-requires-clause-making c =
    link_making c.args.words.now.table_id.words c.args.actor.now.me.0 c.keeps.new.actor.me.0 c.requires.sound c.args.entry c.requires.at c.keeps.result c.keeps.ensures.looked c.if-keeps.false
    c.read_on.new.actor.me.0 c.keeps.ensures.sound c.read_on.ensures.sound c.in-Gives.below (c.in-Gives.ensures {u = tt}).passed c.args.start c.requires.start

pub make_shared_link-requires-clause-holds : goal.make_shared_link-requires-clause-holds
make_shared_link-requires-clause-holds c =
    link_holds c.args.words.now.table_id.words c.args.actor.now.me.0 c.keeps.new.actor.me.0 c.requires.sound c.args.entry c.requires.at c.keeps.result c.keeps.ensures.looked c.if-keeps.false
    c.read_on.new.actor.me.0 c.keeps.ensures.sound c.read_on.ensures.sound c.in-Gives.below (c.in-Gives.ensures {u = tt}).passed c.args.start c.requires.start c.class_of-class.result
    c.class_of-class.ensures

pub returns-in-Some-clause-renewed : goal.returns-in-Some-clause-renewed
returns-in-Some-clause-renewed c =
    some_renewed c.args.words.now.table_id.words c.args.actor.now.me.0 c.keeps.new.actor.me.0 c.requires.sound c.args.entry c.requires.at c.keeps.result c.keeps.ensures.looked c.if-keeps.false
    c.read_on.new.actor.me.0 c.keeps.ensures.sound c.read_on.ensures.sound c.in-Gives.below (c.in-Gives.ensures {u = tt}).passed c.args.start c.requires.start c.make_shared_link.new.actor.me.0
    c.make_shared_link.result c.make_shared_link.ensures.built c.in-Some.slot c.in-Some.is

pub returns-in-None-clause-renewed : goal.returns-in-None-clause-renewed
returns-in-None-clause-renewed c =
    none_renewed c.args.words.now.table_id.words c.args.actor.now.me.0 c.keeps.new.actor.me.0 c.requires.sound c.args.entry c.requires.at c.keeps.result c.keeps.ensures.looked c.if-keeps.false
    c.read_on.new.actor.me.0 c.keeps.ensures.sound c.read_on.ensures.sound c.in-Gives.below (c.in-Gives.ensures {u = tt}).passed c.args.start c.requires.start c.make_shared_link.new.actor.me.0
    c.make_shared_link.result c.make_shared_link.ensures.built c.in-None.is

pub returns-in-Again-clause-stock : goal.returns-in-Again-clause-stock
returns-in-Again-clause-stock c =
    spent_stock c.args.words.now.table_id.words c.args.actor.now.me.0 c.keeps.new.actor.me.0 c.requires.sound c.args.entry c.requires.at c.keeps.result c.keeps.ensures.looked c.if-keeps.false
    c.in-Again.field-0 c.read_on.new.actor.me.0 (c.in-Again.ensures {u = tt}).passed c.keeps.ensures.sound c.args.stock.now c.requires.stock

pub returns-in-Again-clause-renewed : goal.returns-in-Again-clause-renewed
returns-in-Again-clause-renewed c =
    spent_renewed c.args.words.now.table_id.words c.args.actor.now.me.0 c.keeps.new.actor.me.0 c.requires.sound c.args.entry c.requires.at c.keeps.result c.keeps.ensures.looked c.if-keeps.false
    c.in-Again.field-0 c.read_on.new.actor.me.0 (c.in-Again.ensures {u = tt}).passed
