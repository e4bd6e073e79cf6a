use Rattle.std.proofs.Common.{sym, ap, ◌∙◌}
use Rattle.lock_free.specs.Swaps.{is_done}
use Rattle.lock_free.proofs.ClimbContracts.{its_making, its_over, its_owes, gives_up, its_way, its_swap, goes_higher, ends_there}
use Rattle.lock_free.proofs.ClimbContracts.{ask_way, ask_start, is_asking, asked_or_spent, spent_or_stock, contract_left}
use Rattle.lock_free.proofs.climbs.contract_within.Goals as goal

pub make_contracted-requires-clause-making : goal.make_contracted-requires-clause-making
make_contracted-requires-clause-making c =
    its_making c.args.words.now.table_id.words c.args.actor.now.me.0 c.requires.sound c.args.parent c.args.link c.args.bitmap c.args.entries.now.items c.args.single c.args.may_entomb c.requires.at

pub make_contracted-requires-clause-over : goal.make_contracted-requires-clause-over
make_contracted-requires-clause-over c =
    its_over c.args.words.now.table_id.words c.args.actor.now.me.0 c.requires.sound c.args.parent c.args.link c.args.bitmap c.args.entries.now.items c.args.single c.args.may_entomb c.requires.at

pub make_contracted-requires-clause-holds : goal.make_contracted-requires-clause-holds
make_contracted-requires-clause-holds c =
    its_owes c.args.words.now.table_id.words c.args.actor.now.me.0 c.requires.sound c.args.parent c.args.link c.args.bitmap c.args.entries.now.items c.args.single c.args.may_entomb c.requires.at

pub returns-in_default-clause-contracted : goal.returns-in_default-clause-contracted
returns-in_default-clause-contracted c =
    gives_up c.args.words.now.table_id.words c.args.actor.now.me.0 c.requires.sound c.args.parent c.args.link c.args.bitmap c.args.entries.now.items c.args.single c.args.may_entomb c.requires.at
    c.make_contracted.new.actor.me.0 c.make_contracted.result c.make_contracted.ensures.built c.in_default.is

pub swap_seen_within-requires-clause-way : goal.swap_seen_within-requires-clause-way
swap_seen_within-requires-clause-way c =
    its_way c.args.words.now.table_id.words c.args.actor.now.me.0 c.requires.sound c.args.parent c.args.link c.args.bitmap c.args.entries.now.items c.args.single c.args.may_entomb c.requires.at
    c.make_contracted.new.actor.me.0 c.make_contracted.result c.make_contracted.ensures.built c.in-Some.fresh c.in-Some.is c.args.way c.requires.way

pub swap_seen_within-requires-clause-swapping : goal.swap_seen_within-requires-clause-swapping
swap_seen_within-requires-clause-swapping c =
    its_swap c.args.words.now.table_id.words c.args.actor.now.me.0 c.requires.sound c.args.parent c.args.link c.args.bitmap c.args.entries.now.items c.args.single c.args.may_entomb c.requires.at
    c.make_contracted.new.actor.me.0 c.make_contracted.result c.make_contracted.ensures.built c.in-Some.fresh c.in-Some.is c.class_of-class.result c.class_of-class.ensures

pub returns-then-entombs-clause-contracted : goal.returns-then-entombs-clause-contracted
returns-then-entombs-clause-contracted c =
    goes_higher c.args.words.now.table_id.words c.args.actor.now.me.0 c.requires.sound c.args.parent c.args.link c.args.bitmap c.args.entries.now.items c.args.single c.args.may_entomb c.requires.at
    c.make_contracted.new.actor.me.0 c.make_contracted.result c.make_contracted.ensures.built c.in-Some.fresh c.in-Some.is
    c.in-Ok.swapped c.swap_seen_within.new.actor.me.0 (c.in-Ok.ensures {u = tt}).done c.in-Commits.field-0 c.in-Commits.is (sym c.entombs.ensures ∙ c.if-entombs.true)

pub returns-else-entombs-clause-contracted : goal.returns-else-entombs-clause-contracted
returns-else-entombs-clause-contracted c =
    ends_there c.args.words.now.table_id.words c.args.actor.now.me.0 c.requires.sound c.args.parent c.args.link c.args.bitmap c.args.entries.now.items c.args.single c.args.may_entomb c.requires.at
    c.make_contracted.new.actor.me.0 c.make_contracted.result c.make_contracted.ensures.built c.in-Some.fresh c.in-Some.is
    c.in-Ok.swapped c.swap_seen_within.new.actor.me.0 (c.in-Ok.ensures {u = tt}).done c.in-Commits.field-0 c.in-Commits.is (sym c.entombs.ensures ∙ c.if-entombs.false)

pub ask_again_within-requires-clause-way : goal.ask_again_within-requires-clause-way
ask_again_within-requires-clause-way c =
    ask_way c.args.words.now.table_id.words c.args.actor.now.me.0 c.requires.sound c.args.parent c.args.link c.args.bitmap c.args.entries.now.items c.args.single c.args.may_entomb c.requires.at
    c.make_contracted.new.actor.me.0 c.make_contracted.result c.make_contracted.ensures.built c.in-Some.fresh c.in-Some.is
    c.in-Ok.swapped c.swap_seen_within.new.actor.me.0 (c.in-Ok.ensures {u = tt}).done (ap is_done c.in-Fails.is) c.args.way c.requires.way

pub ask_again_within-requires-clause-start : goal.ask_again_within-requires-clause-start
ask_again_within-requires-clause-start c =
    ask_start c.args.words.now.table_id.words c.args.actor.now.me.0 c.requires.sound c.args.parent c.args.link c.args.bitmap c.args.entries.now.items c.args.single c.args.may_entomb c.requires.at
    c.make_contracted.new.actor.me.0 c.make_contracted.result c.make_contracted.ensures.built c.in-Some.fresh c.in-Some.is
    c.in-Ok.swapped c.swap_seen_within.new.actor.me.0 (c.in-Ok.ensures {u = tt}).done (ap is_done c.in-Fails.is) c.args.start c.requires.start

pub ask_again_within-requires-clause-at : goal.ask_again_within-requires-clause-at
ask_again_within-requires-clause-at c =
    is_asking c.args.words.now.table_id.words c.args.actor.now.me.0 c.requires.sound c.args.parent c.args.link c.args.bitmap c.args.entries.now.items c.args.single c.args.may_entomb c.requires.at
    c.make_contracted.new.actor.me.0 c.make_contracted.result c.make_contracted.ensures.built c.in-Some.fresh c.in-Some.is
    c.in-Ok.swapped c.swap_seen_within.new.actor.me.0 (c.in-Ok.ensures {u = tt}).done (ap is_done c.in-Fails.is)

pub returns-in-Fails-clause-contracted : goal.returns-in-Fails-clause-contracted
returns-in-Fails-clause-contracted c =
    asked_or_spent c.args.words.now.table_id.words c.args.actor.now.me.0 c.requires.sound c.args.parent c.args.link c.args.bitmap c.args.entries.now.items c.args.single c.args.may_entomb c.requires.at
    c.make_contracted.new.actor.me.0 c.make_contracted.result c.make_contracted.ensures.built c.in-Some.fresh c.in-Some.is
    c.in-Ok.swapped c.swap_seen_within.new.actor.me.0 (c.in-Ok.ensures {u = tt}).done (ap is_done c.in-Fails.is)
    c.swap_seen_within.ensures.sound c.ask_again_within.new.actor.me.0 c.ask_again_within.result c.ask_again_within.ensures.asked

pub returns-in-Fails-clause-stock : goal.returns-in-Fails-clause-stock
returns-in-Fails-clause-stock c =
    spent_or_stock c.args.words.now.table_id.words c.args.actor.now.me.0 c.requires.sound c.args.parent c.args.link c.args.bitmap c.args.entries.now.items c.args.single c.args.may_entomb c.requires.at
    c.make_contracted.new.actor.me.0 c.make_contracted.result c.make_contracted.ensures.built c.in-Some.fresh c.in-Some.is
    c.in-Ok.swapped c.swap_seen_within.new.actor.me.0 (c.in-Ok.ensures {u = tt}).done (ap is_done c.in-Fails.is)
    c.swap_seen_within.ensures.sound c.ask_again_within.new.actor.me.0 c.ask_again_within.result c.ask_again_within.ensures.asked c.swap_seen_within.new.stock c.swap_seen_within.ensures.stock

pub ask_again_within-requires-in-Misses-clause-way : goal.ask_again_within-requires-in-Misses-clause-way
ask_again_within-requires-in-Misses-clause-way c =
    ask_way c.args.words.now.table_id.words c.args.actor.now.me.0 c.requires.sound c.args.parent c.args.link c.args.bitmap c.args.entries.now.items c.args.single c.args.may_entomb c.requires.at
    c.make_contracted.new.actor.me.0 c.make_contracted.result c.make_contracted.ensures.built c.in-Some.fresh c.in-Some.is
    c.in-Ok.swapped c.swap_seen_within.new.actor.me.0 (c.in-Ok.ensures {u = tt}).done (ap is_done c.in-Misses.is) c.args.way c.requires.way

pub ask_again_within-requires-in-Misses-clause-start : goal.ask_again_within-requires-in-Misses-clause-start
ask_again_within-requires-in-Misses-clause-start c =
    ask_start c.args.words.now.table_id.words c.args.actor.now.me.0 c.requires.sound c.args.parent c.args.link c.args.bitmap c.args.entries.now.items c.args.single c.args.may_entomb c.requires.at
    c.make_contracted.new.actor.me.0 c.make_contracted.result c.make_contracted.ensures.built c.in-Some.fresh c.in-Some.is
    c.in-Ok.swapped c.swap_seen_within.new.actor.me.0 (c.in-Ok.ensures {u = tt}).done (ap is_done c.in-Misses.is) c.args.start c.requires.start

pub ask_again_within-requires-in-Misses-clause-at : goal.ask_again_within-requires-in-Misses-clause-at
ask_again_within-requires-in-Misses-clause-at c =
    is_asking c.args.words.now.table_id.words c.args.actor.now.me.0 c.requires.sound c.args.parent c.args.link c.args.bitmap c.args.entries.now.items c.args.single c.args.may_entomb c.requires.at
    c.make_contracted.new.actor.me.0 c.make_contracted.result c.make_contracted.ensures.built c.in-Some.fresh c.in-Some.is
    c.in-Ok.swapped c.swap_seen_within.new.actor.me.0 (c.in-Ok.ensures {u = tt}).done (ap is_done c.in-Misses.is)

pub returns-in-Misses-clause-contracted : goal.returns-in-Misses-clause-contracted
returns-in-Misses-clause-contracted c =
    asked_or_spent c.args.words.now.table_id.words c.args.actor.now.me.0 c.requires.sound c.args.parent c.args.link c.args.bitmap c.args.entries.now.items c.args.single c.args.may_entomb c.requires.at
    c.make_contracted.new.actor.me.0 c.make_contracted.result c.make_contracted.ensures.built c.in-Some.fresh c.in-Some.is
    c.in-Ok.swapped c.swap_seen_within.new.actor.me.0 (c.in-Ok.ensures {u = tt}).done (ap is_done c.in-Misses.is)
    c.swap_seen_within.ensures.sound c.ask_again_within-in-Misses.new.actor.me.0 c.ask_again_within-in-Misses.result c.ask_again_within-in-Misses.ensures.asked

pub returns-in-Misses-clause-stock : goal.returns-in-Misses-clause-stock
returns-in-Misses-clause-stock c =
    spent_or_stock c.args.words.now.table_id.words c.args.actor.now.me.0 c.requires.sound c.args.parent c.args.link c.args.bitmap c.args.entries.now.items c.args.single c.args.may_entomb c.requires.at
    c.make_contracted.new.actor.me.0 c.make_contracted.result c.make_contracted.ensures.built c.in-Some.fresh c.in-Some.is
    c.in-Ok.swapped c.swap_seen_within.new.actor.me.0 (c.in-Ok.ensures {u = tt}).done (ap is_done c.in-Misses.is)
    c.swap_seen_within.ensures.sound c.ask_again_within-in-Misses.new.actor.me.0 c.ask_again_within-in-Misses.result c.ask_again_within-in-Misses.ensures.asked c.swap_seen_within.new.stock
    c.swap_seen_within.ensures.stock

pub returns-in-Err-clause-left : goal.returns-in-Err-clause-left
returns-in-Err-clause-left c =
    contract_left c.args.words.now.table_id.words c.args.actor.now.me.0 c.requires.sound c.args.parent c.args.link c.args.bitmap c.args.entries.now.items c.args.single c.args.may_entomb c.requires.at
    c.make_contracted.new.actor.me.0 c.make_contracted.result c.make_contracted.ensures.built c.in-Some.fresh c.in-Some.is
    c.in-Err.swapping c.swap_seen_within.new.actor.me.0 (c.in-Err.ensures {u = tt}).left
