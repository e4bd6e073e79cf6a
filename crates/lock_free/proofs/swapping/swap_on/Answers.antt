use Rattle.std.proofs.Common.{sym, ◌∙◌}
use Rattle.lock_free.proofs.SwapsLeft.{at_check, at_hangs, at_sizes, decides, its_passing, on_hangs, swapped_on}
use Rattle.lock_free.proofs.swapping.swap_on.Goals as goal

pub end_read_within-requires-clause-passing : goal.end_read_within-requires-clause-passing
end_read_within-requires-clause-passing c = its_passing c.args.actor.now.me.0 c.args.swapping c.requires.swapping

pub returns-in-Some-clause-on : goal.returns-in-Some-clause-on
returns-in-Some-clause-on c =
    swapped_on c.args.actor.now.me.0 c.args.swapping c.requires.swapping c.args.words.now.table_id.words c.requires.sound c.in-Some.from
    c.end_read_within.new.actor.me.0 (c.in-Some.ensures {u = tt}).ended

pub returns-in-Some-clause-limbo : goal.returns-in-Some-clause-limbo
returns-in-Some-clause-limbo c =
    on_hangs c.args.actor.now.me.0 c.args.swapping c.requires.swapping c.args.words.now.table_id.words c.requires.sound c.in-Some.from
    c.end_read_within.new.actor.me.0 (c.in-Some.ensures {u = tt}).ended
    c.args.stock.now.limbo
    c.requires.limbo

pub end_swap-requires-clause-checking : goal.end_swap-requires-clause-checking
end_swap-requires-clause-checking c =
    let ended = (c.in-None.ensures {u = tt}).ended in
    at_check c.args.actor.now.me.0 c.args.swapping c.requires.swapping c.args.words.now.table_id.words c.requires.sound c.end_read_within.new.actor.me.0 ended.0 ended.1

pub end_swap-requires-clause-sizes : goal.end_swap-requires-clause-sizes
end_swap-requires-clause-sizes c =
    let ended = (c.in-None.ensures {u = tt}).ended in
    c.requires.sizes ∙ sym (at_sizes c.args.actor.now.me.0 c.args.swapping c.requires.swapping c.args.words.now.table_id.words c.requires.sound c.end_read_within.new.actor.me.0 ended.0 ended.1)

pub end_swap-requires-clause-limbo : goal.end_swap-requires-clause-limbo
end_swap-requires-clause-limbo c =
    let ended = (c.in-None.ensures {u = tt}).ended in
    at_hangs c.args.actor.now.me.0 c.args.swapping c.requires.swapping c.args.words.now.table_id.words c.requires.sound c.end_read_within.new.actor.me.0 ended.0 ended.1 c.args.stock.now.limbo
    c.requires.limbo

pub returns-in-None-clause-done : goal.returns-in-None-clause-done
returns-in-None-clause-done c =
    let ended = (c.in-None.ensures {u = tt}).ended in
    decides c.args.actor.now.me.0 c.args.swapping c.requires.swapping c.args.words.now.table_id.words c.requires.sound c.end_read_within.new.actor.me.0 ended.0 ended.1 c.end_swap.result
    c.end_swap.new.actor.me.0 c.end_swap.ensures.ended
