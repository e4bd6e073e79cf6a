use Rattle.std.proofs.Common.{subst}
use Rattle.lock_free.specs.Walks.{FoundStartOrNot}
use Rattle.lock_free.proofs.OneWalk.Begins.{begun, begun_left, start_reads, start_spent, start_way}
use Rattle.lock_free.proofs.walking.Walker.begin_within.Goals as goal

pub enter_within-requires-clause-way : goal.enter_within-requires-clause-way
enter_within-requires-clause-way c = start_way c.args.actor.now.me.0 c.requires.at c.in-Some.root c.start_within.new.actor.me.0 (c.in-Some.ensures {u = tt}).found c.args.way c.requires.way

pub enter_within-requires-clause-at : goal.enter_within-requires-clause-at
enter_within-requires-clause-at c =
    start_reads c.args.actor.now.me.0 c.requires.at c.in-Some.root c.start_within.new.actor.me.0 (c.in-Some.ensures {u = tt}).found c.new.result.items c.new.ensures.items

pub returns-in-Err-clause-begun : goal.returns-in-Err-clause-begun
returns-in-Err-clause-begun c =
    begun_left c.args.actor.now.me.0 c.requires.at c.in-Some.root c.start_within.new.actor.me.0 (c.in-Some.ensures {u = tt}).found c.new.result.items c.new.ensures.items c.enter_within.new.actor.me.0
    (c.in-Err.ensures {u = tt}).entered

pub returns-in-Ok-clause-begun : goal.returns-in-Ok-clause-begun
returns-in-Ok-clause-begun c =
    begun c.args.actor.now.me.0 c.requires.at c.in-Some.root c.start_within.new.actor.me.0 (c.in-Some.ensures {u = tt}).found c.new.result.items c.new.ensures.items c.enter_within.new.actor.me.0
    c.enter_within.new.self (c.in-Ok.ensures {u = tt}).entered

pub returns-in_default-clause-begun : goal.returns-in_default-clause-begun
returns-in_default-clause-begun c =
    start_spent c.args.actor.now.me.0 c.requires.at c.start_within.new.actor.me.0
    (subst (λ r. FoundStartOrNot c.args.actor.now.me.0 r c.start_within.new.actor.me.0) c.in_default.is c.start_within.ensures.found)
