use Rattle.lock_free.proofs.Settles.{decided_passes, is_deciding, still_to_ask}
use Rattle.lock_free.proofs.reading.settle_in_place.Goals as goal

pub settle_by-requires-clause-deciding : goal.settle_by-requires-clause-deciding
settle_by-requires-clause-deciding c =
    is_deciding c.args.actor.now.me.0 c.is_licensed.new.actor.me.0 c.args.way c.args.link c.args.header c.requires.pending c.in-Some.licensed (c.in-Some.ensures {u = tt}).licensed

pub returns-in-Some-clause-passed : goal.returns-in-Some-clause-passed
returns-in-Some-clause-passed c =
    decided_passes c.args.actor.now.me.0 c.is_licensed.new.actor.me.0 c.args.way c.args.link c.args.header c.requires.pending c.in-Some.licensed (c.in-Some.ensures {u = tt}).licensed
    c.settle_by.result c.settle_by.new.actor.me.0 c.settle_by.ensures.passed

pub returns-in-None-clause-passed : goal.returns-in-None-clause-passed
returns-in-None-clause-passed c =
    still_to_ask c.args.actor.now.me.0 c.is_licensed.new.actor.me.0 c.args.way c.args.link c.args.header c.requires.pending c.requires.way (c.in-None.ensures {u = tt}).licensed
