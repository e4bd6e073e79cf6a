use Rattle.lock_free.proofs.OnePass.{at_header, gives, is_failed, failed_passes, on_after, is_pending, pending_passes}
use Rattle.lock_free.proofs.reading.pass_header.Goals as goal

pub read_header-header-requires-clause-reading : goal.read_header-header-requires-clause-reading
read_header-header-requires-clause-reading c = at_header c.args.actor.now.me.0 c.args.indirection c.args.link c.requires.passing

pub put_back-requires-clause-failed : goal.put_back-requires-clause-failed
put_back-requires-clause-failed c = is_failed c.args.actor.now.me.0 c.args.indirection c.args.link c.requires.passing
    c.args.words.now.table_id.words c.read_header-header.new.actor.me.0 c.requires.sound c.read_header-header.ensures.sound c.read_header-header.result c.read_header-header.ensures.read
    c.in-Failed.former c.in-Failed.is

pub settle_in_place-requires-clause-way : goal.settle_in_place-requires-clause-way
settle_in_place-requires-clause-way c = on_after c.args.actor.now.me.0 c.args.indirection c.args.link c.requires.passing
    c.args.words.now.table_id.words c.read_header-header.new.actor.me.0 c.requires.sound c.read_header-header.ensures.sound c.read_header-header.result c.read_header-header.ensures.read
    c.args.way c.requires.way c.in-Pending.field-0 c.in-Pending.is

pub settle_in_place-requires-clause-pending : goal.settle_in_place-requires-clause-pending
settle_in_place-requires-clause-pending c = is_pending c.args.actor.now.me.0 c.args.indirection c.args.link c.requires.passing
    c.args.words.now.table_id.words c.read_header-header.new.actor.me.0 c.requires.sound c.read_header-header.ensures.sound c.read_header-header.result c.read_header-header.ensures.read
    c.args.way c.requires.way c.in-Pending.field-0 c.in-Pending.is

pub returns-in-None-clause-passed : goal.returns-in-None-clause-passed
returns-in-None-clause-passed c = gives c.args.actor.now.me.0 c.args.indirection c.args.link c.requires.passing
    c.args.words.now.table_id.words c.read_header-header.new.actor.me.0 c.requires.sound c.read_header-header.ensures.sound c.read_header-header.result c.read_header-header.ensures.read
    c.in-None.is

pub returns-in-Failed-clause-passed : goal.returns-in-Failed-clause-passed
returns-in-Failed-clause-passed c = failed_passes c.args.actor.now.me.0 c.args.indirection c.args.link c.requires.passing c.args.words.now.table_id.words c.read_header-header.new.actor.me.0
    c.requires.sound c.read_header-header.ensures.sound c.read_header-header.result
    c.read_header-header.ensures.read c.in-Failed.former c.in-Failed.is c.put_back.new.actor.me.0 c.put_back.result c.put_back.ensures.passed

pub returns-in-Pending-clause-passed : goal.returns-in-Pending-clause-passed
returns-in-Pending-clause-passed c = pending_passes c.args.actor.now.me.0 c.args.indirection c.args.link c.requires.passing c.args.words.now.table_id.words c.read_header-header.new.actor.me.0
    c.requires.sound c.read_header-header.ensures.sound c.read_header-header.result
    c.read_header-header.ensures.read c.args.way c.requires.way c.in-Pending.field-0 c.in-Pending.is c.settle_in_place.new.actor.me.0 c.settle_in_place.result c.settle_in_place.ensures.passed
