use Rattle.std.proofs.Common.{subst}
use Rattle.lock_free.specs.Passing.{IsPassing}
use Rattle.lock_free.proofs.OnePass.{asking_pending, reached_passing, reached_passes, reached_way}
use Rattle.lock_free.proofs.reading.pass.Goals as goal

pub pass_header-requires-clause-way : goal.pass_header-requires-clause-way
pass_header-requires-clause-way c =
    let passing = subst (IsPassing c.args.actor.now.me.0 c.args.indirection) c.in-Start.is c.requires.passing in
    reached_way c.args.words.now.table_id.words c.args.actor.now.me.0 c.requires.sound c.args.indirection passing c.read_link-link.new.actor.me.0 c.read_link-link.ensures.sound
    c.read_link-link.result c.read_link-link.ensures.read c.args.way c.requires.way

pub pass_header-requires-clause-passing : goal.pass_header-requires-clause-passing
pass_header-requires-clause-passing c =
    let passing = subst (IsPassing c.args.actor.now.me.0 c.args.indirection) c.in-Start.is c.requires.passing in
    reached_passing c.args.words.now.table_id.words c.args.actor.now.me.0 c.requires.sound c.args.indirection passing c.read_link-link.new.actor.me.0 c.read_link-link.ensures.sound
    c.read_link-link.result c.read_link-link.ensures.read

pub returns-in-Start-clause-passed : goal.returns-in-Start-clause-passed
returns-in-Start-clause-passed c =
    let passing = subst (IsPassing c.args.actor.now.me.0 c.args.indirection) c.in-Start.is c.requires.passing in
    reached_passes c.args.words.now.table_id.words c.args.actor.now.me.0 c.requires.sound c.args.indirection passing c.read_link-link.new.actor.me.0 c.read_link-link.ensures.sound
    c.read_link-link.result c.read_link-link.ensures.read c.pass_header.result c.pass_header.new.actor.me.0 c.pass_header.ensures.passed

pub pass_header-requires-in-Header-clause-passing : goal.pass_header-requires-in-Header-clause-passing
pass_header-requires-in-Header-clause-passing c = subst (IsPassing c.args.actor.now.me.0 c.args.indirection) c.in-Header.is c.requires.passing

pub settle-requires-clause-pending : goal.settle-requires-clause-pending
settle-requires-clause-pending c =
    asking_pending c.args.actor.now.me.0 c.args.indirection c.in-Asking.link c.in-Asking.header c.args.way c.requires.way
    (subst (IsPassing c.args.actor.now.me.0 c.args.indirection) c.in-Asking.is c.requires.passing)
