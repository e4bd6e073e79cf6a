use Rattle.lock_free.proofs.ChangedMains.{over_it}
use Rattle.lock_free.proofs.Entombed.{tomb_ready, no_tomb}
use Rattle.lock_free.proofs.TombNames.{tomb_replaces}
use Rattle.lock_free.proofs.changing.build_main.Goals as goal

pub make_tomb_over-requires-clause-making : goal.make_tomb_over-requires-clause-making
make_tomb_over-requires-clause-making c =
    tomb_ready c.args.words.now.table_id.words c.args.actor.now.me.0 c.requires.sound c.args.main c.args.shape c.args.flag c.args.change c.requires.at c.in-Entomb-default.single
    c.in-Entomb-default.is-0

pub make_tomb_over-requires-clause-over : goal.make_tomb_over-requires-clause-over
make_tomb_over-requires-clause-over c = over_it c.args.words.now.table_id.words c.args.actor.now.me.0 c.requires.sound c.args.main c.args.shape c.args.flag c.args.change c.requires.at

pub make_tomb_over-requires-clause-holds : goal.make_tomb_over-requires-clause-holds
make_tomb_over-requires-clause-holds c =
    tomb_replaces c.args.words.now.table_id.words c.args.actor.now.me.0 c.requires.sound c.args.main c.args.shape c.args.flag c.args.change c.requires.at c.in-Entomb-default.single
    c.in-Entomb-default.is-0

pub unreachable-requires : goal.unreachable-requires
unreachable-requires c =
    no_tomb c.args.words.now.table_id.words c.args.actor.now.me.0 c.requires.sound c.args.main c.args.shape c.args.flag c.args.change c.requires.at c.in_default-Tomb.field-0-1 c.in_default-Tomb.is-1
