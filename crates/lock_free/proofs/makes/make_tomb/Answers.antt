use Rattle.lock_free.proofs.MainMakes.{tomb_at}
use Rattle.lock_free.proofs.makes.make_tomb.Goals as goal

pub make_main-requires-clause-making : goal.make_main-requires-clause-making
make_main-requires-clause-making c = tomb_at c.args.words.now.table_id.words c.args.actor.now.me.0 c.requires.sound c.requires.making.0 c.args.single c.requires.making.1 c.requires.making.2
