use Rattle.std.proofs.Common.{subst}
use Rattle.lock_free.specs.Attempts.{IsSought}
use Rattle.lock_free.proofs.KeyChanges.{some_there}
use Rattle.lock_free.proofs.attempts.conclude.Goals as goal

pub change-requires-clause-some : goal.change-requires-clause-some
change-requires-clause-some c =
    let v = c.args.actor.now.me.0 in
    let slots = c.args.path.now.items in
    some_there c.args.words.now.table_id.words v c.requires.sound slots c.in-Changes.given c.in-Changes.update (subst (IsSought v slots c.args.task.now) c.in-Changes.is c.requires.at).1
