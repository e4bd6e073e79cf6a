use Rattle.lock_free.proofs.Rootings.{stayed_none, stayed_saw}
use Rattle.lock_free.proofs.SwapsEnded.{fresh_slot}
use Rattle.lock_free.proofs.swapping.is_told.Goals as goal

pub see_main-requires-clause-held : goal.see_main-requires-clause-held
see_main-requires-clause-held c = fresh_slot c.args.words.now.table_id.words c.args.actor.now.me.0 c.requires.sound c.args.swapping c.requires.checking

pub returns-then-swapping-clause-stayed : goal.returns-then-swapping-clause-stayed
returns-then-swapping-clause-stayed c = stayed_none c.args.actor.now.me.0

pub returns-clause-stayed : goal.returns-clause-stayed
returns-clause-stayed c =
    stayed_saw c.args.words.now.table_id.words c.args.actor.now.me.0 c.see_main.new.actor.me.0 c.requires.sound c.see_main.ensures.seen.0
