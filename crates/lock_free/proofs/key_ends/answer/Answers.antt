use Rattle.lock_free.proofs.KeyEnds.{finished_done}
use Rattle.lock_free.proofs.key_ends.answer.Goals as goal

pub returns-clause-out : goal.returns-clause-out
returns-clause-out c =
    finished_done c.args.words.now.table_id.words c.args.actor.now.me.0 c.args.call c.args.access c.requires.calling c.finish_call.result c.finish_call.new.actor.me.0 c.finish_call.ensures.sound
    c.seats_are_explained.ensures c.finish_call.ensures.finished
