use Rattle.lock_free.proofs.FreeStep.{see_draft_allowed}
use Rattle.lock_free.proofs.freeing.see_draft.Goals as goal

pub load-requires : goal.load-requires
load-requires c = (
  c.requires.table,
  c.requires.inside,
  see_draft_allowed c.args.words.now.key c.args.words.now.table_id.slots c.args.actor.now.id c.args.actor.now.me c.args.word c.requires.sound.bounds.1,
)
