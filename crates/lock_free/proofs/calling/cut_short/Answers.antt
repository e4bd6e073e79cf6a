use Rattle.std.proofs.Common.{sym, subst}
use Rattle.lock_free.specs.Loading.{IsSound}
use Rattle.lock_free.proofs.CutShort.{cut_allowed}
use Rattle.lock_free.proofs.GiveUpStep.{epoch_inside}
use Rattle.lock_free.proofs.calling.cut_short.Goals as goal

pub load-requires : goal.load-requires
load-requires c = (
  c.requires.table,
  epoch_inside c.args.words.now.table_id.words c.args.actor.now.me.0 c.requires.sound,
  cut_allowed c.args.words.now.key c.args.words.now.table_id.slots c.args.actor.now.id c.args.actor.now.me c.requires.sound.bounds.1 c.requires.runs,
)

pub returns-clause-sound : goal.returns-clause-sound
returns-clause-sound c = subst (λ n. IsSound n c.load.new.seat.me.0) (sym c.requires.sound.size) c.load.ensures.2.1
