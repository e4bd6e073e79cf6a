use Rattle.std.proofs.Common.{◌*◌, sym, subst}
use Rattle.lock_free.specs.Loading.{IsSound}
use Rattle.lock_free.specs.Watching.{HasWatchedHeader}
use Rattle.lock_free.proofs.Watched.{header_told, watch_allowed, watched_inside}
use Rattle.lock_free.proofs.watching.watch_header.Goals as goal

pub load-requires : goal.load-requires
load-requires c = (
  c.requires.table,
  watched_inside c.args.words.now.table_id.words c.args.actor.now.me.0 c.requires.sound c.args.main c.requires.led,
  watch_allowed c.args.words.now.key c.args.words.now.table_id.slots c.args.actor.now.id c.args.actor.now.me (2 * c.args.main) c.requires.sound.bounds.1,
)

pub returns-clause-sound : goal.returns-clause-sound
returns-clause-sound c = subst (λ n. IsSound n c.load.new.seat.me.0) (sym c.requires.sound.size) c.load.ensures.2.1

pub returns-clause-seen : goal.returns-clause-seen
returns-clause-seen c =
    subst (λ h. HasWatchedHeader c.args.actor.now.me.0 c.args.main h c.load.new.seat.me.0) (sym c.of_word.ensures)
    (header_told c.args.actor.now.me.0 c.args.main c.load.result c.load.new.seat.me.0 c.requires.alone c.requires.idle c.load.ensures.2.0)
