use Rattle.std.proofs.Common.{◌<◌, refl, sym, subst}
use Rattle.lock_free.specs.Alone.{HasSeenPlainWord}
use Rattle.lock_free.specs.Loading.{IsSound}
use Rattle.lock_free.proofs.PlainSeen.{plain_allowed}
use Rattle.lock_free.proofs.SeenRoots.{root_inside}
use Rattle.lock_free.proofs.recovering.see_plain.Goals as goal

pub load-requires : goal.load-requires
load-requires c = (
  c.requires.table,
  subst (λ n. n < c.args.words.now.table_id.words) (sym c.root_word_of.ensures) (root_inside c.args.words.now.table_id.words c.args.actor.now.me.0 c.requires.sound c.args.handle c.requires.low),
  plain_allowed c.args.words.now.key c.args.words.now.table_id.slots c.args.actor.now.id c.args.actor.now.me c.requires.sound.bounds.1 c.requires.alone c.requires.rests c.args.handle c.requires.low
      c.root_word_of.result c.root_word_of.ensures,
)

pub returns-clause-sound : goal.returns-clause-sound
returns-clause-sound c = subst (λ n. IsSound n c.load.new.seat.me.0) (sym c.requires.sound.size) c.load.ensures.2.1

pub returns-clause-seen : goal.returns-clause-seen
returns-clause-seen c =
    subst (λ w. HasSeenPlainWord c.args.actor.now.me.0 c.args.handle w c.load.new.seat.me.0) (sym c.of_word.ensures)
    (c.load.result, refl, c.load.ensures.2.0 c.args.handle c.requires.low c.root_word_of.ensures)
