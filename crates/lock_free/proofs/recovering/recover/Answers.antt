use Rattle.std.proofs.Common.{◌<◌, sym, subst}
use Rattle.lock_free.specs.Loading.{IsSound}
use Rattle.lock_free.proofs.RecoverStep.{recover_allowed, taken_inside}
use Rattle.lock_free.proofs.recovering.recover.Goals as goal

pub load-requires : goal.load-requires
load-requires c = (
  c.requires.table,
  subst (λ n. n < c.args.words.now.table_id.words) (sym c.taken_word_of.ensures) (taken_inside c.args.words.now.table_id.words c.args.actor.now.me.0 c.requires.sound c.args.class c.requires.class),
  recover_allowed c.args.words.now.key c.args.words.now.table_id.slots c.args.actor.now.id c.args.actor.now.me c.requires.sound.bounds.1 c.requires.alone c.args.class c.requires.class
      c.requires.marks.0 c.requires.marks.1 c.requires.marks.2 c.taken_word_of.result c.taken_word_of.ensures,
)

pub returns-clause-sound : goal.returns-clause-sound
returns-clause-sound c = subst (λ n. IsSound n c.load.new.seat.me.0) (sym c.requires.sound.size) c.load.ensures.2.1

pub returns-clause-recovered : goal.returns-clause-recovered
returns-clause-recovered c marks are = c.load.ensures.2.0 c.args.class marks c.requires.class c.taken_word_of.ensures are
