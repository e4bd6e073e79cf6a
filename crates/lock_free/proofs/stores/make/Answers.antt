use Rattle.std.proofs.Common.{sym, subst}
use Rattle.lock_free.specs.Loading.{IsSound}
use Rattle.lock_free.proofs.MakeStep.{make_allowed, is_own_word}
use Rattle.lock_free.proofs.OwnSlots.{own_word_inside}
use Rattle.lock_free.proofs.stores.make.Goals as goal

pub store-requires : goal.store-requires
store-requires c = (
  c.requires.table,
  own_word_inside c.args.words.now.table_id.words c.args.actor.now.me.0 c.args.word c.requires.sound (is_own_word c.args.actor.now.me.0 c.args.word c.args.value c.requires.making),
  make_allowed c.args.words.now.key c.args.words.now.table_id.slots c.args.actor.now.id c.args.actor.now.me c.requires.sound.bounds.1 c.args.word c.args.value c.requires.making c.requires.raised,
)

pub returns-clause-sound : goal.returns-clause-sound
returns-clause-sound c = subst (λ n. IsSound n c.store.new.seat.me.0) (sym c.requires.sound.size) c.store.ensures.2.1
