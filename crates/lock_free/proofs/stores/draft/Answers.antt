use Rattle.std.proofs.Common.{ap, sym, subst}
use Rattle.lock_free.specs.Loading.{IsSound}
use Rattle.lock_free.proofs.OwnSlots.{draft_allowed, drafted_sound, own_word_inside}
use Rattle.lock_free.proofs.stores.draft.Goals as goal

pub store-requires : goal.store-requires
store-requires c = (
  c.requires.table,
  own_word_inside c.args.words.now.table_id.words c.args.actor.now.me.0 c.args.word c.requires.sound c.requires.own,
  draft_allowed c.args.words.now.key c.args.words.now.table_id.slots c.args.actor.now.id c.args.actor.now.me c.requires.sound.bounds.1 c.args.word c.args.value c.requires.own,
)

pub returns-clause-sound : goal.returns-clause-sound
returns-clause-sound c =
    subst (λ v. IsSound c.args.words.now.table_id.words v) (sym (ap (λ me. me.0) c.store.ensures.2))
    (drafted_sound c.args.words.now.table_id.words c.args.actor.now.me.0 c.args.word c.args.value c.requires.sound)
