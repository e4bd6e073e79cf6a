use Rattle.std.proofs.Common.{ap, sym, subst}
use Rattle.lock_free.specs.Loading.{IsSound}
use Rattle.lock_free.specs.Rules.{none_checked}
use Rattle.lock_free.proofs.EpochSteps.{known_sound, see_allowed}
use Rattle.lock_free.proofs.GiveUpStep.{epoch_inside}
use Rattle.lock_free.proofs.advancing.see_epoch.Goals as goal

pub load-requires : goal.load-requires
load-requires c = (
  c.requires.table,
  epoch_inside c.args.words.now.table_id.words c.args.actor.now.me.0 c.requires.sound,
  see_allowed c.args.words.now.key c.args.words.now.table_id.slots c.args.actor.now.id c.args.actor.now.me c.requires.sound.bounds.1,
)

pub returns-clause-sound : goal.returns-clause-sound
returns-clause-sound c =
    subst (IsSound c.args.words.now.table_id.words) (sym (ap (λ me. me.0) c.load.ensures.2.1))
    (known_sound c.args.words.now.table_id.words c.args.actor.now.me.0 c.load.result none_checked c.requires.sound)
