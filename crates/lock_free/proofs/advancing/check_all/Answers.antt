use Rattle.std.proofs.Common.{sym, subst}
use Rattle.lock_free.specs.Epochs.{having_passed}
use Rattle.lock_free.specs.Loading.{IsSound}
use Rattle.lock_free.proofs.EpochSteps.{known_sound}
use Rattle.lock_free.proofs.advancing.check_all.Goals as goal

pub check-requires-clause-sound : goal.check-requires-clause-sound
check-requires-clause-sound c =
    subst (IsSound c.args.words.now.table_id.words) (sym c.loop-passed.invariant.1)
    (known_sound c.args.words.now.table_id.words c.args.actor.now.me.0 c.args.actor.now.me.0.epoch (having_passed c.args.actor.now.me.0 c.loop-passed.passed).passed c.requires.sound)

pub returns-clause-sound : goal.returns-clause-sound
returns-clause-sound c =
    subst (IsSound c.args.words.now.table_id.words) (sym c.loop-passed.invariant.1)
    (known_sound c.args.words.now.table_id.words c.args.actor.now.me.0 c.args.actor.now.me.0.epoch (having_passed c.args.actor.now.me.0 c.loop-passed.passed).passed c.requires.sound)
