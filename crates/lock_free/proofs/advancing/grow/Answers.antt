use Rattle.std.proofs.Common.{◌==◌, subst}
use Rattle.lock_free.specs.Epochs.{HasAdvanced}
use Rattle.lock_free.proofs.EpochSteps.{advance_allowed, advanced_sound}
use Rattle.lock_free.proofs.GiveUpStep.{epoch_inside}
use Rattle.lock_free.proofs.advancing.grow.Goals as goal

pub compare_exchange-requires : goal.compare_exchange-requires
compare_exchange-requires c = (
  c.requires.table,
  epoch_inside c.args.words.now.table_id.words c.args.actor.now.me.0 c.requires.sound,
  advance_allowed c.args.words.now.key c.args.words.now.table_id.slots c.args.actor.now.id c.args.actor.now.me c.requires.sound.bounds.1 c.args.epoch c.requires.seen c.requires.all c.requires.fallen,
)

pub returns-clause-grew : goal.returns-clause-grew
returns-clause-grew c =
    subst (λ e. HasAdvanced c.args.actor.now.me.0 (c.compare_exchange.result == e) c.compare_exchange.new.seat.me.0) c.requires.seen c.compare_exchange.ensures.2.0

pub returns-clause-sound : goal.returns-clause-sound
returns-clause-sound c =
    advanced_sound c.args.words.now.table_id.words c.args.actor.now.me.0 (c.compare_exchange.result == c.args.actor.now.me.0.epoch) c.compare_exchange.new.seat.me.0 c.compare_exchange.ensures.2.0
    c.requires.sound
