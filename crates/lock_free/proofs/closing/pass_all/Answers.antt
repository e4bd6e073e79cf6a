use Rattle.std.proofs.Common.{◌∙◌, ap, refl}
use Rattle.lock_free.specs.declared.rules.View.{View}
use Rattle.lock_free.proofs.Shutting.{none_passed, passed_sound}
use Rattle.lock_free.proofs.closing.pass_all.Goals as goal

pub loop-looked-init : goal.loop-looked-init
loop-looked-init c = (refl, none_passed c.args.actor.now.me.0 c.args.handle c.requires.closing)

pub pass-requires-clause-table : goal.pass-requires-clause-table
pass-requires-clause-table c = c.loop-looked.invariant.0 ∙ c.requires.table

pub pass-requires-clause-sound : goal.pass-requires-clause-sound
pass-requires-clause-sound c = passed_sound c.args.words.now.table_id.words c.args.actor.now.me.0 c.loop-looked.actor.me.0 c.args.handle c.loop-looked.looked c.loop-looked.invariant.1 c.requires.sound

pub pass-requires-clause-its : goal.pass-requires-clause-its
pass-requires-clause-its c = ap (λ (v : View). v.actor) c.loop-looked.invariant.1.is ∙ c.requires.its

pub pass-requires-clause-closing : goal.pass-requires-clause-closing
pass-requires-clause-closing c = c.loop-looked.invariant.1.would

pub returns-clause-sound : goal.returns-clause-sound
returns-clause-sound c = passed_sound c.args.words.now.table_id.words c.args.actor.now.me.0 c.loop-looked.actor.me.0 c.args.handle c.loop-looked.looked c.loop-looked.invariant.1 c.requires.sound
