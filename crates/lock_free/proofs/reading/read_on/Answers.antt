use Rattle.std.proofs.Common.{refl, ◌∙◌}
use Rattle.lock_free.specs.declared.reading.Passed.TheVariants as passed
use Rattle.lock_free.proofs.OnePass.{none_yet, more, one_more}
use Rattle.lock_free.proofs.reading.read_on.Goals as goal

pub loop-init : goal.loop-init
loop-init c = (refl, none_yet c.args.words.now.table_id.words c.args.way c.args.indirection c.args.actor.now.me.0 c.args.from c.requires.sound c.requires.way c.requires.passing)

pub pass-requires-clause-table : goal.pass-requires-clause-table
pass-requires-clause-table c = c.loop.invariant.0 ∙ c.requires.table

pub pass-requires-clause-sound : goal.pass-requires-clause-sound
pass-requires-clause-sound c = c.loop.invariant.1.sound

pub pass-requires-clause-way : goal.pass-requires-clause-way
pass-requires-clause-way c = c.loop.invariant.1.on

pub pass-requires-clause-passing : goal.pass-requires-clause-passing
pass-requires-clause-passing c = c.loop.invariant.1.passing

pub returns-in-Gives-clause-table : goal.returns-in-Gives-clause-table
returns-in-Gives-clause-table c = c.pass.ensures.table ∙ c.loop.invariant.0

pub returns-in-Gives-clause-passed : goal.returns-in-Gives-clause-passed
returns-in-Gives-clause-passed c =
    more c.args.words.now.table_id.words c.args.way c.args.indirection c.args.actor.now.me.0 c.loop.actor.me.0 c.loop.next c.loop.invariant.1 c.pass.new.actor.me.0 (passed.Gives c.in-Gives.given)
    (c.in-Gives.ensures {u = tt}).passed

pub loop-preserved : goal.loop-preserved
loop-preserved c = (
  c.pass.ensures.table ∙ c.loop.invariant.0,
  one_more c.args.words.now.table_id.words c.args.way c.args.indirection c.args.actor.now.me.0 c.loop.actor.me.0 c.loop.next c.loop.invariant.1 c.pass.new.actor.me.0 c.in-Again.from
      c.pass.ensures.sound (c.in-Again.ensures {u = tt}).passed,
)

pub returns-clause-table : goal.returns-clause-table
returns-clause-table c = c.loop.invariant.0

pub returns-clause-sound : goal.returns-clause-sound
returns-clause-sound c = c.loop.invariant.1.sound

pub returns-clause-passed : goal.returns-clause-passed
returns-clause-passed c = c.loop.invariant.1.passed
