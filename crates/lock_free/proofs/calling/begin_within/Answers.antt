use Rattle.history.specs.declared.calls.Call.{Call}
use Rattle.std.proofs.Common.{refl, ◌∙◌, sym, subst}
use Rattle.atomic_table.specs.Table.{Me}
use Rattle.lock_free.specs.declared.rules.View.{View}
use Rattle.lock_free.specs.Loading.{Saw}
use Rattle.lock_free.proofs.Waiting.{saw_both, saw_none}
use Rattle.lock_free.proofs.Beginners.{Waits, waits_first, waits_more}
use Rattle.lock_free.proofs.calling.begin_within.Goals as goal

pub loop-init : goal.loop-init
loop-init c = (
  refl,
  waits_first c.args.words.now.table_id.words c.args.call.now c.args.actor.now.me.0 c.requires.sound c.requires.beginner,
  saw_none c.args.words.now.table_id.words
      c.args.actor.now.me.0 c.requires.sound,
)

pub try_begin-requires-clause-table : goal.try_begin-requires-clause-table
try_begin-requires-clause-table c = c.loop.invariant.0 ∙ c.requires.table

pub try_begin-requires-clause-sound : goal.try_begin-requires-clause-sound
try_begin-requires-clause-sound c = c.loop.invariant.1.sound

pub try_begin-requires-clause-beginner : goal.try_begin-requires-clause-beginner
try_begin-requires-clause-beginner c = c.loop.invariant.1.beginner

pub loop-preserved : goal.loop-preserved
loop-preserved c =
    let words = c.args.words.now.table_id.words in
    let call = c.args.call.now in
    let before = c.args.actor.now.me.0 in (
      c.unmark.ensures.table ∙ c.try_begin.ensures.table ∙ c.loop.invariant.0,
      subst (λ (me : Me Call View). Waits words call before me.0) (sym {A = Me Call View} c.unmark.ensures.same)
          (waits_more words call before c.loop.actor.me.0 c.try_begin.new.actor.me.0 c.loop.invariant.1 c.try_begin.ensures.sound (c.in-Err.ensures {u = tt}).tried.0.0),
      subst (λ (me : Me Call View). Saw before me.0) (sym {A = Me Call View} c.unmark.ensures.same)
          (saw_both before c.loop.actor.me.0 c.loop.invariant.2 c.try_begin.new.actor.me.0 (c.in-Err.ensures {u = tt}).tried.0.0),
    )

pub returns-clause-table : goal.returns-clause-table
returns-clause-table c = c.loop.invariant.0

pub returns-clause-sound : goal.returns-clause-sound
returns-clause-sound c = c.loop.invariant.1.sound

pub returns-clause-started : goal.returns-clause-started
returns-clause-started c = c.loop.invariant.2
