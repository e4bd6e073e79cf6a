use Rattle.std.proofs.Common.{refl, ◌∙◌}
use Rattle.lock_free.proofs.OneWalk.Roots.{asks_start, first_start, found_start, start_seen}
use Rattle.lock_free.proofs.walking.start_within.Goals.{in-Offer, in-Nothing}
use Rattle.lock_free.proofs.walking.start_within.Goals as goal

pub loop-init : goal.loop-init
loop-init c = (refl, first_start c.args.words.now.table_id.words c.args.way c.args.actor.now.me.0 c.requires.sound c.requires.way c.requires.at)

pub ask_word-requires-clause-table : goal.ask_word-requires-clause-table
ask_word-requires-clause-table c = c.loop.invariant.0 ∙ c.requires.table

pub ask_word-requires-clause-sound : goal.ask_word-requires-clause-sound
ask_word-requires-clause-sound c = c.loop.invariant.1.sound

pub ask_word-requires-clause-asking : goal.ask_word-requires-clause-asking
ask_word-requires-clause-asking c = asks_start c.loop.actor.me.0 c.args.way c.loop.invariant.1.at c.loop.invariant.1.on

pub returns-in-Root-clause-table : goal.returns-in-Root-clause-table
returns-in-Root-clause-table c = c.ask_word.ensures.table ∙ c.loop.invariant.0

pub returns-in-Root-clause-found : goal.returns-in-Root-clause-found
returns-in-Root-clause-found c =
    let it = c.loop.invariant.1 in
    found_start c.args.words.now.table_id.words c.loop.actor.me.0 it.sound c.args.way it.at it.on c.in-Root.slot c.ask_word.new.actor.me.0 c.ask_word.ensures.sound (c.in-Root.ensures {u = tt}).asked
    c.args.actor.now.me.0 it.stayed

pub loop-preserved : goal.loop-preserved
loop-preserved c = (
  c.ask_word.ensures.table ∙ c.loop.invariant.0,
  start_seen c.args.words.now.table_id.words c.args.way c.args.actor.now.me.0 c.loop.actor.me.0 c.ask_word.new.actor.me.0 c.loop.invariant.1 c.ask_word.ensures.sound
      (elim c.match-ask_word.branch [
        | in-Offer w ↦ (w.in-Offer.ensures {u = tt}).asked.0
        | in-Nothing w ↦ (w.in-Nothing.ensures {u = tt}).asked
      ]),
)

pub returns-clause-table : goal.returns-clause-table
returns-clause-table c = c.loop.invariant.0

pub returns-clause-sound : goal.returns-clause-sound
returns-clause-sound c = c.loop.invariant.1.sound

pub returns-clause-found : goal.returns-clause-found
returns-clause-found c = c.loop.invariant.1.stayed
