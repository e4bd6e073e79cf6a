use Rattle.std.proofs.Common.{sym, ◌∙◌}
use Rattle.lock_free.proofs.MainLooks.{enters, within, finds_none, at_tomb, at_list}
use Rattle.lock_free.proofs.finding.turn_at.Goals as goal

pub returns-then-has_flag-clause-turned : goal.returns-then-has_flag-clause-turned
returns-then-has_flag-clause-turned c =
    let n = c.args.words.now.table_id.words in
    enters n n c.args.actor.now.me.0 c.look_at_main.new.actor.me.0 c.requires.sound c.look_at_main.ensures.sound c.args.main c.args.flag c.requires.at c.look_at_main.result
    c.look_at_main.ensures.read c.in-Branch.bitmap c.in-Branch.is
    c.position_of.result c.position_of.ensures.position (sym c.has_flag.ensures ∙ c.if-has_flag.true)

pub returns-else-has_flag-clause-turned : goal.returns-else-has_flag-clause-turned
returns-else-has_flag-clause-turned c =
    let n = c.args.words.now.table_id.words in
    finds_none n n c.args.actor.now.me.0 c.look_at_main.new.actor.me.0 c.requires.sound c.look_at_main.ensures.sound c.args.main c.args.flag c.requires.at c.look_at_main.result
    c.look_at_main.ensures.read c.in-Branch.bitmap
    c.in-Branch.is (sym c.has_flag.ensures ∙ c.if-has_flag.false)

pub returns-in-Tomb-clause-turned : goal.returns-in-Tomb-clause-turned
returns-in-Tomb-clause-turned c =
    let n = c.args.words.now.table_id.words in
    at_tomb n n c.args.actor.now.me.0 c.look_at_main.new.actor.me.0 c.requires.sound c.look_at_main.ensures.sound c.args.main c.args.flag c.requires.at c.look_at_main.result
    c.look_at_main.ensures.read c.in-Tomb.single c.in-Tomb.is

pub returns-in-List-clause-turned : goal.returns-in-List-clause-turned
returns-in-List-clause-turned c =
    let n = c.args.words.now.table_id.words in
    at_list n n c.args.actor.now.me.0 c.look_at_main.new.actor.me.0 c.requires.sound c.look_at_main.ensures.sound c.args.main c.args.flag c.requires.at c.look_at_main.result
    c.look_at_main.ensures.read c.in-List.field-0 c.in-List.is

pub returns-then-has_flag-clause-within : goal.returns-then-has_flag-clause-within
returns-then-has_flag-clause-within c =
    let n = c.args.words.now.table_id.words in
    within n n c.args.actor.now.me.0 c.look_at_main.new.actor.me.0 c.requires.sound c.look_at_main.ensures.sound c.args.main c.args.flag c.requires.at c.look_at_main.result
    c.look_at_main.ensures.read c.in-Branch.bitmap c.in-Branch.is
    c.position_of.result c.position_of.ensures.position (sym c.has_flag.ensures ∙ c.if-has_flag.true)
