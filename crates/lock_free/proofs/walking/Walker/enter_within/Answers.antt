use Rattle.std.proofs.Common.{◌++◌, reverse, ap, ◌∙◌}
use Rattle.lock_free.proofs.OneWalk.Enters.{enter_spent, at_main, enter_left, entered, looks_main, passing}
use Rattle.lock_free.proofs.walking.Walker.enter_within.Goals as goal

pub read_on-requires-clause-passing : goal.read_on-requires-clause-passing
read_on-requires-clause-passing c = passing c.args.words.now.table_id.words c.args.actor.now.me.0 c.requires.sound c.args.self.now c.args.indirection c.requires.at

pub see_all-entries-requires-clause-at : goal.see_all-entries-requires-clause-at
see_all-entries-requires-clause-at c =
    at_main c.args.words.now.table_id.words c.args.actor.now.me.0 c.requires.sound c.args.self.now c.args.indirection c.requires.at c.in-Gives.given c.read_on.new.actor.me.0
    (c.in-Gives.ensures {u = tt}).passed c.read_on.ensures.sound

pub returns-in-Err-clause-entered : goal.returns-in-Err-clause-entered
returns-in-Err-clause-entered c =
    λ at.
    enter_left c.args.words.now.table_id.words c.args.actor.now.me.0 c.requires.sound c.args.self.now c.args.indirection at c.in-Gives.given c.read_on.new.actor.me.0
    (c.in-Gives.ensures {u = tt}).passed c.read_on.ensures.sound c.see_all-entries.new.actor.me.0 c.see_all-entries.result.items c.see_all-entries.ensures.seen c.see_all-entries.ensures.sound

pub returns-in-Again-clause-entered : goal.returns-in-Again-clause-entered
returns-in-Again-clause-entered c =
    λ at.
    enter_spent c.args.words.now.table_id.words c.args.actor.now.me.0 c.requires.sound c.args.self.now c.args.indirection at c.in-Again.field-0 c.read_on.new.actor.me.0
    (c.in-Again.ensures {u = tt}).passed

pub look_at_main-requires-clause-looking : goal.look_at_main-requires-clause-looking
look_at_main-requires-clause-looking c =
    looks_main c.args.words.now.table_id.words c.args.actor.now.me.0 c.requires.sound c.args.self.now c.args.indirection c.requires.at c.in-Gives.given c.read_on.new.actor.me.0
    (c.in-Gives.ensures {u = tt}).passed c.read_on.ensures.sound c.see_all-entries.new.actor.me.0 c.see_all-entries.result.items c.see_all-entries.ensures.seen c.see_all-entries.ensures.sound

pub returns-clause-entered : goal.returns-clause-entered
returns-clause-entered c =
    λ at.
    entered c.args.words.now.table_id.words c.args.actor.now.me.0 c.requires.sound c.args.self.now c.args.indirection at c.in-Gives.given c.read_on.new.actor.me.0
    (c.in-Gives.ensures {u = tt}).passed c.read_on.ensures.sound c.see_all-entries.new.actor.me.0 c.see_all-entries.result.items c.see_all-entries.ensures.seen c.see_all-entries.ensures.sound
    c.look_at_main.new.actor.me.0 c.look_at_main.ensures.sound c.look_at_main.ensures.read.0 c.add_all.new.todo.items
    (c.in-Ok.ensures {u = tt} ∙ ap (λ xs. xs ++ reverse c.see_all-entries.result.items) c.self.view_is)
