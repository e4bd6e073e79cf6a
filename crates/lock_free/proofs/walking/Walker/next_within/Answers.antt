use Rattle.std.proofs.Common.{◌++◌, ◌-◌, [], refl, sym, ap, take, ◌∙◌}
use Rattle.lock_free.proofs.OneWalk.Nexts.{all_had, goes_first, goes_next, left_next, link_next, next_had, reads_next, single_next, walk_spent, way_next}
use Rattle.lock_free.proofs.walking.Walker.next_within.Goals as goal

pub loop-init : goal.loop-init
loop-init c = (refl, goes_first c.args.words.now.table_id.words c.args.way c.args.actor.now.me.0 c.args.self.now c.requires.sound c.requires.way c.requires.at)

pub returns-in_default-clause-table : goal.returns-in_default-clause-table
returns-in_default-clause-table c = c.loop.invariant.0

pub returns-in_default-clause-sound : goal.returns-in_default-clause-sound
returns-in_default-clause-sound c = c.loop.invariant.1.sound

pub returns-in_default-clause-next : goal.returns-in_default-clause-next
returns-in_default-clause-next c = all_had c.args.words.now.table_id.words c.args.way c.args.actor.now.me.0 c.args.self.now c.loop.actor.me.0 c.loop.self c.loop.invariant.1 (
    let none = c.in_default.ensures {u = tt} in
    sym c.self.view_is ∙ none.items ∙ ap (λ xs. xs ++ []) (none.rest ∙ ap (λ k. take (k - 1) c.self.inside.todo.items) none.cases.0)
    )

pub take_pair-pair-requires-clause-table : goal.take_pair-pair-requires-clause-table
take_pair-pair-requires-clause-table c = c.loop.invariant.0 ∙ c.requires.table

pub take_pair-pair-requires-clause-sound : goal.take_pair-pair-requires-clause-sound
take_pair-pair-requires-clause-sound c = c.loop.invariant.1.sound

pub take_pair-pair-requires-clause-at : goal.take_pair-pair-requires-clause-at
take_pair-pair-requires-clause-at c =
    single_next c.args.words.now.table_id.words c.args.way c.args.actor.now.me.0 c.args.self.now c.loop.actor.me.0 c.loop.self c.loop.invariant.1 c.in-Some.entry c.pop.new.self.items
    (sym c.self.view_is ∙ (c.in-Some.ensures {u = tt}).items) c.if-entry.true

pub returns-then-entry-clause-table : goal.returns-then-entry-clause-table
returns-then-entry-clause-table c = c.take_pair-pair.ensures.table ∙ c.loop.invariant.0

pub returns-then-entry-clause-next : goal.returns-then-entry-clause-next
returns-then-entry-clause-next c =
    next_had c.args.words.now.table_id.words c.args.way c.args.actor.now.me.0 c.args.self.now c.loop.actor.me.0 c.loop.self c.loop.invariant.1 c.in-Some.entry c.pop.new.self.items
    (sym c.self.view_is ∙ (c.in-Some.ensures {u = tt}).items) c.if-entry.true c.take_pair-pair.new.actor.me.0 c.take_pair-pair.result c.take_pair-pair.ensures.taken

pub look_at_link-requires-clause-table : goal.look_at_link-requires-clause-table
look_at_link-requires-clause-table c = c.loop.invariant.0 ∙ c.requires.table

pub look_at_link-requires-clause-sound : goal.look_at_link-requires-clause-sound
look_at_link-requires-clause-sound c = c.loop.invariant.1.sound

pub look_at_link-requires-clause-looking : goal.look_at_link-requires-clause-looking
look_at_link-requires-clause-looking c =
    link_next c.args.words.now.table_id.words c.args.way c.args.actor.now.me.0 c.args.self.now c.loop.actor.me.0 c.loop.self c.loop.invariant.1 c.in-Some.entry c.pop.new.self.items
    (sym c.self.view_is ∙ (c.in-Some.ensures {u = tt}).items)

pub enter_within-requires-clause-table : goal.enter_within-requires-clause-table
enter_within-requires-clause-table c = c.look_at_link.ensures.table ∙ c.loop.invariant.0 ∙ c.requires.table

pub enter_within-requires-clause-way : goal.enter_within-requires-clause-way
enter_within-requires-clause-way c =
    way_next c.args.words.now.table_id.words c.args.way c.args.actor.now.me.0 c.args.self.now c.loop.actor.me.0 c.loop.self c.loop.invariant.1 c.in-Some.entry c.pop.new.self.items
    (sym c.self.view_is ∙ (c.in-Some.ensures {u = tt}).items) c.if-entry.false c.look_at_link.new.actor.me.0 c.look_at_link.ensures.sound c.look_at_link.ensures.read.0

pub enter_within-requires-clause-at : goal.enter_within-requires-clause-at
enter_within-requires-clause-at c =
    reads_next c.args.words.now.table_id.words c.args.way c.args.actor.now.me.0 c.args.self.now c.loop.actor.me.0 c.loop.self c.loop.invariant.1 c.in-Some.entry c.pop.new.self.items
    (sym c.self.view_is ∙ (c.in-Some.ensures {u = tt}).items) c.if-entry.false c.look_at_link.new.actor.me.0 c.look_at_link.ensures.sound c.look_at_link.ensures.read.0

pub loop-preserved : goal.loop-preserved
loop-preserved c = (
  c.enter_within.ensures.table ∙ c.look_at_link.ensures.table ∙ c.loop.invariant.0,
  goes_next c.args.words.now.table_id.words c.args.way c.args.actor.now.me.0 c.args.self.now c.loop.actor.me.0 c.loop.self c.loop.invariant.1 c.in-Some.entry c.pop.new.self.items
      (sym c.self.view_is ∙ (c.in-Some.ensures {u = tt}).items) c.if-entry.false c.look_at_link.new.actor.me.0 c.look_at_link.ensures.sound c.look_at_link.ensures.read.0
      c.enter_within.new.actor.me.0 c.enter_within.new.self c.enter_within.ensures.sound (c.in-Ok.ensures {u = tt}).entered,
)

pub returns-in-Err-clause-table : goal.returns-in-Err-clause-table
returns-in-Err-clause-table c = c.enter_within.ensures.table ∙ c.look_at_link.ensures.table ∙ c.loop.invariant.0

pub returns-in-Err-clause-next : goal.returns-in-Err-clause-next
returns-in-Err-clause-next c =
    λ pairs at.
    left_next c.args.words.now.table_id.words c.args.way c.args.actor.now.me.0 c.args.self.now c.loop.actor.me.0 c.loop.self c.loop.invariant.1 c.in-Some.entry c.pop.new.self.items
    (sym c.self.view_is ∙ (c.in-Some.ensures {u = tt}).items) c.if-entry.false c.look_at_link.new.actor.me.0 c.look_at_link.ensures.sound c.look_at_link.ensures.read.0
    c.enter_within.new.actor.me.0 c.enter_within.new.self (c.in-Err.ensures {u = tt}).entered pairs at

pub returns-clause-table : goal.returns-clause-table
returns-clause-table c = c.loop.invariant.0

pub returns-clause-sound : goal.returns-clause-sound
returns-clause-sound c = c.loop.invariant.1.sound

pub returns-clause-next : goal.returns-clause-next
returns-clause-next c = λ pairs at. walk_spent c.args.words.now.table_id.words c.args.way c.args.actor.now.me.0 c.args.self.now c.loop.actor.me.0 c.loop.self c.loop.invariant.1 pairs at
