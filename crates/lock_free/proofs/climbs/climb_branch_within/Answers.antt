use Rattle.std.proofs.Common.{◌<◌, count_ones, length, slice_set, refl, sym, ap, subst, ◌∙◌}
use Rattle.lock_free.proofs.ClimbBranches.{at_tombed, gone_ready, there_has, there_ready, put_inside, contracting, contracting_way, contracting_start, contracting_stock}
use Rattle.lock_free.proofs.ClimbBranches.{branch_left, contracted_there, gone_stock, gone_ends}
use Rattle.lock_free.specs.Climbs.{HasClimbedBranch, HasContracted, HasLeftBranch, HasLeftContracted}
use Rattle.lock_free.proofs.Leavings.{if_err, if_ok}
use Rattle.lock_free.proofs.climbs.climb_branch_within.Goals as goal

pub holds_it-requires-clause-at : goal.holds_it-requires-clause-at
holds_it-requires-clause-at c =
    at_tombed c.args.words.now.table_id.words c.args.actor.now.me.0 c.requires.sound c.args.parent c.args.link c.args.bitmap c.args.tombed c.args.flag c.args.single c.args.may_entomb c.requires.at

pub look_at_main-requires-clause-looking : goal.look_at_main-requires-clause-looking
look_at_main-requires-clause-looking c =
    gone_ready c.args.words.now.table_id.words c.args.actor.now.me.0 c.requires.sound c.args.parent c.args.link c.args.bitmap c.args.tombed c.args.flag c.args.single c.args.may_entomb c.requires.at
    c.holds_it.new.actor.me.0 c.holds_it.ensures.sound c.holds_it.result c.holds_it.ensures.seen

pub returns-then-not-holds_it-clause-stock : goal.returns-then-not-holds_it-clause-stock
returns-then-not-holds_it-clause-stock c =
    gone_stock c.args.words.now.table_id.words c.args.actor.now.me.0 c.requires.sound c.args.parent c.args.link c.args.bitmap c.args.tombed c.args.flag c.args.single c.args.may_entomb c.requires.at
    c.holds_it.new.actor.me.0 c.holds_it.ensures.sound c.holds_it.result c.holds_it.ensures.seen c.if-not-holds_it.true c.look_at_main.new.actor.me.0 c.look_at_main.ensures.sound
    c.look_at_main.result c.look_at_main.ensures.read c.args.stock.now c.requires.stock

pub returns-then-not-holds_it-clause-climbed : goal.returns-then-not-holds_it-clause-climbed
returns-then-not-holds_it-clause-climbed c =
    gone_ends c.args.words.now.table_id.words c.args.actor.now.me.0 c.requires.sound c.args.parent c.args.link c.args.bitmap c.args.tombed c.args.flag c.args.single c.args.may_entomb c.requires.at
    c.holds_it.new.actor.me.0 c.holds_it.ensures.sound c.holds_it.result c.holds_it.ensures.seen c.if-not-holds_it.true c.look_at_main.new.actor.me.0 c.look_at_main.ensures.sound
    c.look_at_main.result c.look_at_main.ensures.read

pub see_entries-entries-requires-clause-held : goal.see_entries-entries-requires-clause-held
see_entries-entries-requires-clause-held c =
    there_has c.args.words.now.table_id.words c.args.actor.now.me.0 c.requires.sound c.args.parent c.args.link c.args.bitmap c.args.tombed c.args.flag c.args.single c.args.may_entomb c.requires.at
    c.holds_it.new.actor.me.0 c.holds_it.ensures.sound c.holds_it.result c.holds_it.ensures.seen (count_ones c.args.bitmap) refl

pub look_at_main-requires-2-clause-looking : goal.look_at_main-requires-2-clause-looking
look_at_main-requires-2-clause-looking c =
    there_ready c.args.words.now.table_id.words c.args.actor.now.me.0 c.requires.sound c.args.parent c.args.link c.args.bitmap c.args.tombed c.args.flag c.args.single c.args.may_entomb c.requires.at
    c.holds_it.new.actor.me.0 c.holds_it.ensures.sound c.holds_it.result c.holds_it.ensures.seen
    c.see_entries-entries.new.actor.me.0 c.see_entries-entries.ensures.sound (count_ones c.args.bitmap) c.see_entries-entries.result.items refl c.see_entries-entries.ensures.seen

pub put-requires : goal.put-requires
put-requires c =
    subst (λ p. p < length c.see_entries-entries.result.items) (sym c.position_of.ensures.position) (put_inside c.args.words.now.table_id.words c.args.actor.now.me.0 c.requires.sound
    c.args.parent c.args.link c.args.bitmap c.args.tombed c.args.flag c.args.single c.args.may_entomb c.requires.at
    c.holds_it.new.actor.me.0 c.holds_it.ensures.sound c.holds_it.result c.holds_it.ensures.seen
    c.see_entries-entries.new.actor.me.0 c.see_entries-entries.ensures.sound (count_ones c.args.bitmap) c.see_entries-entries.result.items refl c.see_entries-entries.ensures.seen
    c.if-not-holds_it.false c.look_at_main-2.new.actor.me.0 c.look_at_main-2.ensures.sound c.look_at_main-2.result c.look_at_main-2.ensures.read)

pub contract_within-requires-clause-stock : goal.contract_within-requires-clause-stock
contract_within-requires-clause-stock c =
    contracting_stock c.args.words.now.table_id.words c.args.actor.now.me.0 c.requires.sound c.args.parent c.args.link c.args.bitmap c.args.tombed c.args.flag c.args.single
    c.args.may_entomb c.requires.at
    c.holds_it.new.actor.me.0 c.holds_it.ensures.sound c.holds_it.result c.holds_it.ensures.seen
    c.see_entries-entries.new.actor.me.0 c.see_entries-entries.ensures.sound (count_ones c.args.bitmap) c.see_entries-entries.result.items refl c.see_entries-entries.ensures.seen
    c.if-not-holds_it.false c.look_at_main-2.new.actor.me.0 c.look_at_main-2.ensures.sound c.look_at_main-2.result c.look_at_main-2.ensures.read c.args.stock.now c.requires.stock

pub contract_within-requires-clause-way : goal.contract_within-requires-clause-way
contract_within-requires-clause-way c =
    contracting_way c.args.words.now.table_id.words c.args.actor.now.me.0 c.requires.sound c.args.parent c.args.link c.args.bitmap c.args.tombed c.args.flag c.args.single
    c.args.may_entomb c.requires.at
    c.holds_it.new.actor.me.0 c.holds_it.ensures.sound c.holds_it.result c.holds_it.ensures.seen
    c.see_entries-entries.new.actor.me.0 c.see_entries-entries.ensures.sound (count_ones c.args.bitmap) c.see_entries-entries.result.items refl c.see_entries-entries.ensures.seen
    c.if-not-holds_it.false c.look_at_main-2.new.actor.me.0 c.look_at_main-2.ensures.sound c.look_at_main-2.result c.look_at_main-2.ensures.read c.args.way c.requires.way

pub contract_within-requires-clause-start : goal.contract_within-requires-clause-start
contract_within-requires-clause-start c =
    contracting_start c.args.words.now.table_id.words c.args.actor.now.me.0 c.requires.sound c.args.parent c.args.link c.args.bitmap c.args.tombed c.args.flag c.args.single
    c.args.may_entomb c.requires.at
    c.holds_it.new.actor.me.0 c.holds_it.ensures.sound c.holds_it.result c.holds_it.ensures.seen
    c.see_entries-entries.new.actor.me.0 c.see_entries-entries.ensures.sound (count_ones c.args.bitmap) c.see_entries-entries.result.items refl c.see_entries-entries.ensures.seen
    c.if-not-holds_it.false c.look_at_main-2.new.actor.me.0 c.look_at_main-2.ensures.sound c.look_at_main-2.result c.look_at_main-2.ensures.read c.args.start c.requires.start

pub contract_within-requires-clause-at : goal.contract_within-requires-clause-at
contract_within-requires-clause-at c =
    contracting c.args.words.now.table_id.words c.args.actor.now.me.0 c.requires.sound c.args.parent c.args.link c.args.bitmap c.args.tombed c.args.flag c.args.single c.args.may_entomb c.requires.at
    c.holds_it.new.actor.me.0 c.holds_it.ensures.sound c.holds_it.result c.holds_it.ensures.seen
    c.see_entries-entries.new.actor.me.0 c.see_entries-entries.ensures.sound (count_ones c.args.bitmap) c.see_entries-entries.result.items refl c.see_entries-entries.ensures.seen
    c.if-not-holds_it.false c.look_at_main-2.new.actor.me.0 c.look_at_main-2.ensures.sound c.look_at_main-2.result c.look_at_main-2.ensures.read c.put.new.entries.items (c.put.ensures
    ∙ ap (λ p. slice_set c.see_entries-entries.result.items p c.args.single) c.position_of.ensures.position)

pub returns-clause-climbed : goal.returns-clause-climbed
returns-clause-climbed c =
    if_ok (λ r. HasContracted c.look_at_main-2.new.actor.me.0 r c.contract_within.new.actor.me.0) (λ r. HasClimbedBranch c.args.actor.now.me.0 r c.contract_within.new.actor.me.0)
    (λ r h. contracted_there c.args.words.now.table_id.words c.args.actor.now.me.0 c.requires.sound c.args.parent c.args.link c.args.bitmap c.args.tombed c.args.flag c.args.single
    c.args.may_entomb c.requires.at
    c.holds_it.new.actor.me.0 c.holds_it.ensures.sound c.holds_it.result c.holds_it.ensures.seen
    c.see_entries-entries.new.actor.me.0 c.see_entries-entries.ensures.sound (count_ones c.args.bitmap) c.see_entries-entries.result.items refl c.see_entries-entries.ensures.seen
    c.if-not-holds_it.false c.look_at_main-2.new.actor.me.0 c.look_at_main-2.ensures.sound c.look_at_main-2.result c.look_at_main-2.ensures.read c.contract_within.new.actor.me.0 r h)
    c.contract_within.result c.contract_within.ensures.contracted

pub returns-clause-left : goal.returns-clause-left
returns-clause-left c =
    if_err (λ s. HasLeftContracted c.look_at_main-2.new.actor.me.0 s c.contract_within.new.actor.me.0) (λ s. HasLeftBranch c.args.actor.now.me.0 s c.contract_within.new.actor.me.0)
    (λ s h. branch_left c.args.words.now.table_id.words c.args.actor.now.me.0 c.requires.sound c.args.parent c.args.link c.args.bitmap c.args.tombed c.args.flag c.args.single
    c.args.may_entomb c.requires.at
    c.holds_it.new.actor.me.0 c.holds_it.ensures.sound c.holds_it.result c.holds_it.ensures.seen
    c.see_entries-entries.new.actor.me.0 c.see_entries-entries.ensures.sound (count_ones c.args.bitmap) c.see_entries-entries.result.items refl c.see_entries-entries.ensures.seen
    c.if-not-holds_it.false c.look_at_main-2.new.actor.me.0 c.look_at_main-2.ensures.sound c.look_at_main-2.result c.look_at_main-2.ensures.read s c.contract_within.new.actor.me.0 h)
    c.contract_within.result c.contract_within.ensures.left
