use Rattle.std.proofs.Common.{sym, subst, ◌∙◌}
use Rattle.lock_free.specs.Swaps.{HasSwapDone, HoldsSwapped, RetiresOwn}
use Rattle.lock_free.proofs.SwapSteps.{missed, missed_holds, way_w}
use Rattle.lock_free.proofs.SwapsBegun.{begun_left, done_so, ended_holds, hangs_begun, leaves, missed_hangs, sizes_begun}
use Rattle.lock_free.proofs.swapping.swap_within.Goals as goal

pub returns-then-not-publish-clause-done : goal.returns-then-not-publish-clause-done
returns-then-not-publish-clause-done c = missed c.args.actor.now.me.0 c.args.indirection c.args.link c.args.class c.args.fresh c.requires.swapping c.args.words.now.table_id.words c.requires.sound
    c.publish.new.actor.me.0 c.publish.ensures.sound c.publish.result c.publish.ensures.published c.if-not-publish.true

pub swap_on-requires-clause-way : goal.swap_on-requires-clause-way
swap_on-requires-clause-way c = way_w c.args.actor.now.me.0 c.args.indirection c.args.link c.args.class c.args.fresh c.requires.swapping c.args.words.now.table_id.words c.requires.sound
    c.publish.new.actor.me.0
    c.publish.ensures.sound c.publish.result c.publish.ensures.published c.if-not-publish.false c.args.way c.requires.way

pub swap_on-requires-clause-swapping : goal.swap_on-requires-clause-swapping
swap_on-requires-clause-swapping c = begun_left c.args.words.now.table_id.words c.args.actor.now.me.0 c.args.indirection c.args.link c.args.class c.args.fresh c.requires.swapping c.args.drops
    c.requires.drops c.requires.sound
    c.publish.new.actor.me.0 c.publish.ensures.sound c.publish.result c.publish.ensures.published c.if-not-publish.false

pub returns-in-Err-clause-left : goal.returns-in-Err-clause-left
returns-in-Err-clause-left c = leaves c.args.words.now.table_id.words c.args.actor.now.me.0 c.args.indirection c.args.link c.args.class c.args.fresh c.requires.swapping c.args.drops
    c.requires.drops c.requires.sound
    c.publish.new.actor.me.0 c.publish.ensures.sound c.publish.result c.publish.ensures.published c.if-not-publish.false c.in-Err.next c.swap_on.new.actor.me.0
    (c.in-Err.ensures {u = tt}).on

pub returns-in-Ok-clause-done : goal.returns-in-Ok-clause-done
returns-in-Ok-clause-done c =
    subst (λ r. HasSwapDone c.args.actor.now.me.0 r c.swap_on.new.actor.me.0) (sym c.swapped_by.ensures)
    (done_so c.args.words.now.table_id.words c.args.actor.now.me.0 c.args.indirection c.args.link c.args.class c.args.fresh c.requires.swapping c.args.drops
    c.requires.drops c.requires.sound
    c.publish.new.actor.me.0 c.publish.ensures.sound c.publish.result c.publish.ensures.published c.if-not-publish.false c.in-Ok.decided c.swap_on.new.actor.me.0
    (c.in-Ok.ensures {u = tt}).done)

pub returns-in-Ok-clause-which : goal.returns-in-Ok-clause-which
returns-in-Ok-clause-which c = subst (RetiresOwn c.args.link.main c.args.class c.args.fresh) (sym c.swapped_by.ensures) (c.in-Ok.ensures {u = tt}).done.which

pub returns-then-not-publish-clause-limbo : goal.returns-then-not-publish-clause-limbo
returns-then-not-publish-clause-limbo c =
    missed_hangs c.args.words.now.table_id.words c.args.actor.now.me.0 c.publish.new.actor.me.0 c.requires.sound c.publish.ensures.sound c.args.indirection c.args.link c.args.class c.args.fresh
    c.requires.swapping
    (missed c.args.actor.now.me.0 c.args.indirection c.args.link c.args.class c.args.fresh c.requires.swapping c.args.words.now.table_id.words c.requires.sound
    c.publish.new.actor.me.0 c.publish.ensures.sound c.publish.result c.publish.ensures.published c.if-not-publish.true)
    c.args.stock.now.limbo c.requires.limbo

pub swap_on-requires-clause-sizes : goal.swap_on-requires-clause-sizes
swap_on-requires-clause-sizes c =
    c.requires.sizes ∙ sym (sizes_begun c.args.words.now.table_id.words c.args.actor.now.me.0 c.args.indirection c.args.link c.args.class c.args.fresh c.requires.swapping c.args.drops
    c.requires.drops c.requires.sound
    c.publish.new.actor.me.0 c.publish.ensures.sound c.publish.result c.publish.ensures.published c.if-not-publish.false)

pub swap_on-requires-clause-limbo : goal.swap_on-requires-clause-limbo
swap_on-requires-clause-limbo c =
    hangs_begun c.args.words.now.table_id.words c.args.actor.now.me.0 c.args.indirection c.args.link c.args.class c.args.fresh c.requires.swapping c.args.drops
    c.requires.drops c.requires.sound
    c.publish.new.actor.me.0 c.publish.ensures.sound c.publish.result c.publish.ensures.published c.if-not-publish.false
    c.args.stock.now.limbo c.requires.limbo

pub returns-then-not-publish-clause-holds : goal.returns-then-not-publish-clause-holds
returns-then-not-publish-clause-holds c =
    missed_holds c.args.actor.now.me.0 c.args.indirection c.args.link c.args.class c.args.fresh c.requires.swapping c.args.words.now.table_id.words c.requires.sound
    c.publish.new.actor.me.0 c.publish.ensures.sound c.publish.result c.publish.ensures.published c.if-not-publish.true

pub returns-in-Ok-clause-holds : goal.returns-in-Ok-clause-holds
returns-in-Ok-clause-holds c =
    subst (λ r. HoldsSwapped c.args.actor.now.me.0 r c.swap_on.new.actor.me.0) (sym c.swapped_by.ensures) (ended_holds c.args.actor.now.me.0 c.swap_on.new.actor.me.0 c.in-Ok.decided)
