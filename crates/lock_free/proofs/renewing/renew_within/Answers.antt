use Rattle.std.proofs.Common.{count_ones, refl, sym, subst}
use Rattle.lock_free.specs.Repairing.{HasRenewedBranch}
use Rattle.lock_free.proofs.RenewBranches.{branch_gives_up, branch_holds, branch_making, branch_over, renew_gives_up, renew_has, renew_left, renew_swap, renew_swap_way, renewing}
use Rattle.lock_free.proofs.RenewBranches.{renewing_start, renewing_stock, renewing_way, swap_ends}
use Rattle.lock_free.proofs.renewing.renew_within.Goals as goal

pub see_entries-entries-requires-clause-held : goal.see_entries-entries-requires-clause-held
see_entries-entries-requires-clause-held c =
    renew_has c.args.words.now.table_id.words c.args.actor.now.me.0 c.requires.sound c.args.indirection c.args.link c.args.bitmap c.requires.at (count_ones c.args.bitmap) refl

pub renew_entries_within-requires-clause-stock : goal.renew_entries_within-requires-clause-stock
renew_entries_within-requires-clause-stock c =
    renewing_stock c.args.words.now.table_id.words c.args.actor.now.me.0 c.requires.sound c.args.indirection c.args.link c.args.bitmap c.requires.at
    c.see_entries-entries.new.actor.me.0 c.see_entries-entries.ensures.sound (count_ones c.args.bitmap) c.see_entries-entries.result.items refl c.see_entries-entries.ensures.seen
    c.args.stock.now c.requires.stock

pub renew_entries_within-requires-clause-way : goal.renew_entries_within-requires-clause-way
renew_entries_within-requires-clause-way c =
    renewing_way c.args.words.now.table_id.words c.args.actor.now.me.0 c.requires.sound c.args.indirection c.args.link c.args.bitmap c.requires.at
    c.see_entries-entries.new.actor.me.0 c.see_entries-entries.ensures.sound (count_ones c.args.bitmap) c.see_entries-entries.result.items refl c.see_entries-entries.ensures.seen
    c.args.way c.requires.way

pub renew_entries_within-requires-clause-start : goal.renew_entries_within-requires-clause-start
renew_entries_within-requires-clause-start c =
    renewing_start c.args.words.now.table_id.words c.args.actor.now.me.0 c.requires.sound c.args.indirection c.args.link c.args.bitmap c.requires.at
    c.see_entries-entries.new.actor.me.0 c.see_entries-entries.ensures.sound (count_ones c.args.bitmap) c.see_entries-entries.result.items refl c.see_entries-entries.ensures.seen
    c.args.start c.requires.start

pub renew_entries_within-requires-clause-at : goal.renew_entries_within-requires-clause-at
renew_entries_within-requires-clause-at c =
    renewing c.args.words.now.table_id.words c.args.actor.now.me.0 c.requires.sound c.args.indirection c.args.link c.args.bitmap c.requires.at
    c.see_entries-entries.new.actor.me.0 c.see_entries-entries.ensures.sound (count_ones c.args.bitmap) c.see_entries-entries.result.items refl c.see_entries-entries.ensures.seen

pub returns-in_default-clause-renewed : goal.returns-in_default-clause-renewed
returns-in_default-clause-renewed c =
    renew_gives_up c.args.words.now.table_id.words c.args.actor.now.me.0 c.requires.sound c.args.indirection c.args.link c.args.bitmap c.requires.at
    c.see_entries-entries.new.actor.me.0 c.see_entries-entries.ensures.sound (count_ones c.args.bitmap) c.see_entries-entries.result.items refl c.see_entries-entries.ensures.seen
    c.renew_entries_within.new.actor.me.0 c.renew_entries_within.result c.renew_entries_within.ensures.renewed c.in_default.is

pub make_renewed-requires-clause-making : goal.make_renewed-requires-clause-making
make_renewed-requires-clause-making c =
    branch_making c.args.words.now.table_id.words c.args.actor.now.me.0 c.requires.sound c.args.indirection c.args.link c.args.bitmap c.requires.at
    c.see_entries-entries.new.actor.me.0 c.see_entries-entries.ensures.sound (count_ones c.args.bitmap) c.see_entries-entries.result.items refl c.see_entries-entries.ensures.seen
    c.renew_entries_within.new.actor.me.0 c.renew_entries_within.result c.renew_entries_within.ensures.renewed c.in-Some.renewed c.in-Some.is

pub make_renewed-requires-clause-holds : goal.make_renewed-requires-clause-holds
make_renewed-requires-clause-holds c =
    branch_holds c.args.words.now.table_id.words c.args.actor.now.me.0 c.requires.sound c.args.indirection c.args.link c.args.bitmap c.requires.at
    c.see_entries-entries.new.actor.me.0 c.see_entries-entries.ensures.sound (count_ones c.args.bitmap) c.see_entries-entries.result.items refl c.see_entries-entries.ensures.seen
    c.renew_entries_within.new.actor.me.0 c.renew_entries_within.result c.renew_entries_within.ensures.renewed c.in-Some.renewed c.in-Some.is c.renew_entries_within.ensures.sound

pub make_renewed-requires-clause-over : goal.make_renewed-requires-clause-over
make_renewed-requires-clause-over c =
    branch_over c.args.words.now.table_id.words c.args.actor.now.me.0 c.requires.sound c.args.indirection c.args.link c.args.bitmap c.requires.at
    c.see_entries-entries.new.actor.me.0 c.see_entries-entries.ensures.sound (count_ones c.args.bitmap) c.see_entries-entries.result.items refl c.see_entries-entries.ensures.seen
    c.renew_entries_within.new.actor.me.0 c.renew_entries_within.result c.renew_entries_within.ensures.renewed c.in-Some.renewed c.in-Some.is

pub returns-in_default-make_renewed-clause-renewed : goal.returns-in_default-make_renewed-clause-renewed
returns-in_default-make_renewed-clause-renewed c =
    branch_gives_up c.args.words.now.table_id.words c.args.actor.now.me.0 c.requires.sound c.args.indirection c.args.link c.args.bitmap c.requires.at
    c.see_entries-entries.new.actor.me.0 c.see_entries-entries.ensures.sound (count_ones c.args.bitmap) c.see_entries-entries.result.items refl c.see_entries-entries.ensures.seen
    c.renew_entries_within.new.actor.me.0 c.renew_entries_within.result c.renew_entries_within.ensures.renewed c.in-Some.renewed c.in-Some.is
    c.make_renewed.new.actor.me.0 c.make_renewed.result c.make_renewed.ensures.built c.in_default-make_renewed.is

pub swap_made_within-requires-clause-way : goal.swap_made_within-requires-clause-way
swap_made_within-requires-clause-way c =
    renew_swap_way c.args.words.now.table_id.words c.args.actor.now.me.0 c.requires.sound c.args.indirection c.args.link c.args.bitmap c.requires.at
    c.see_entries-entries.new.actor.me.0 c.see_entries-entries.ensures.sound (count_ones c.args.bitmap) c.see_entries-entries.result.items refl c.see_entries-entries.ensures.seen
    c.renew_entries_within.new.actor.me.0 c.renew_entries_within.result c.renew_entries_within.ensures.renewed c.in-Some.renewed c.in-Some.is
    c.make_renewed.new.actor.me.0 c.make_renewed.result c.make_renewed.ensures.built c.in-Some-make_renewed.fresh c.in-Some-make_renewed.is c.args.way c.requires.way

pub swap_made_within-requires-clause-swapping : goal.swap_made_within-requires-clause-swapping
swap_made_within-requires-clause-swapping c =
    renew_swap c.args.words.now.table_id.words c.args.actor.now.me.0 c.requires.sound c.args.indirection c.args.link c.args.bitmap c.requires.at
    c.see_entries-entries.new.actor.me.0 c.see_entries-entries.ensures.sound (count_ones c.args.bitmap) c.see_entries-entries.result.items refl c.see_entries-entries.ensures.seen
    c.renew_entries_within.new.actor.me.0 c.renew_entries_within.result c.renew_entries_within.ensures.renewed c.in-Some.renewed c.in-Some.is
    c.make_renewed.new.actor.me.0 c.make_renewed.result c.make_renewed.ensures.built c.in-Some-make_renewed.fresh c.in-Some-make_renewed.is c.class_of-class.result c.class_of-class.ensures

pub returns-in-Ok-clause-renewed : goal.returns-in-Ok-clause-renewed
returns-in-Ok-clause-renewed c =
    subst (λ r. HasRenewedBranch c.args.actor.now.me.0 r c.swap_made_within.new.actor.me.0) (sym c.renewed_by.ensures)
    (swap_ends c.args.words.now.table_id.words c.args.actor.now.me.0 c.requires.sound c.args.indirection c.args.link c.args.bitmap c.requires.at
    c.see_entries-entries.new.actor.me.0 c.see_entries-entries.ensures.sound (count_ones c.args.bitmap) c.see_entries-entries.result.items refl c.see_entries-entries.ensures.seen
    c.renew_entries_within.new.actor.me.0 c.renew_entries_within.result c.renew_entries_within.ensures.renewed c.in-Some.renewed c.in-Some.is
    c.make_renewed.new.actor.me.0 c.make_renewed.result c.make_renewed.ensures.built c.in-Some-make_renewed.fresh c.in-Some-make_renewed.is
    c.in-Ok.swapped c.swap_made_within.new.actor.me.0 (c.in-Ok.ensures {u = tt}).done)

pub returns-in-Err-clause-left : goal.returns-in-Err-clause-left
returns-in-Err-clause-left c =
    renew_left c.args.words.now.table_id.words c.args.actor.now.me.0 c.requires.sound c.args.indirection c.args.link c.args.bitmap c.requires.at
    c.see_entries-entries.new.actor.me.0 c.see_entries-entries.ensures.sound (count_ones c.args.bitmap) c.see_entries-entries.result.items refl c.see_entries-entries.ensures.seen
    c.renew_entries_within.new.actor.me.0 c.renew_entries_within.result c.renew_entries_within.ensures.renewed c.in-Some.renewed c.in-Some.is
    c.make_renewed.new.actor.me.0 c.make_renewed.result c.make_renewed.ensures.built c.in-Some-make_renewed.fresh c.in-Some-make_renewed.is
    c.in-Err.swapping c.swap_made_within.new.actor.me.0 (c.in-Err.ensures {u = tt}).left
