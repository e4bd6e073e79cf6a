use Rattle.std.proofs.Common.{◌∙◌, List, None, count_ones, refl, sym, subst}
use Rattle.trie_words.specs.declared.entries.Entry.{Entry}
use Rattle.lock_free.specs.Contracting.{counted_in}
use Rattle.lock_free.specs.Raising.{MayHold}
use Rattle.lock_free.proofs.CleanBranches.{clean_has, cleaning, cleaning_way, cleaned_stock, unchanged, contracted_making}
use Rattle.lock_free.proofs.CleanBranches.{contracted_over, contracted_owes, clean_gives_up, clean_swap, clean_swap_way, clean_left, spent_branch, spent_branch_stock}
use Rattle.lock_free.proofs.CleanBranches.{cleaned_there}
use Rattle.lock_free.specs.Leaving.{AllCleanedOrNot}
use Rattle.lock_free.proofs.cleans.clean_branch_within.Goals as goal

pub see_entries-entries-requires-clause-held : goal.see_entries-entries-requires-clause-held
see_entries-entries-requires-clause-held c =
    clean_has c.args.words.now.table_id.words c.args.actor.now.me.0 c.requires.sound c.args.indirection c.args.link c.args.bitmap c.args.may_entomb c.requires.at (count_ones c.args.bitmap) refl

pub clean_entries_within-requires-clause-way : goal.clean_entries_within-requires-clause-way
clean_entries_within-requires-clause-way c =
    cleaning_way c.args.words.now.table_id.words c.args.actor.now.me.0 c.requires.sound c.args.indirection c.args.link c.args.bitmap c.args.may_entomb c.requires.at
    c.see_entries-entries.new.actor.me.0 c.see_entries-entries.ensures.sound (count_ones c.args.bitmap) c.see_entries-entries.result.items refl c.see_entries-entries.ensures.seen
    c.args.way c.requires.way

pub clean_entries_within-requires-clause-at : goal.clean_entries_within-requires-clause-at
clean_entries_within-requires-clause-at c =
    cleaning c.args.words.now.table_id.words c.args.actor.now.me.0 c.requires.sound c.args.indirection c.args.link c.args.bitmap c.args.may_entomb c.requires.at
    c.see_entries-entries.new.actor.me.0 c.see_entries-entries.ensures.sound (count_ones c.args.bitmap) c.see_entries-entries.result.items refl c.see_entries-entries.ensures.seen

pub returns-then-is_empty-clause-stock : goal.returns-then-is_empty-clause-stock
returns-then-is_empty-clause-stock c =
    cleaned_stock c.args.words.now.table_id.words c.args.actor.now.me.0 c.requires.sound c.args.indirection c.args.link c.args.bitmap c.args.may_entomb c.requires.at
    c.see_entries-entries.new.actor.me.0 c.see_entries-entries.ensures.sound (count_ones c.args.bitmap) c.see_entries-entries.result.items refl c.see_entries-entries.ensures.seen
    c.clean_entries_within.new.actor.me.0 c.clean_entries_within.ensures.sound c.in-Some.cleaned
    (c.in-Some.ensures {u = tt}).cleaned c.args.stock.now c.requires.stock

pub returns-then-is_empty-clause-cleaned : goal.returns-then-is_empty-clause-cleaned
returns-then-is_empty-clause-cleaned c =
    unchanged c.args.words.now.table_id.words c.args.actor.now.me.0 c.requires.sound c.args.indirection c.args.link c.args.bitmap c.args.may_entomb c.requires.at
    c.see_entries-entries.new.actor.me.0 c.see_entries-entries.ensures.sound (count_ones c.args.bitmap) c.see_entries-entries.result.items refl c.see_entries-entries.ensures.seen
    c.clean_entries_within.new.actor.me.0 c.clean_entries_within.ensures.sound c.in-Some.cleaned
    (c.in-Some.ensures {u = tt}).cleaned (sym c.is_empty.ensures ∙ c.if-is_empty.true)

pub make_contracted-requires-clause-stock : goal.make_contracted-requires-clause-stock
make_contracted-requires-clause-stock c =
    cleaned_stock c.args.words.now.table_id.words c.args.actor.now.me.0 c.requires.sound c.args.indirection c.args.link c.args.bitmap c.args.may_entomb c.requires.at
    c.see_entries-entries.new.actor.me.0 c.see_entries-entries.ensures.sound (count_ones c.args.bitmap) c.see_entries-entries.result.items refl c.see_entries-entries.ensures.seen
    c.clean_entries_within.new.actor.me.0 c.clean_entries_within.ensures.sound c.in-Some.cleaned
    (c.in-Some.ensures {u = tt}).cleaned c.args.stock.now c.requires.stock

pub make_contracted-requires-clause-making : goal.make_contracted-requires-clause-making
make_contracted-requires-clause-making c =
    contracted_making c.args.words.now.table_id.words c.args.actor.now.me.0 c.requires.sound c.args.indirection c.args.link c.args.bitmap c.args.may_entomb c.requires.at
    c.see_entries-entries.new.actor.me.0 c.see_entries-entries.ensures.sound (count_ones c.args.bitmap) c.see_entries-entries.result.items refl c.see_entries-entries.ensures.seen
    c.clean_entries_within.new.actor.me.0 c.clean_entries_within.ensures.sound c.in-Some.cleaned
    (c.in-Some.ensures {u = tt}).cleaned (sym c.is_empty.ensures ∙ c.if-is_empty.false)

pub make_contracted-requires-clause-over : goal.make_contracted-requires-clause-over
make_contracted-requires-clause-over c =
    contracted_over c.args.words.now.table_id.words c.args.actor.now.me.0 c.requires.sound c.args.indirection c.args.link c.args.bitmap c.args.may_entomb c.requires.at
    c.see_entries-entries.new.actor.me.0 c.see_entries-entries.ensures.sound (count_ones c.args.bitmap) c.see_entries-entries.result.items refl c.see_entries-entries.ensures.seen
    c.clean_entries_within.new.actor.me.0 c.clean_entries_within.ensures.sound c.in-Some.cleaned
    (c.in-Some.ensures {u = tt}).cleaned (sym c.is_empty.ensures ∙ c.if-is_empty.false)

pub make_contracted-requires-clause-holds : goal.make_contracted-requires-clause-holds
make_contracted-requires-clause-holds c =
    subst (λ (xs : List Entry). MayHold c.clean_entries_within.new.actor.me.0 (counted_in c.args.link.main.own c.in-Some.cleaned.entries.items xs) None) (sym c.deref.ensures.0)
    (contracted_owes c.args.words.now.table_id.words c.args.actor.now.me.0 c.requires.sound c.args.indirection c.args.link c.args.bitmap c.args.may_entomb c.requires.at
    c.see_entries-entries.new.actor.me.0 c.see_entries-entries.ensures.sound (count_ones c.args.bitmap) c.see_entries-entries.result.items refl c.see_entries-entries.ensures.seen
    c.clean_entries_within.new.actor.me.0 c.clean_entries_within.ensures.sound c.in-Some.cleaned
    (c.in-Some.ensures {u = tt}).cleaned (sym c.is_empty.ensures ∙ c.if-is_empty.false))

pub swap_seen_within-requires-clause-way : goal.swap_seen_within-requires-clause-way
swap_seen_within-requires-clause-way c =
    clean_swap_way c.args.words.now.table_id.words c.args.actor.now.me.0 c.requires.sound c.args.indirection c.args.link c.args.bitmap c.args.may_entomb c.requires.at
    c.see_entries-entries.new.actor.me.0 c.see_entries-entries.ensures.sound (count_ones c.args.bitmap) c.see_entries-entries.result.items refl c.see_entries-entries.ensures.seen
    c.clean_entries_within.new.actor.me.0 c.clean_entries_within.ensures.sound c.in-Some.cleaned
    (c.in-Some.ensures {u = tt}).cleaned (sym c.is_empty.ensures ∙ c.if-is_empty.false)
    c.make_contracted.new.actor.me.0 c.make_contracted.result c.make_contracted.ensures.built c.in-Some-make_contracted.fresh c.in-Some-make_contracted.is c.args.way c.requires.way

pub swap_seen_within-requires-clause-swapping : goal.swap_seen_within-requires-clause-swapping
swap_seen_within-requires-clause-swapping c =
    clean_swap c.args.words.now.table_id.words c.args.actor.now.me.0 c.requires.sound c.args.indirection c.args.link c.args.bitmap c.args.may_entomb c.requires.at
    c.see_entries-entries.new.actor.me.0 c.see_entries-entries.ensures.sound (count_ones c.args.bitmap) c.see_entries-entries.result.items refl c.see_entries-entries.ensures.seen
    c.clean_entries_within.new.actor.me.0 c.clean_entries_within.ensures.sound c.in-Some.cleaned
    (c.in-Some.ensures {u = tt}).cleaned (sym c.is_empty.ensures ∙ c.if-is_empty.false)
    c.make_contracted.new.actor.me.0 c.make_contracted.result c.make_contracted.ensures.built c.in-Some-make_contracted.fresh c.in-Some-make_contracted.is c.class_of-class.result
    c.class_of-class.ensures

pub returns-in-Ok-clause-cleaned : goal.returns-in-Ok-clause-cleaned
returns-in-Ok-clause-cleaned c =
    cleaned_there c.args.words.now.table_id.words c.args.actor.now.me.0 c.requires.sound c.args.indirection c.args.link c.args.bitmap c.args.may_entomb c.requires.at
    c.see_entries-entries.new.actor.me.0 c.see_entries-entries.ensures.sound (count_ones c.args.bitmap) c.see_entries-entries.result.items refl c.see_entries-entries.ensures.seen
    c.clean_entries_within.new.actor.me.0 c.clean_entries_within.ensures.sound c.in-Some.cleaned
    (c.in-Some.ensures {u = tt}).cleaned (sym c.is_empty.ensures ∙ c.if-is_empty.false)
    c.make_contracted.new.actor.me.0 c.make_contracted.result c.make_contracted.ensures.built c.in-Some-make_contracted.fresh c.in-Some-make_contracted.is c.in-Ok.field-0
    c.swap_seen_within.new.actor.me.0 (c.in-Ok.ensures {u = tt}).done

pub returns-in_default-make_contracted-clause-cleaned : goal.returns-in_default-make_contracted-clause-cleaned
returns-in_default-make_contracted-clause-cleaned c =
    clean_gives_up c.args.words.now.table_id.words c.args.actor.now.me.0 c.requires.sound c.args.indirection c.args.link c.args.bitmap c.args.may_entomb c.requires.at
    c.see_entries-entries.new.actor.me.0 c.see_entries-entries.ensures.sound (count_ones c.args.bitmap) c.see_entries-entries.result.items refl c.see_entries-entries.ensures.seen
    c.clean_entries_within.new.actor.me.0 c.clean_entries_within.ensures.sound c.in-Some.cleaned
    (c.in-Some.ensures {u = tt}).cleaned (sym c.is_empty.ensures ∙ c.if-is_empty.false)
    c.make_contracted.new.actor.me.0 c.make_contracted.result c.make_contracted.ensures.built c.in_default-make_contracted.is

pub returns-in-Err-clause-left : goal.returns-in-Err-clause-left
returns-in-Err-clause-left c =
    clean_left c.args.words.now.table_id.words c.args.actor.now.me.0 c.requires.sound c.args.indirection c.args.link c.args.bitmap c.args.may_entomb c.requires.at
    c.see_entries-entries.new.actor.me.0 c.see_entries-entries.ensures.sound (count_ones c.args.bitmap) c.see_entries-entries.result.items refl c.see_entries-entries.ensures.seen
    c.clean_entries_within.new.actor.me.0 c.clean_entries_within.ensures.sound c.in-Some.cleaned
    (c.in-Some.ensures {u = tt}).cleaned (sym c.is_empty.ensures ∙ c.if-is_empty.false)
    c.make_contracted.new.actor.me.0 c.make_contracted.result c.make_contracted.ensures.built c.in-Some-make_contracted.fresh c.in-Some-make_contracted.is c.in-Err.swapping
    c.swap_seen_within.new.actor.me.0 (c.in-Err.ensures {u = tt}).left

pub returns-in_default-clause-stock : goal.returns-in_default-clause-stock
returns-in_default-clause-stock c =
    spent_branch_stock c.args.words.now.table_id.words c.args.actor.now.me.0 c.requires.sound c.args.indirection c.args.link c.args.bitmap c.args.may_entomb c.requires.at
    c.see_entries-entries.new.actor.me.0 c.see_entries-entries.ensures.sound (count_ones c.args.bitmap) c.see_entries-entries.result.items refl c.see_entries-entries.ensures.seen
    c.clean_entries_within.new.actor.me.0
    (subst (λ r. AllCleanedOrNot c.see_entries-entries.new.actor.me.0 r c.clean_entries_within.new.actor.me.0) c.in_default.is c.clean_entries_within.ensures.cleaned) c.args.stock.now c.requires.stock

pub returns-in_default-clause-cleaned : goal.returns-in_default-clause-cleaned
returns-in_default-clause-cleaned c =
    spent_branch c.args.words.now.table_id.words c.args.actor.now.me.0 c.requires.sound c.args.indirection c.args.link c.args.bitmap c.args.may_entomb c.requires.at
    c.see_entries-entries.new.actor.me.0 c.see_entries-entries.ensures.sound (count_ones c.args.bitmap) c.see_entries-entries.result.items refl c.see_entries-entries.ensures.seen
    c.clean_entries_within.new.actor.me.0
    (subst (λ r. AllCleanedOrNot c.see_entries-entries.new.actor.me.0 r c.clean_entries_within.new.actor.me.0) c.in_default.is c.clean_entries_within.ensures.cleaned)
