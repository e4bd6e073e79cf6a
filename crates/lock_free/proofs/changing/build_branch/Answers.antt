use Rattle.std.proofs.Common.{◌≤◌, ℕ, List, sym, ap, subst, ◌∙◌, length}
use Rattle.trie_words.specs.declared.headers.Shape.TheVariants as shape
use Rattle.machine_model.specs.Beneath.ctrie_base.specs.Paths.{position_of}
use Rattle.lock_free.specs.Changing.{brought, edited, edited_bitmap, CanEdit}
use Rattle.machine_model.specs.Beneath.slot_arena.specs.declared.nodes.Node.TheVariants.{Branch}
use Rattle.machine_model.specs.Beneath.slot_arena.specs.Heaps.{entries_from}
use Rattle.lock_free.specs.Raising.{MayReplace}
use Rattle.lock_free.specs.Halves.{entries_of_halves, halves_edited, AreHalves}
use Rattle.lock_free.specs.SeenEntries.{HasEntries, HasSeenEntries, IsAtBranch}
use Rattle.lock_free.proofs.ChangedMains.{edit_fits, has_entries, few_seen, over_there, stock_there, built_there}
use Rattle.lock_free.proofs.ChangedBranches.{new_node, refs, refs_are, counted, few, branch_can, branch_ready}
use Rattle.lock_free.proofs.EntryHalves.{can_edit_halves, edited_few, edited_is, edited_small}
use Rattle.lock_free.proofs.MainChanges.{refs_edited}
use Rattle.lock_free.proofs.MainNames.{may_replace, taken_in}
use Rattle.lock_free.proofs.changing.build_branch.Goals as goal

pub see_halves-requires-clause-held : goal.see_halves-requires-clause-held
see_halves-requires-clause-held c =
    subst (HasEntries c.args.actor.now.me.0 c.args.main.slot) (sym c.requires.counted)
    (has_entries c.args.words.now.table_id.words c.args.actor.now.me.0 c.requires.sound c.args.main (shape.Branch c.args.bitmap) c.args.flag c.args.change c.requires.at
    (refs c.args.words.now.table_id.words c.args.actor.now.me.0 c.requires.sound c.args.main c.args.bitmap c.args.flag c.args.change c.requires.at)
    (refs_are c.args.words.now.table_id.words c.args.actor.now.me.0 c.requires.sound c.args.main c.args.bitmap c.args.flag c.args.change c.requires.at)
    (counted c.args.words.now.table_id.words c.args.actor.now.me.0 c.requires.sound c.args.main c.args.bitmap c.args.flag c.args.change c.requires.at)
    (few c.args.words.now.table_id.words c.args.actor.now.me.0 c.requires.sound c.args.main c.args.bitmap c.args.flag c.args.change c.requires.at))

pub apply-requires-clause-can : goal.apply-requires-clause-can
apply-requires-clause-can c =
    can_edit_halves c.see_halves.new.halves.items c.position_of-place.result c.args.change
    (subst (λ k. CanEdit (entries_of_halves c.see_halves.new.halves.items) k c.args.change) (sym c.position_of-place.ensures.position)
    (branch_can c.args.words.now.table_id.words c.args.actor.now.me.0 c.requires.sound c.args.main c.args.bitmap c.args.flag c.args.change c.requires.at
    c.see_halves.new.actor.me.0 (entries_of_halves c.see_halves.new.halves.items)
    (subst (λ k. HasSeenEntries c.args.actor.now.me.0 c.args.main.slot k (entries_of_halves c.see_halves.new.halves.items) c.see_halves.new.actor.me.0)
    c.requires.counted c.see_halves.ensures.seen)))

pub apply-requires-clause-fits : goal.apply-requires-clause-fits
apply-requires-clause-fits c = edit_fits c.args.words.now.table_id.words c.args.actor.now.me.0 c.requires.sound c.args.main (shape.Branch c.args.bitmap) c.args.flag c.args.change c.requires.at

pub make_branch_over-requires-clause-stock : goal.make_branch_over-requires-clause-stock
make_branch_over-requires-clause-stock c =
    stock_there c.args.words.now.table_id.words c.args.actor.now.me.0 c.requires.sound c.args.main (shape.Branch c.args.bitmap) c.args.flag c.args.change c.requires.at
    (refs c.args.words.now.table_id.words c.args.actor.now.me.0 c.requires.sound c.args.main c.args.bitmap c.args.flag c.args.change c.requires.at)
    (refs_are c.args.words.now.table_id.words c.args.actor.now.me.0 c.requires.sound c.args.main c.args.bitmap c.args.flag c.args.change c.requires.at)
    (counted c.args.words.now.table_id.words c.args.actor.now.me.0 c.requires.sound c.args.main c.args.bitmap c.args.flag c.args.change c.requires.at)
    (few c.args.words.now.table_id.words c.args.actor.now.me.0 c.requires.sound c.args.main c.args.bitmap c.args.flag c.args.change c.requires.at) c.see_halves.new.actor.me.0
    (entries_of_halves c.see_halves.new.halves.items)
    (subst (λ k. HasSeenEntries c.args.actor.now.me.0 c.args.main.slot k (entries_of_halves c.see_halves.new.halves.items) c.see_halves.new.actor.me.0)
    c.requires.counted c.see_halves.ensures.seen) c.args.stock.now c.requires.stock

pub make_branch_over-requires-clause-few : goal.make_branch_over-requires-clause-few
make_branch_over-requires-clause-few c =
    subst (λ (hs : List ℕ). length hs ≤ 32) (sym (c.deref.ensures.0 ∙ c.apply.ensures ∙ ap (λ k. halves_edited c.see_halves.new.halves.items k c.args.change) c.position_of-place.ensures.position))
    (edited_few c.see_halves.new.halves.items (position_of c.args.flag c.args.bitmap) c.args.change (edit_fits c.args.words.now.table_id.words c.args.actor.now.me.0 c.requires.sound
    c.args.main (shape.Branch c.args.bitmap) c.args.flag c.args.change c.requires.at)
    (few_seen c.args.words.now.table_id.words c.args.actor.now.me.0 c.requires.sound c.args.main (shape.Branch c.args.bitmap) c.args.flag c.args.change c.requires.at
    (refs c.args.words.now.table_id.words c.args.actor.now.me.0 c.requires.sound c.args.main c.args.bitmap c.args.flag c.args.change c.requires.at)
    (refs_are c.args.words.now.table_id.words c.args.actor.now.me.0 c.requires.sound c.args.main c.args.bitmap c.args.flag c.args.change c.requires.at)
    (counted c.args.words.now.table_id.words c.args.actor.now.me.0 c.requires.sound c.args.main c.args.bitmap c.args.flag c.args.change c.requires.at)
    (few c.args.words.now.table_id.words c.args.actor.now.me.0 c.requires.sound c.args.main c.args.bitmap c.args.flag c.args.change c.requires.at) c.see_halves.new.actor.me.0
    (entries_of_halves c.see_halves.new.halves.items)
    (subst (λ k. HasSeenEntries c.args.actor.now.me.0 c.args.main.slot k (entries_of_halves c.see_halves.new.halves.items) c.see_halves.new.actor.me.0)
    c.requires.counted c.see_halves.ensures.seen) (position_of c.args.flag c.args.bitmap)
    (branch_can c.args.words.now.table_id.words c.args.actor.now.me.0 c.requires.sound c.args.main c.args.bitmap c.args.flag c.args.change c.requires.at
    c.see_halves.new.actor.me.0 (entries_of_halves c.see_halves.new.halves.items)
    (subst (λ k. HasSeenEntries c.args.actor.now.me.0 c.args.main.slot k (entries_of_halves c.see_halves.new.halves.items) c.see_halves.new.actor.me.0)
    c.requires.counted c.see_halves.ensures.seen))))

pub make_branch_over-requires-clause-halves : goal.make_branch_over-requires-clause-halves
make_branch_over-requires-clause-halves c =
    subst AreHalves (sym (c.deref.ensures.0 ∙ c.apply.ensures)) (edited_small c.see_halves.new.halves.items c.position_of-place.result c.args.change (edit_fits c.args.words.now.table_id.words
    c.args.actor.now.me.0 c.requires.sound c.args.main (shape.Branch c.args.bitmap) c.args.flag c.args.change c.requires.at) c.see_halves.ensures.halves)

pub make_branch_over-requires-clause-making : goal.make_branch_over-requires-clause-making
make_branch_over-requires-clause-making c =
    subst (λ b. IsAtBranch c.see_halves.new.actor.me.0 b (entries_of_halves c.deref.result.now)) (sym c.edited_bitmap-bitmap.ensures)
    (subst (IsAtBranch c.see_halves.new.actor.me.0 (edited_bitmap c.args.bitmap c.args.flag c.args.change))
    (sym (ap entries_of_halves (c.deref.ensures.0 ∙ c.apply.ensures ∙ ap (λ k. halves_edited c.see_halves.new.halves.items k c.args.change) c.position_of-place.ensures.position) ∙ edited_is
    c.see_halves.new.halves.items (position_of c.args.flag c.args.bitmap) c.args.change (edit_fits c.args.words.now.table_id.words c.args.actor.now.me.0 c.requires.sound c.args.main
    (shape.Branch c.args.bitmap) c.args.flag c.args.change c.requires.at)))
    (branch_ready c.args.words.now.table_id.words c.args.actor.now.me.0 c.requires.sound c.args.main c.args.bitmap c.args.flag c.args.change c.requires.at
    c.see_halves.new.actor.me.0 (entries_of_halves c.see_halves.new.halves.items)
    (subst (λ k. HasSeenEntries c.args.actor.now.me.0 c.args.main.slot k (entries_of_halves c.see_halves.new.halves.items) c.see_halves.new.actor.me.0)
    c.requires.counted c.see_halves.ensures.seen) c.requires.kept c.see_halves.ensures.sound))

pub make_branch_over-requires-clause-over : goal.make_branch_over-requires-clause-over
make_branch_over-requires-clause-over c =
    over_there c.args.words.now.table_id.words c.args.actor.now.me.0 c.requires.sound c.args.main (shape.Branch c.args.bitmap) c.args.flag c.args.change c.requires.at
    (refs c.args.words.now.table_id.words c.args.actor.now.me.0 c.requires.sound c.args.main c.args.bitmap c.args.flag c.args.change c.requires.at)
    (refs_are c.args.words.now.table_id.words c.args.actor.now.me.0 c.requires.sound c.args.main c.args.bitmap c.args.flag c.args.change c.requires.at)
    (counted c.args.words.now.table_id.words c.args.actor.now.me.0 c.requires.sound c.args.main c.args.bitmap c.args.flag c.args.change c.requires.at)
    (few c.args.words.now.table_id.words c.args.actor.now.me.0 c.requires.sound c.args.main c.args.bitmap c.args.flag c.args.change c.requires.at) c.see_halves.new.actor.me.0
    (entries_of_halves c.see_halves.new.halves.items)
    (subst (λ k. HasSeenEntries c.args.actor.now.me.0 c.args.main.slot k (entries_of_halves c.see_halves.new.halves.items) c.see_halves.new.actor.me.0)
    c.requires.counted c.see_halves.ensures.seen) c.see_halves.ensures.sound

-- what it names
pub make_branch_over-requires-clause-holds : goal.make_branch_over-requires-clause-holds
make_branch_over-requires-clause-holds c =
    let w = c.see_halves.new.actor.me.0 in
    let entries = entries_of_halves c.see_halves.new.halves.items in
    let rs = refs_edited (refs c.args.words.now.table_id.words c.args.actor.now.me.0 c.requires.sound c.args.main c.args.bitmap c.args.flag c.args.change c.requires.at)
    (position_of c.args.flag c.args.bitmap) c.requires.at.its in
    subst (λ es. MayReplace w c.args.main.own es c.brought.result)
    (sym (ap entries_of_halves (c.deref.ensures.0 ∙ c.apply.ensures ∙ ap (λ k. halves_edited c.see_halves.new.halves.items k c.args.change) c.position_of-place.ensures.position) ∙ edited_is
    c.see_halves.new.halves.items (position_of c.args.flag c.args.bitmap) c.args.change
    (edit_fits c.args.words.now.table_id.words c.args.actor.now.me.0 c.requires.sound c.args.main (shape.Branch c.args.bitmap) c.args.flag c.args.change c.requires.at)))
    (subst (MayReplace w c.args.main.own (edited entries (position_of c.args.flag c.args.bitmap) c.args.change))
    (sym (c.brought.ensures ∙ ap (λ k. brought k c.args.change) c.position_of-place.ensures.position))
    (may_replace c.args.words.now.table_id.words c.args.actor.now.me.0 c.requires.sound c.args.main (shape.Branch c.args.bitmap) c.args.flag c.args.change c.requires.at
    (refs c.args.words.now.table_id.words c.args.actor.now.me.0 c.requires.sound c.args.main c.args.bitmap c.args.flag c.args.change c.requires.at)
    (refs_are c.args.words.now.table_id.words c.args.actor.now.me.0 c.requires.sound c.args.main c.args.bitmap c.args.flag c.args.change c.requires.at)
    (counted c.args.words.now.table_id.words c.args.actor.now.me.0 c.requires.sound c.args.main c.args.bitmap c.args.flag c.args.change c.requires.at)
    (few c.args.words.now.table_id.words c.args.actor.now.me.0 c.requires.sound c.args.main c.args.bitmap c.args.flag c.args.change c.requires.at) w entries
    (subst (λ k. HasSeenEntries c.args.actor.now.me.0 c.args.main.slot k (entries_of_halves c.see_halves.new.halves.items) c.see_halves.new.actor.me.0)
    c.requires.counted c.see_halves.ensures.seen) c.see_halves.ensures.sound (position_of c.args.flag c.args.bitmap)
    (branch_can c.args.words.now.table_id.words c.args.actor.now.me.0 c.requires.sound c.args.main c.args.bitmap c.args.flag c.args.change c.requires.at w entries
    (subst (λ k. HasSeenEntries c.args.actor.now.me.0 c.args.main.slot k (entries_of_halves c.see_halves.new.halves.items) c.see_halves.new.actor.me.0)
    c.requires.counted c.see_halves.ensures.seen))
    (Branch (edited_bitmap c.args.bitmap c.args.flag c.args.change) (entries_from rs))
    (new_node c.args.words.now.table_id.words c.args.actor.now.me.0 c.requires.sound c.args.main c.args.bitmap c.args.flag c.args.change c.requires.at w entries
    (subst (λ k. HasSeenEntries c.args.actor.now.me.0 c.args.main.slot k (entries_of_halves c.see_halves.new.halves.items) c.see_halves.new.actor.me.0)
    c.requires.counted c.see_halves.ensures.seen)
    c.requires.kept c.see_halves.ensures.sound)
    (taken_in rs)))

pub returns-clause-built : goal.returns-clause-built
returns-clause-built c =
    built_there c.args.words.now.table_id.words c.args.actor.now.me.0 c.requires.sound c.args.main (shape.Branch c.args.bitmap) c.args.flag c.args.change c.requires.at
    (refs c.args.words.now.table_id.words c.args.actor.now.me.0 c.requires.sound c.args.main c.args.bitmap c.args.flag c.args.change c.requires.at)
    (refs_are c.args.words.now.table_id.words c.args.actor.now.me.0 c.requires.sound c.args.main c.args.bitmap c.args.flag c.args.change c.requires.at)
    (counted c.args.words.now.table_id.words c.args.actor.now.me.0 c.requires.sound c.args.main c.args.bitmap c.args.flag c.args.change c.requires.at)
    (few c.args.words.now.table_id.words c.args.actor.now.me.0 c.requires.sound c.args.main c.args.bitmap c.args.flag c.args.change c.requires.at) c.see_halves.new.actor.me.0
    (entries_of_halves c.see_halves.new.halves.items)
    (subst (λ k. HasSeenEntries c.args.actor.now.me.0 c.args.main.slot k (entries_of_halves c.see_halves.new.halves.items) c.see_halves.new.actor.me.0)
    c.requires.counted c.see_halves.ensures.seen) c.see_halves.ensures.sound c.make_branch_over.result c.make_branch_over.new.actor.me.0
    c.make_branch_over.ensures.built
