use Rattle.std.proofs.Common.{◌≤◌, ◌∙◌, ℕ, List, None, length, sym, ap, subst}
use Rattle.trie_words.specs.declared.entries.Entry.{Entry}
use Rattle.trie_words.specs.declared.headers.Previous.TheVariants as previous
use Rattle.trie_words.specs.declared.headers.Shape.TheVariants as shape
use Rattle.lock_free.specs.Contracting.{counted_in, IsLone}
use Rattle.lock_free.specs.Halves.{entries_of_halves, halves_of, AreHalves}
use Rattle.lock_free.specs.Raising.{MayHold}
use Rattle.lock_free.specs.SeenEntries.{AreFit, IsAtMain}
use Rattle.lock_free.proofs.Contracted.{branch_fit, branch_halves, branch_made, counted_back, counted_fit, tomb_made}
use Rattle.lock_free.proofs.contracting.make_contracted.Goals as goal

pub counted_halves-counted-requires-clause-fit : goal.counted_halves-counted-requires-clause-fit
counted_halves-counted-requires-clause-fit c =
    let entries = c.args.entries.now.items in
    let singles = c.args.singles.now in
    subst (λ (xs : List Entry). AreFit (counted_in c.args.main.own xs singles)) (sym c.deref.ensures.0)
    (counted_fit c.args.words.now.table_id.words c.args.actor.now.me.0 c.requires.sound (counted_in c.args.main.own entries singles) c.requires.holds)

-- a tomb
pub make_shared-requires-clause-making : goal.make_shared-requires-clause-making
make_shared-requires-clause-making c =
    let entries = c.args.entries.now.items in
    tomb_made c.args.actor.now.me.0 c.args.may_entomb c.args.bitmap entries c.requires.making c.args.words.now.table_id.words c.requires.sound c.in-Some.single
    (subst (λ r. IsLone c.args.may_entomb entries r) c.in-Some.is c.lone_single.ensures)

pub make_shared-requires-clause-holds : goal.make_shared-requires-clause-holds
make_shared-requires-clause-holds c =
    let entries = c.args.entries.now.items in
    let singles = c.args.singles.now in
    let v = c.args.actor.now.me.0 in
    subst (λ (xs : List Entry). MayHold v xs None)
    (sym (ap entries_of_halves (c.deref-in-Some.ensures.0 ∙ c.counted_halves-counted.ensures ∙ ap (λ (xs : List Entry). halves_of (counted_in c.args.main.own xs singles)) c.deref.ensures.0)
    ∙ counted_back c.args.words.now.table_id.words v c.requires.sound (counted_in c.args.main.own entries singles) c.requires.holds))
    c.requires.holds

-- a branch
pub halves_of-halves-requires-clause-fit : goal.halves_of-halves-requires-clause-fit
halves_of-halves-requires-clause-fit c =
    let entries = c.args.entries.now.items in
    subst AreFit (sym c.deref-in-None.ensures.0)
    (branch_fit c.args.actor.now.me.0 c.args.may_entomb c.args.bitmap entries c.requires.making c.args.words.now.table_id.words c.requires.sound
    (subst (λ (xs : List Entry). length xs ≤ 32) c.deref-in-None.ensures.0 c.deref-in-None.ensures.1) c.ranges.bitmap.fits
    (subst (λ r. IsLone c.args.may_entomb entries r) c.in-None.is c.lone_single.ensures) (previous.Pending c.args.main) c.requires.over)

pub make_shared-requires-in-None-clause-halves : goal.make_shared-requires-in-None-clause-halves
make_shared-requires-in-None-clause-halves c =
    let entries = c.args.entries.now.items in
    subst AreHalves (sym (c.deref-in-None-2.ensures.0 ∙ c.halves_of-halves.ensures ∙ ap halves_of c.deref-in-None.ensures.0))
    (branch_halves c.args.actor.now.me.0 c.args.may_entomb c.args.bitmap entries c.requires.making c.args.words.now.table_id.words c.requires.sound
    (subst (λ (xs : List Entry). length xs ≤ 32) c.deref-in-None.ensures.0 c.deref-in-None.ensures.1) c.ranges.bitmap.fits
    (subst (λ r. IsLone c.args.may_entomb entries r) c.in-None.is c.lone_single.ensures) (previous.Pending c.args.main) c.requires.over)

pub make_shared-requires-in-None-clause-making : goal.make_shared-requires-in-None-clause-making
make_shared-requires-in-None-clause-making c =
    let entries = c.args.entries.now.items in
    subst (λ (hs : List ℕ). IsAtMain c.args.actor.now.me.0 (shape.Branch c.args.bitmap) (entries_of_halves hs))
    (sym (c.deref-in-None-2.ensures.0 ∙ c.halves_of-halves.ensures ∙ ap halves_of c.deref-in-None.ensures.0))
    (branch_made c.args.actor.now.me.0 c.args.may_entomb c.args.bitmap entries c.requires.making c.args.words.now.table_id.words c.requires.sound
    (subst (λ (xs : List Entry). length xs ≤ 32) c.deref-in-None.ensures.0 c.deref-in-None.ensures.1) c.ranges.bitmap.fits
    (subst (λ r. IsLone c.args.may_entomb entries r) c.in-None.is c.lone_single.ensures) (previous.Pending c.args.main) c.requires.over)

pub make_shared-requires-in-None-clause-holds : goal.make_shared-requires-in-None-clause-holds
make_shared-requires-in-None-clause-holds c =
    let entries = c.args.entries.now.items in
    let singles = c.args.singles.now in
    let v = c.args.actor.now.me.0 in
    subst (λ (xs : List Entry). MayHold v xs None)
    (sym (ap entries_of_halves (c.deref-in-None-3.ensures.0 ∙ c.counted_halves-counted.ensures ∙ ap (λ (xs : List Entry). halves_of (counted_in c.args.main.own xs singles)) c.deref.ensures.0)
    ∙ counted_back c.args.words.now.table_id.words v c.requires.sound (counted_in c.args.main.own entries singles) c.requires.holds))
    c.requires.holds
