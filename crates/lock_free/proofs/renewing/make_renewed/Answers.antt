use Rattle.std.proofs.Common.{None, ℕ, List, sym, subst, ◌∙◌}
use Rattle.trie_words.specs.declared.headers.Previous.TheVariants as previous
use Rattle.trie_words.specs.declared.headers.Shape.TheVariants as shape
use Rattle.lock_free.specs.Halves.{entries_of_halves, AreHalves}
use Rattle.lock_free.specs.Raising.{MayHold, MayReplace}
use Rattle.lock_free.specs.SeenEntries.{AreFit, IsAtBranch, IsAtMain}
use Rattle.lock_free.proofs.Contracted.{counted_back, counted_fit}
use Rattle.lock_free.proofs.EntryHalves.{codes_small}
use Rattle.lock_free.proofs.RenewHolds.{branch_fits, branch_of_halves}
use Rattle.lock_free.proofs.Resting.{built_at_once}
use Rattle.lock_free.proofs.renewing.make_renewed.Goals as goal

pub halves_of-halves-requires-clause-fit : goal.halves_of-halves-requires-clause-fit
halves_of-halves-requires-clause-fit c =
    branch_fits c.args.words.now.table_id.words c.args.actor.now.me.0 c.requires.sound c.deref.result.now c.deref.ensures.1 c.args.bitmap c.ranges.bitmap.fits
    (subst (IsAtBranch c.args.actor.now.me.0 c.args.bitmap) (sym c.deref.ensures.0) c.requires.making) (previous.Pending c.args.main) c.requires.over

-- over the indirection's own main node
pub make_main-requires-clause-halves : goal.make_main-requires-clause-halves
make_main-requires-clause-halves c =
    subst AreHalves (sym (c.deref-then-main.ensures.0 ∙ c.halves_of-halves.ensures)) (codes_small c.deref.result.now (branch_fits c.args.words.now.table_id.words c.args.actor.now.me.0
    c.requires.sound c.deref.result.now c.deref.ensures.1 c.args.bitmap c.ranges.bitmap.fits
    (subst (IsAtBranch c.args.actor.now.me.0 c.args.bitmap) (sym c.deref.ensures.0) c.requires.making) (previous.Pending c.args.main) c.requires.over))

pub make_main-requires-clause-making : goal.make_main-requires-clause-making
make_main-requires-clause-making c =
    subst (λ (hs : List ℕ). IsAtMain c.args.actor.now.me.0 (shape.Branch c.args.bitmap) (entries_of_halves hs)) (sym (c.deref-then-main.ensures.0 ∙ c.halves_of-halves.ensures))
    (branch_of_halves c.args.words.now.table_id.words c.args.actor.now.me.0 c.requires.sound c.deref.result.now c.deref.ensures.1 c.args.bitmap c.ranges.bitmap.fits
    (subst (IsAtBranch c.args.actor.now.me.0 c.args.bitmap) (sym c.deref.ensures.0) c.requires.making) (previous.Pending c.args.main) c.requires.over)

pub returns-then-main-clause-built : goal.returns-then-main-clause-built
returns-then-main-clause-built c = built_at_once c.args.actor.now.me.0 c.make_main.result c.make_main.new.actor.me.0 c.make_main.ensures.made

-- over a shared one
pub halves_of-counted-requires-clause-fit : goal.halves_of-counted-requires-clause-fit
halves_of-counted-requires-clause-fit c =
    let v = c.args.actor.now.me.0 in
    let may : MayHold v c.args.renewed.now.kept.items None = subst (λ b. MayReplace v b c.args.renewed.now.kept.items None) c.if-main.false c.requires.holds in
    subst AreFit (sym c.deref-else-main.ensures.0) (counted_fit c.args.words.now.table_id.words v c.requires.sound c.args.renewed.now.kept.items may)

pub make_shared-requires-clause-halves : goal.make_shared-requires-clause-halves
make_shared-requires-clause-halves c =
    subst AreHalves (sym (c.deref-else-main-2.ensures.0 ∙ c.halves_of-halves.ensures)) (codes_small c.deref.result.now (branch_fits c.args.words.now.table_id.words c.args.actor.now.me.0
    c.requires.sound c.deref.result.now c.deref.ensures.1 c.args.bitmap c.ranges.bitmap.fits
    (subst (IsAtBranch c.args.actor.now.me.0 c.args.bitmap) (sym c.deref.ensures.0) c.requires.making) (previous.Pending c.args.main) c.requires.over))

pub make_shared-requires-clause-making : goal.make_shared-requires-clause-making
make_shared-requires-clause-making c =
    subst (λ (hs : List ℕ). IsAtMain c.args.actor.now.me.0 (shape.Branch c.args.bitmap) (entries_of_halves hs)) (sym (c.deref-else-main-2.ensures.0 ∙ c.halves_of-halves.ensures))
    (branch_of_halves c.args.words.now.table_id.words c.args.actor.now.me.0 c.requires.sound c.deref.result.now c.deref.ensures.1 c.args.bitmap c.ranges.bitmap.fits
    (subst (IsAtBranch c.args.actor.now.me.0 c.args.bitmap) (sym c.deref.ensures.0) c.requires.making) (previous.Pending c.args.main) c.requires.over)

pub make_shared-requires-clause-holds : goal.make_shared-requires-clause-holds
make_shared-requires-clause-holds c =
    let v = c.args.actor.now.me.0 in
    let kept = c.deref-else-main.result.now in
    let may : MayHold v c.args.renewed.now.kept.items None = subst (λ b. MayReplace v b c.args.renewed.now.kept.items None) c.if-main.false c.requires.holds in
    let there : MayHold v kept None = subst (λ es. MayHold v es None) (sym c.deref-else-main.ensures.0) may in
    subst (λ (hs : List ℕ). MayHold v (entries_of_halves hs) None) (sym (c.deref-else-main-3.ensures.0 ∙ c.halves_of-counted.ensures))
    (subst (λ es. MayHold v es None) (sym (counted_back c.args.words.now.table_id.words v c.requires.sound kept there)) there)
