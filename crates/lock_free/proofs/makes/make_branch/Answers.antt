use Rattle.std.proofs.Common.{◌≤◌, ℕ, List, sym, ap, subst, ◌∙◌, length}
use Rattle.std.proofs.lemmas.List.{length-map}
use Rattle.trie_words.specs.Codes.{entry_code}
use Rattle.trie_words.specs.declared.headers.Shape.TheVariants as shape
use Rattle.lock_free.specs.Halves.{entries_of_halves, AreHalves}
use Rattle.lock_free.specs.SeenEntries.{IsAtBranch}
use Rattle.lock_free.proofs.EntryHalves.{codes_back, codes_small}
use Rattle.lock_free.proofs.MainMakes.{entries_fit, branch_at}
use Rattle.lock_free.proofs.makes.make_branch.Goals as goal

pub halves_of-halves-requires-clause-fit : goal.halves_of-halves-requires-clause-fit
halves_of-halves-requires-clause-fit c =
    entries_fit c.args.words.now.table_id.words c.args.actor.now.me.0 c.requires.sound (shape.Branch c.args.bitmap) c.args.entries.now
    (branch_at c.args.actor.now.me.0 c.args.entries.now c.requires.few c.args.bitmap c.ranges.bitmap.fits c.requires.making) c.args.previous c.requires.over

pub make_branch_of-requires-clause-few : goal.make_branch_of-requires-clause-few
make_branch_of-requires-clause-few c =
    subst (λ (hs : List ℕ). length hs ≤ 32) (sym (c.deref.ensures.0 ∙ c.halves_of-halves.ensures))
    (subst (λ k. k ≤ 32) (sym (length-map c.args.entries.now entry_code)) c.requires.few)

pub make_branch_of-requires-clause-halves : goal.make_branch_of-requires-clause-halves
make_branch_of-requires-clause-halves c =
    subst AreHalves (sym (c.deref.ensures.0 ∙ c.halves_of-halves.ensures)) (codes_small c.args.entries.now (entries_fit c.args.words.now.table_id.words c.args.actor.now.me.0 c.requires.sound
    (shape.Branch c.args.bitmap) c.args.entries.now
    (branch_at c.args.actor.now.me.0 c.args.entries.now c.requires.few c.args.bitmap c.ranges.bitmap.fits c.requires.making) c.args.previous c.requires.over))

pub make_branch_of-requires-clause-making : goal.make_branch_of-requires-clause-making
make_branch_of-requires-clause-making c =
    subst (IsAtBranch c.args.actor.now.me.0 c.args.bitmap) (sym (ap entries_of_halves (c.deref.ensures.0 ∙ c.halves_of-halves.ensures) ∙ codes_back c.args.entries.now (entries_fit
    c.args.words.now.table_id.words c.args.actor.now.me.0 c.requires.sound (shape.Branch c.args.bitmap) c.args.entries.now
    (branch_at c.args.actor.now.me.0 c.args.entries.now c.requires.few c.args.bitmap c.ranges.bitmap.fits c.requires.making) c.args.previous c.requires.over)))
    c.requires.making
