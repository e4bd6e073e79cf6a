use Rattle.std.proofs.Common.{◌%◌, Bool, if◌then◌else◌, eq-eqb, ne_eqb, sym, ap, subst, ◌∙◌}
use Rattle.trie_words.specs.declared.entries.Pair.{Pair}
use Rattle.lock_free.specs.LeftNodes.{HasSeenHalf}
use Rattle.lock_free.specs.Nodes.{half_in}
use Rattle.lock_free.proofs.LeftEntries.{entry_inside, half_seen}
use Rattle.lock_free.proofs.freeing.see_left_half.Goals as goal

pub see_draft-requires-clause-inside : goal.see_draft-requires-clause-inside
see_draft-requires-clause-inside c = entry_inside c.args.actor.now.me.0 c.args.slot c.args.words.now.table_id.words c.requires.sound c.args.position c.requires.left

pub returns-then-position-eq0-clause-seen : goal.returns-then-position-eq0-clause-seen
returns-then-position-eq0-clause-seen c =
    let pair = c.of_word-pair.result in
    subst (HasSeenHalf c.args.actor.now.me.0 c.args.slot c.args.position)
    (sym (ap (λ (b : Bool). if b then pair.low else pair.high) (sym (eq-eqb (c.args.position % 2) 0 c.if-position-eq0.true)) ∙ ap (λ (p : Pair). half_in p c.args.position) c.of_word-pair.ensures))
    (half_seen c.args.actor.now.me.0 c.args.slot c.args.position c.see_draft.result c.see_draft.ensures.seen)

pub returns-else-position-eq0-clause-seen : goal.returns-else-position-eq0-clause-seen
returns-else-position-eq0-clause-seen c =
    let pair = c.of_word-pair.result in
    subst (HasSeenHalf c.args.actor.now.me.0 c.args.slot c.args.position)
    (sym (ap (λ (b : Bool). if b then pair.low else pair.high) (sym (ne_eqb (c.args.position % 2) 0 c.if-position-eq0.false)) ∙ ap (λ (p : Pair). half_in p c.args.position) c.of_word-pair.ensures))
    (half_seen c.args.actor.now.me.0 c.args.slot c.args.position c.see_draft.result c.see_draft.ensures.seen)
