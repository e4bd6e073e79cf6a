use Rattle.std.proofs.Common.{sym, ap, subst, ◌∙◌}
use Rattle.trie_words.specs.declared.links.Link.{Link}
use Rattle.lock_free.specs.Counts.{without_one}
use Rattle.lock_free.specs.LeftNodes.{is_among}
use Rattle.lock_free.specs.Raising.{HasKept}
use Rattle.lock_free.proofs.LeftNames.{first_word, link_by, link_kept, link_released, main_named}
use Rattle.lock_free.proofs.freeing.release_link.Goals as goal

pub see_draft-requires-clause-inside : goal.see_draft-requires-clause-inside
see_draft-requires-clause-inside c =
    let m = c.requires.left in first_word c.args.words.now.table_id.words c.args.actor.now.me.0 c.requires.sound c.args.slot m.node m.slot m.left

pub returns-then-is_among-clause-released : goal.returns-then-is_among-clause-released
returns-then-is_among-clause-released c m =
    link_kept c.args.words.now.table_id.words c.args.actor.now.me.0 c.requires.sound c.args.slot c.args.left_out.now m c.see_draft.result c.see_draft.ensures.seen
    (ap (λ (l : Link). is_among c.args.left_out.now l.main.slot) (sym c.of_word-main.ensures) ∙ sym c.is_among.ensures ∙ c.if-is_among.true)
    c.see_draft.new.actor.me.0 (ap (λ (me : _). me.0) c.see_draft.ensures.same)

pub release-requires-clause-owed : goal.release-requires-clause-owed
release-requires-clause-owed c =
    let m = c.requires.left in
    let n = c.args.words.now.table_id.words in
    let v = c.args.actor.now.me.0 in (
      (main_named n v c.requires.sound c.args.slot c.args.left_out.now m c.see_draft.result c.see_draft.ensures.seen).0,
      link_by n v c.requires.sound c.args.slot c.args.left_out.now m c.see_draft.result c.see_draft.ensures.seen
          (ap (λ (l : Link). is_among c.args.left_out.now l.main.slot) (sym c.of_word-main.ensures) ∙ sym c.is_among.ensures ∙ c.if-is_among.false)
          c.see_draft.new.actor.me.0 (ap (λ (me : _). me.0) c.see_draft.ensures.same) c.of_word-main.result c.of_word-main.ensures c.sizes.result (c.sizes.ensures ∙ c.requires.sizes)
          c.class-class.result c.class-class.ensures,
    )

pub returns-clause-released : goal.returns-clause-released
returns-clause-released c m =
    let n = c.args.words.now.table_id.words in
    let v = c.args.actor.now.me.0 in
    let same = ap (λ (me : _). me.0) c.see_draft.ensures.same in
    let k = (main_named n v c.requires.sound c.args.slot c.args.left_out.now m c.see_draft.result c.see_draft.ensures.seen).0 in
    let apart = ap (λ (l : Link). is_among c.args.left_out.now l.main.slot) (sym c.of_word-main.ensures) ∙ sym c.is_among.ensures ∙ c.if-is_among.false in
    link_released n v c.requires.sound c.args.slot c.args.left_out.now m c.see_draft.result c.see_draft.ensures.seen apart c.release.new.actor.me.0
    (subst (λ u. HasKept u (without_one k u.owed) c.release.new.actor.me.0) same
    (c.release.ensures.released k
    (link_by n v c.requires.sound c.args.slot c.args.left_out.now m c.see_draft.result c.see_draft.ensures.seen apart c.see_draft.new.actor.me.0 same c.of_word-main.result c.of_word-main.ensures
    c.sizes.result (c.sizes.ensures ∙ c.requires.sizes) c.class-class.result c.class-class.ensures)))
