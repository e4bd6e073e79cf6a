use Rattle.std.proofs.Common.{ap, sym, subst, ◌∙◌, count_ones}
use Rattle.trie_words.specs.declared.headers.Header.{Header}
use Rattle.lock_free.specs.declared.reclaiming.Kind.TheVariants as kinds
use Rattle.lock_free.specs.Counts.{without_one}
use Rattle.lock_free.specs.LeftNodes.{MayLetManyGo}
use Rattle.lock_free.specs.Raising.{HasKept, OwesOne}
use Rattle.lock_free.proofs.LeftNames.{branch_left, branch_released, first_word, list_left, list_released, single_kept, single_named, single_owed, single_released}
use Rattle.lock_free.proofs.freeing.release_main.Goals as goal

pub see_draft-requires-clause-inside : goal.see_draft-requires-clause-inside
see_draft-requires-clause-inside c =
    let m = c.requires.left in first_word c.args.words.now.table_id.words c.args.actor.now.me.0 c.requires.sound c.args.slot m.node m.slot m.left

pub release-requires-clause-owed : goal.release-requires-clause-owed
release-requires-clause-owed c =
    let m = c.requires.left in
    let e = ap (λ (h : Header). h.shape) (sym c.of_word.ensures) ∙ c.in-Tomb.is in (
      (single_named c.args.words.now.table_id.words c.args.actor.now.me.0 c.requires.sound c.args.slot c.args.left_out.now m c.see_draft.result c.see_draft.ensures.seen c.in-Tomb.single e).0,
      subst (λ (me : _). OwesOne me.0
          (single_named c.args.words.now.table_id.words c.args.actor.now.me.0 c.requires.sound c.args.slot c.args.left_out.now m c.see_draft.result c.see_draft.ensures.seen c.in-Tomb.single e).0
          kinds.Single 0 c.in-Tomb.single.slot) (sym c.see_draft.ensures.same)
          (single_owed c.args.words.now.table_id.words c.args.actor.now.me.0 c.requires.sound c.args.slot c.args.left_out.now m c.see_draft.result c.see_draft.ensures.seen c.in-Tomb.single e
          (sym c.is_among.ensures ∙ c.if-is_among.false)),
    )

pub returns-then-is_among-clause-released : goal.returns-then-is_among-clause-released
returns-then-is_among-clause-released c m =
    single_kept c.args.words.now.table_id.words c.args.actor.now.me.0 c.requires.sound c.args.slot c.args.left_out.now m c.see_draft.result c.see_draft.ensures.seen c.in-Tomb.single
    (ap (λ (h : Header). h.shape) (sym c.of_word.ensures) ∙ c.in-Tomb.is) (sym c.is_among.ensures ∙ c.if-is_among.true) c.see_draft.new.actor.me.0
    (ap (λ (me : _). me.0) c.see_draft.ensures.same)

pub returns-else-is_among-clause-released : goal.returns-else-is_among-clause-released
returns-else-is_among-clause-released c m =
    let n = c.args.words.now.table_id.words in
    let v = c.args.actor.now.me.0 in
    let same = c.see_draft.ensures.same in
    let e = ap (λ (h : Header). h.shape) (sym c.of_word.ensures) ∙ c.in-Tomb.is in
    let apart = sym c.is_among.ensures ∙ c.if-is_among.false in
    let k = (single_named n v c.requires.sound c.args.slot c.args.left_out.now m c.see_draft.result c.see_draft.ensures.seen c.in-Tomb.single e).0 in
    let owes = single_owed n v c.requires.sound c.args.slot c.args.left_out.now m c.see_draft.result c.see_draft.ensures.seen c.in-Tomb.single e apart in
    single_released n v c.requires.sound c.args.slot c.args.left_out.now m c.see_draft.result c.see_draft.ensures.seen c.in-Tomb.single e apart c.release.new.actor.me.0
    (subst (λ (me : _). HasKept me.0 (without_one k me.0.owed) c.release.new.actor.me.0) same
    (c.release.ensures.released k (subst (λ (me : _). OwesOne me.0 k kinds.Single 0 c.in-Tomb.single.slot) (sym same) owes)))

pub release_left-requires-clause-left : goal.release_left-requires-clause-left
release_left-requires-clause-left c =
    subst (λ (me : _). MayLetManyGo me.0 c.args.slot (count_ones c.in-Branch.bitmap) c.args.left_out.now) (sym c.see_draft.ensures.same)
    (branch_left c.args.words.now.table_id.words c.args.actor.now.me.0 c.requires.sound c.args.slot c.args.left_out.now c.requires.left c.see_draft.result c.see_draft.ensures.seen
    c.in-Branch.bitmap (ap (λ (h : Header). h.shape) (sym c.of_word.ensures) ∙ c.in-Branch.is))

pub release_left-requires-in-List-clause-left : goal.release_left-requires-in-List-clause-left
release_left-requires-in-List-clause-left c =
    subst (λ (me : _). MayLetManyGo me.0 c.args.slot c.in-List.count c.args.left_out.now) (sym c.see_draft.ensures.same)
    (list_left c.args.words.now.table_id.words c.args.actor.now.me.0 c.requires.sound c.args.slot c.args.left_out.now c.requires.left c.see_draft.result c.see_draft.ensures.seen c.in-List.count
    (ap (λ (h : Header). h.shape) (sym c.of_word.ensures) ∙ c.in-List.is))

pub returns-in-Branch-clause-released : goal.returns-in-Branch-clause-released
returns-in-Branch-clause-released c m =
    branch_released c.args.words.now.table_id.words c.args.actor.now.me.0 c.requires.sound c.args.slot c.args.left_out.now m c.see_draft.result c.see_draft.ensures.seen c.in-Branch.bitmap
    (ap (λ (h : Header). h.shape) (sym c.of_word.ensures) ∙ c.in-Branch.is) c.see_draft.new.actor.me.0 c.release_left.new.actor.me.0 (ap (λ (me : _). me.0) c.see_draft.ensures.same)
    c.release_left.ensures.released

pub returns-in-List-clause-released : goal.returns-in-List-clause-released
returns-in-List-clause-released c m =
    list_released c.args.words.now.table_id.words c.args.actor.now.me.0 c.requires.sound c.args.slot c.args.left_out.now m c.see_draft.result c.see_draft.ensures.seen c.in-List.count
    (ap (λ (h : Header). h.shape) (sym c.of_word.ensures) ∙ c.in-List.is) c.see_draft.new.actor.me.0 c.release_left-in-List.new.actor.me.0 (ap (λ (me : _). me.0) c.see_draft.ensures.same)
    c.release_left-in-List.ensures.released
