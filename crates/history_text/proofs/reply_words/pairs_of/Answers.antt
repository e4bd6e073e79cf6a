use Rattle.std.proofs.Common.{sym, [], ◌∙◌, true, ◌≡◌}
use Rattle.text_lines.specs.Words.{nows}
use Rattle.history_text.specs.Lines.{pair_word, has_equals}
use Rattle.std.specs.List.{list_all}
use Rattle.std.proofs.lemmas.Result.{err_from_is_err_and}
use Rattle.history_text.proofs.Each.{each_more, each_fault}
use Rattle.history_text.proofs.reply_words.pairs_of.Goals as goal

pub returns-in_err-pair_word : goal.returns-in_err-pair_word
returns-in_err-pair_word c =
    let ok : list_all has_equals (nows c.args.words.now) ≡ true = sym c.all_have_equals.ensures ∙ c.if-not-all_have_equals.false in
    let p = err_from_is_err_and c.from_residual.result c.from_residual.ensures.1 in
    λ _. rw (p.1, p.2, ok) (sym (each_fault pair_word c.args.words.now c.loop-word.word-index (record { ref_ptr = (0, 0); now = [] }) c.loop-word.pairs.items c.in_err-pair_word.field-0.0
    c.loop-word-test.true c.loop-word.invariant (sym c.in_err-pair_word.ensures)))

pub loop-word-preserved : goal.loop-word-preserved
loop-word-preserved c =
    rw c.in_ok-push.ensures.items (each_more pair_word c.args.words.now c.loop-word.word-index (record { ref_ptr = (0, 0); now = [] }) c.loop-word.pairs.items c.in_ok-pair_word.field-0
    c.loop-word-test.true c.loop-word.invariant (sym c.in_ok-pair_word.ensures))
