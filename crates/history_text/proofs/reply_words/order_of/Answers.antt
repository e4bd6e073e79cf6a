use Rattle.std.proofs.Common.{sym, []}
use Rattle.std.proofs.lemmas.Result.{err_from_is_err_and}
use Rattle.text_lines.specs.Words.{wanted, number_of, largest}
use Rattle.history_text.proofs.Each.{each_more, each_fault}
use Rattle.history_text.proofs.reply_words.order_of.Goals as goal

pub returns-in_err-wanted : goal.returns-in_err-wanted
returns-in_err-wanted c = let p = err_from_is_err_and c.from_residual.result c.from_residual.ensures.1 in λ _.
    rw (p.1, p.2) (sym (each_fault (λ word. wanted (number_of largest word)) c.args.words.now c.loop-word.word-index (record { ref_ptr = (0, 0); now = [] }) c.loop-word.order.items
    c.in_err-wanted.field-0.0 c.loop-word-test.true c.loop-word.invariant (sym c.in_err-wanted.ensures)))

pub loop-word-preserved : goal.loop-word-preserved
loop-word-preserved c =
    rw c.in_ok-push.ensures.items (each_more (λ word. wanted (number_of largest word)) c.args.words.now c.loop-word.word-index (record { ref_ptr = (0, 0); now = [] }) c.loop-word.order.items
    c.in_ok-wanted.field-0 c.loop-word-test.true c.loop-word.invariant (sym c.in_ok-wanted.ensures))
