use Rattle.std.proofs.Common.{◌≡◌, take, Ok}
use Rattle.text_lines.specs.Words.{nows, wanted, number_of, largest}
use Rattle.history_text.specs.Lines.{each}
use Rattle.history_text.proofs.reply_words.order_of.Given as goal

abbrev pub invariant-loop-word : goal.invariant-loop-word
invariant-loop-word l = each (λ word. wanted (number_of largest word)) (nows (take l.word-index l.words)) ≡ Ok l.order.items
