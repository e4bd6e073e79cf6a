use Rattle.std.proofs.Common.{◌≡◌, take, Ok}
use Rattle.text_lines.specs.Words.{nows}
use Rattle.history_text.specs.Lines.{each, pair_word}
use Rattle.history_text.proofs.reply_words.pairs_of.Given as goal

abbrev pub invariant-loop-word : goal.invariant-loop-word
invariant-loop-word l = each pair_word (nows (take l.word-index l.words)) ≡ Ok l.pairs.items
