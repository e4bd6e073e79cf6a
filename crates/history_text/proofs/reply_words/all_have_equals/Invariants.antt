use Rattle.std.proofs.Common.{◌≡◌, drop}
use Rattle.std.specs.List.{list_all}
use Rattle.text_lines.specs.Words.{nows}
use Rattle.history_text.specs.Lines.{has_equals}
use Rattle.history_text.proofs.reply_words.all_have_equals.Given as goal

abbrev pub invariant-loop-word : goal.invariant-loop-word
invariant-loop-word l = list_all has_equals (nows (drop l.word-index l.words)) ≡ list_all has_equals (nows l.words)
