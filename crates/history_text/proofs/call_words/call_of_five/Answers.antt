use Rattle.std.proofs.Common.{refl}
use Rattle.history_text.proofs.call_words.call_of_five.Goals as goal

pub returns : goal.returns
returns c = rw (c.call_on_change.ensures, c.both-2.ensures, c.both.ensures, c.both-change.ensures, c.value_word.ensures, c.value_word-2.ensures, c.value_word-3.ensures, c.handle_word.ensures) refl
