use Rattle.std.proofs.Common.{sym, ◌∙◌}
use Rattle.text_lines.proofs.Numbers.{number_is}
use Rattle.text_lines.proofs.words.number_word.Goals as goal

pub returns-in-Some-clause-bound : goal.returns-in-Some-clause-bound
returns-in-Some-clause-bound c = (number_is c.args.limit c.args.word.now c.in-Some.number (sym c.number_of.ensures ∙ c.in-Some.is)).1
