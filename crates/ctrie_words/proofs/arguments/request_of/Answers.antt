-- The command that was built is the program's, so what its parse says is what the words ask for.
use Rattle.std.proofs.Common.{ap, ◌∙◌}
use Rattle.clap.specs.Words.{is_simple, is_simple_and_free}
use Rattle.ctrie_words.proofs.Asked.{program-is_simple, program-is_simple_and_free, takes_by_none, met_by_rows, answers_found, answers_error}
use Rattle.ctrie_words.proofs.arguments.request_of.Goals as goal

pub returns-in-Ok : goal.returns-in-Ok
returns-in-Ok g c =
    let same = c.in_ok-program.ensures in
    let taken = takes_by_none _ _ same (c.in-Ok.ensures.kinds (ap is_simple_and_free same ∙ program-is_simple_and_free)) in
    let named = met_by_rows _ _ _ same (c.in-Ok.ensures.matches (ap is_simple same ∙ program-is_simple)).1 in
    answers_found _ _ c.matched.result taken named c.matched.ensures

pub returns-in-Err : goal.returns-in-Err
returns-in-Err g c =
    let same = c.in_ok-program.ensures in
    rw c.nothing_by.ensures (answers_error _ _ _ same (c.in-Err.ensures.kinds (ap is_simple_and_free same ∙ program-is_simple_and_free)))
