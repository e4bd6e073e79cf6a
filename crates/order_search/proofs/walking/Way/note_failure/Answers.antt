-- No order goes on from where the way has come.
use Rattle.std.proofs.Common.{sym, subst}
use Rattle.order_search.specs.Marks.{AreMarked}
use Rattle.order_search.proofs.walking.Way.note_failure.Goals as goal

pub returns-clause-failures : goal.returns-clause-failures
returns-clause-failures c =
    let history = c.args.events.now in
    let way = c.args.self.now in
    let marks = subst (λ xs. AreMarked history way.ids.items xs) (sym c.as_slice.ensures.value) c.requires.way.0.marks in
    c.in_ok-note.ensures.noted history c.args.table.now way.ids.items c.requires.known c.requires.failures c.requires.way.0.leads marks c.requires.none
