use Rattle.ctrie_c.specs.Calls.{Freezes}
use Rattle.ctrie_c.proofs.Carried.{carried}
use Rattle.ctrie_c.proofs.copying.ctrie_freeze.Goals as goal

pub returns-in-Some-clause-does : goal.returns-in-Some-clause-does
returns-in-Some-clause-does c =
    carried Freezes
    c.new.ensures c.deref_mut.ensures.value c.in-Some.ensures.some c.give.ensures c.tell_handle.ensures.bound c.tell_handle.ensures.told
    (c.freeze-told.ensures.done, c.freeze-told.ensures.next, c.freeze-told.ensures.refused, c.freeze-told.ensures.full, c.freeze-told.ensures.work)
