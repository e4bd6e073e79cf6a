use Rattle.ctrie_c.specs.Calls.{Clears}
use Rattle.ctrie_c.proofs.Carried.{carried}
use Rattle.ctrie_c.proofs.changing.ctrie_clear.Goals as goal

pub returns-in-Some-clause-does : goal.returns-in-Some-clause-does
returns-in-Some-clause-does c =
    carried (λ h. Clears h)
    c.new.ensures c.deref_mut.ensures.value c.in-Some.ensures.some c.give.ensures c.tell_done.ensures.bound c.tell_done.ensures.told
    (c.clear-told.ensures.done, c.clear-told.ensures.refused, c.clear-told.ensures.work)
