use Rattle.ctrie_c.specs.Calls.{ClosesIt}
use Rattle.ctrie_c.proofs.Carried.{carried}
use Rattle.ctrie_c.proofs.copying.ctrie_close.Goals as goal

pub returns-in-Some-clause-does : goal.returns-in-Some-clause-does
returns-in-Some-clause-does c =
    carried (λ h. ClosesIt h)
    c.new.ensures c.deref_mut.ensures.value c.in-Some.ensures.some c.give.ensures c.tell_done.ensures.bound c.tell_done.ensures.told
    (c.close-told.ensures.done, c.close-told.ensures.refused, c.close-told.ensures.work)
