use Rattle.ctrie_c.specs.Calls.{Pops}
use Rattle.ctrie_c.proofs.Carried.{carried}
use Rattle.ctrie_c.proofs.changing.ctrie_pop.Goals as goal

pub returns-in-Some-clause-does : goal.returns-in-Some-clause-does
returns-in-Some-clause-does c =
    carried Pops
    c.new.ensures c.deref_mut.ensures.value c.in-Some.ensures.some c.give.ensures c.tell_pair.ensures.bound c.tell_pair.ensures.told
    (c.pop-told.ensures.done, c.pop-told.ensures.refused, c.pop-told.ensures.work)
