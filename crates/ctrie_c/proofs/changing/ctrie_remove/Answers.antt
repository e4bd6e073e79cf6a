use Rattle.ctrie_c.specs.Calls.{Removes}
use Rattle.ctrie_c.proofs.Carried.{carried}
use Rattle.ctrie_c.proofs.changing.ctrie_remove.Goals as goal

pub returns-in-Some-clause-does : goal.returns-in-Some-clause-does
returns-in-Some-clause-does c =
    carried (λ h. Removes h c.args.key)
    c.new.ensures c.deref_mut.ensures.value c.in-Some.ensures.some c.give.ensures c.tell_value.ensures.bound c.tell_value.ensures.told
    (c.remove-told.ensures.done, c.remove-told.ensures.refused, c.remove-told.ensures.work)
