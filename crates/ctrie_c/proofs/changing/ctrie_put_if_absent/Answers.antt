use Rattle.ctrie_c.specs.Calls.{PutsIfAbsent}
use Rattle.ctrie_c.proofs.Carried.{carried}
use Rattle.ctrie_c.proofs.changing.ctrie_put_if_absent.Goals as goal

pub returns-in-Some-clause-does : goal.returns-in-Some-clause-does
returns-in-Some-clause-does c =
    carried (λ h. PutsIfAbsent h c.args.key c.args.value)
    c.new.ensures c.deref_mut.ensures.value c.in-Some.ensures.some c.give.ensures c.tell_value.ensures.bound c.tell_value.ensures.told
    (c.put_if_absent-told.ensures.done, c.put_if_absent-told.ensures.refused, c.put_if_absent-told.ensures.full, c.put_if_absent-told.ensures.work)
