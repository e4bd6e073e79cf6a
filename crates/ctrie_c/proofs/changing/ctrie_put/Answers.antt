use Rattle.ctrie_c.specs.Calls.{Puts}
use Rattle.ctrie_c.proofs.Carried.{carried}
use Rattle.ctrie_c.proofs.changing.ctrie_put.Goals as goal

pub returns-in-Some-clause-does : goal.returns-in-Some-clause-does
returns-in-Some-clause-does c =
    carried (λ h. Puts h c.args.key c.args.value)
    c.new.ensures c.deref_mut.ensures.value c.in-Some.ensures.some c.give.ensures c.tell_value.ensures.bound c.tell_value.ensures.told
    (c.put-told.ensures.done, c.put-told.ensures.refused, c.put-told.ensures.full, c.put-told.ensures.work)
