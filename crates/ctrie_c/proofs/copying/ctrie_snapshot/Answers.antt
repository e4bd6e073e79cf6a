use Rattle.ctrie_c.specs.Calls.{Snapshots}
use Rattle.ctrie_c.proofs.Carried.{carried}
use Rattle.ctrie_c.proofs.copying.ctrie_snapshot.Goals as goal

pub returns-in-Some-clause-does : goal.returns-in-Some-clause-does
returns-in-Some-clause-does c =
    carried Snapshots
    c.new.ensures c.deref_mut.ensures.value c.in-Some.ensures.some c.give.ensures c.tell_handle.ensures.bound c.tell_handle.ensures.told
    (c.snapshot-told.ensures.done, c.snapshot-told.ensures.next, c.snapshot-told.ensures.refused, c.snapshot-told.ensures.full, c.snapshot-told.ensures.work)
