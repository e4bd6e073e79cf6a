use Rattle.ctrie_c.specs.Calls.{RemovesIf}
use Rattle.ctrie_c.proofs.Carried.{carried}
use Rattle.ctrie_c.proofs.changing.ctrie_remove_if.Goals as goal

pub returns-in-Some : goal.returns-in-Some
returns-in-Some c = record {
  does = carried (λ h. RemovesIf h c.args.key c.args.value)
      c.new.ensures c.deref_mut.ensures.value c.in-Some.ensures.some c.give.ensures c.tell_truth.ensures.bound c.tell_truth.ensures.told
      (c.remove_if-told.ensures.done, c.remove_if-told.ensures.refused, c.remove_if-told.ensures.work);
}
