use Rattle.ctrie_c.specs.Calls.{ReplacesIf}
use Rattle.ctrie_c.proofs.Carried.{carried}
use Rattle.ctrie_c.proofs.changing.ctrie_replace_if.Goals as goal

pub returns-in-Some : goal.returns-in-Some
returns-in-Some c = record {
  does = carried (λ h. ReplacesIf h c.args.key c.args.before c.args.value)
      c.new.ensures c.deref_mut.ensures.value c.in-Some.ensures.some c.give.ensures c.tell_truth.ensures.bound c.tell_truth.ensures.told
      (c.replace_if-told.ensures.done, c.replace_if-told.ensures.refused, c.replace_if-told.ensures.work);
}
