use Rattle.std.proofs.Common.{subst}
use Rattle.ctrie_c.specs.Calls.{RestoresIt}
use Rattle.ctrie_c.proofs.Carried.{carried}
use Rattle.ctrie_c.proofs.copying.ctrie_restore.Goals as goal

pub returns-in-Some-clause-does : goal.returns-in-Some-clause-does
returns-in-Some-clause-does c =
    carried (λ h. RestoresIt h c.args.copy)
    c.new.ensures c.deref_mut.ensures.value c.in-Some.ensures.some c.give.ensures c.tell_done.ensures.bound c.tell_done.ensures.told
    (subst (λ k. RestoresIt c.new.result k c.restore-told.result c.deref_mut.result.now c.restore-told.new.self) c.new-in-Some.ensures
    (c.restore-told.ensures.restores, c.restore-told.ensures.itself, c.restore-told.ensures.refused, c.restore-told.ensures.life, c.restore-told.ensures.full, c.restore-told.ensures.work))
