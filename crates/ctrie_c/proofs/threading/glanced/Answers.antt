use Rattle.std.proofs.Common.{refl, sym, ap, ◌∙◌}
use Rattle.history.specs.declared.calls.Call.TheVariants.{Get}
use Rattle.ctrie_c.specs.declared.threading.At.TheVariants.{Resting}
use Rattle.ctrie_c.proofs.ConcurrentCalls.{glanced_made}
use Rattle.ctrie_c.proofs.threading.glanced.Goals as goal

pub returns-in-Some-clause-made : goal.returns-in-Some-clause-made
returns-in-Some-clause-made c =
    glanced_made c.args.at.now (Resting c.glance.new.self) c.args.call c.in-Resting.seat c.glance.new.self c.new.result c.in-Get.key c.in-Resting.is refl
    (c.in-Get.is ∙ ap (λ h. Get h c.in-Get.key) (sym c.new.ensures)) c.in-Some.value c.in-Some.ensures.told
