use Rattle.std.proofs.Common.{refl}
use Rattle.lock_free.proofs.glances.fell_within.Goals as goal

pub loop-init : goal.loop-init
loop-init c = (refl, refl)
