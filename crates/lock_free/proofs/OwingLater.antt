-- What a seat holds itself, has retired, and knows of links and of the epoch says nothing of what else it is.
use Rattle.std.proofs.Common.{ap}
use Rattle.lock_free.specs.declared.rules.View.{View}
use Rattle.lock_free.specs.CopySteps.{as_before}
use Rattle.lock_free.specs.RunningOn.{IsStill}

pub still_as : (u v : View) → IsStill u (as_before u v) → IsStill u v
still_as u v h = record { is = ap (λ (z : View). record z { epoch = v.epoch; passed = v.passed; retired = v.retired; owed = v.owed; links = v.links }) h.is; goes_on = h.goes_on }
