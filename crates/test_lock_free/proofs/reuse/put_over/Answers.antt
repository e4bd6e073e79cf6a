use Rattle.std.proofs.Common.{refl, ◌∙◌}
use Rattle.test_lock_free.proofs.reuse.put_over.Goals as goal

pub loop-n-init : goal.loop-n-init
loop-n-init g c = refl

pub put-requires : goal.put-requires
put-requires g c = record { table = c.loop-n.invariant ∙ c.requires.table }

pub loop-n-preserved : goal.loop-n-preserved
loop-n-preserved g c = c.put.ensures.seat.table ∙ c.loop-n.invariant
