use Rattle.lock_free.proofs.LetGo.{none_hangs}
use Rattle.lock_free.proofs.limbo.Limbo.new.Goals as goal

pub returns : goal.returns
returns c = record {
  limbo = none_hangs c.new.result c.new-2.result c.new-3.result c.new-4.result c.new.ensures c.new-2.ensures c.new-3.ensures c.new-4.ensures;
}
