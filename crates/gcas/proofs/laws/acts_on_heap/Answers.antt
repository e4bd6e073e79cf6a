use Rattle.gcas.proofs.Acting.{acts_on_heap}
use Rattle.gcas.proofs.laws.acts_on_heap.Goals as goal

pub returns : goal.returns
returns c = acts_on_heap
