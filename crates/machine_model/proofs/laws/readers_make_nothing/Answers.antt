use Rattle.machine_model.proofs.Readers.{makes_nothing}
use Rattle.machine_model.proofs.laws.readers_make_nothing.Goals as goal

pub returns : goal.returns
returns c = makes_nothing
