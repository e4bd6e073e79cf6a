use Rattle.shared_map.proofs.Frozen.{frozen_handles_stay}
use Rattle.shared_map.proofs.laws.frozen_handles_stay.Goals as goal

pub returns : goal.returns
returns c = frozen_handles_stay
