use Rattle.proof_updates.proofs.Tries.OfLists.{paths_lie_on_keys, ends_are_seen}
use Rattle.proof_updates.proofs.laws.tries.paths_lie_on_keys.Goals as goal

pub returns-clause-path : goal.returns-clause-path
returns-clause-path c = paths_lie_on_keys

pub returns-clause-end : goal.returns-clause-end
returns-clause-end c = ends_are_seen
