use Rattle.proof_reuse.proofs.LeftForGood.{fresh_is_ones}
use Rattle.proof_reuse.proofs.laws.fresh_is_ones.Goals as goal

pub returns : goal.returns
returns c limits steps j k f ok mine other = fresh_is_ones limits ok steps j k f mine other
