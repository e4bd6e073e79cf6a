use Rattle.proof_reuse.proofs.LeftForGood.{left_for_good}
use Rattle.proof_reuse.proofs.laws.fresh_is_left_for_good.Goals as goal

pub returns : goal.returns
returns c limits before since f ok used none actor has = left_for_good limits ok before since f used none actor has
