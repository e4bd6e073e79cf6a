use Rattle.proof_linearizable.proofs.Legal.{every_order_is_legal}
use Rattle.proof_linearizable.proofs.laws.every_order_is_legal.Goals as goal

pub returns : goal.returns
returns c = every_order_is_legal
