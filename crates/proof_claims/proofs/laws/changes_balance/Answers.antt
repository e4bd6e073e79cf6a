use Rattle.proof_claims.specs.Changes.{change_of}
use Rattle.proof_claims.proofs.Balance.{balance}
use Rattle.proof_claims.proofs.laws.changes_balance.Goals as goal

pub returns : goal.returns
returns c state held s k = balance k (change_of state held s) held.claims
