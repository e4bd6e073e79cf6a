use Rattle.proof_alone.proofs.Ending.{calls_begin}
use Rattle.proof_alone.proofs.laws.calls_begin.Goals as goal

pub returns : goal.returns
returns c = calls_begin
