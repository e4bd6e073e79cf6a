use Rattle.proof_runs.proofs.Record.Fitting.{tellings_fit as law}
use Rattle.proof_runs.proofs.laws.tellings_fit.Goals as goal

pub returns : goal.returns
returns c = law
