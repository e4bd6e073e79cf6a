use Rattle.proof_calls.proofs.Roots.{swaps_as_expected, keeps_other_roots}
use Rattle.proof_calls.proofs.laws.roots_change_as_expected.Goals as goal

pub returns-clause-swaps : goal.returns-clause-swaps
returns-clause-swaps c = swaps_as_expected

pub returns-clause-keeps : goal.returns-clause-keeps
returns-clause-keeps c = keeps_other_roots
