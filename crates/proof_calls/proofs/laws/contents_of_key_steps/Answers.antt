use Rattle.proof_calls.proofs.Steps.{only_commits, repairs_leave, changes_its_key, leaves_others}
use Rattle.proof_calls.proofs.laws.contents_of_key_steps.Goals as goal

pub returns-clause-commits : goal.returns-clause-commits
returns-clause-commits c = only_commits

pub returns-clause-repairs : goal.returns-clause-repairs
returns-clause-repairs c = repairs_leave

pub returns-clause-changes : goal.returns-clause-changes
returns-clause-changes c = changes_its_key

pub returns-clause-others : goal.returns-clause-others
returns-clause-others c = leaves_others
