use Rattle.proof_commits.proofs.Course.AlongLists.{prev_words_change as law}
use Rattle.proof_commits.proofs.laws.prev_words_change.Goals as goal

pub returns : goal.returns
returns c = law
