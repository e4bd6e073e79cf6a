use Rattle.proof_memory.specs.Vocabulary.{run}
use Rattle.proof_memory.proofs.Safety.AtEachTime.{safe_along}
use Rattle.proof_memory.proofs.Safety.AtTimes.{line_finds_in, action_finds}
use Rattle.proof_memory.proofs.Safety.Steps.{of_actor}
use Rattle.proof_memory.proofs.Safety.Base.{HasHandle}
use Rattle.proof_memory.proofs.Safety.Started.{KnowsRoot}
use Rattle.proof_memory.proofs.laws.each_lookup_finds.Goals as goal
use Rattle.machine_model.proofs.Along.{limits_along}

pub returns-clause-lines : goal.returns-clause-lines
returns-clause-lines c limits steps actor operation ok e =
    let I = safe_along limits ok steps in
    (line_finds_in (run limits steps) I limits (limits_along limits steps) actor operation e, action_finds (run limits steps) I actor operation e)

pub returns-clause-nodes : goal.returns-clause-nodes
returns-clause-nodes c limits steps ok = let I = safe_along limits ok steps in (I.nodes, I.words)

pub returns-clause-roots : goal.returns-clause-roots
returns-clause-roots c limits steps actor operation ok e =
    let I = safe_along limits ok steps in (
      (of_actor (run limits steps) (λ k operation. HasHandle (run limits steps) operation) (I.handles) actor operation e).1,
      (of_actor (run limits steps) (λ k operation. KnowsRoot operation) (I.known) actor operation e).1,
    )
