use Rattle.proof_memory.specs.Vocabulary.{run}
use Rattle.proof_memory.proofs.Safety.AtEachTime.{safe_along}
use Rattle.proof_memory.proofs.Safety.Held.{held_in_use}
use Rattle.proof_memory.proofs.Safety.Standing.{in_root, in_private_list, in_any_slot}
use Rattle.proof_memory.proofs.laws.references_in_use.Goals as goal

pub returns-clause-held : goal.returns-clause-held
returns-clause-held c limits steps ok = held_in_use limits ok steps

pub returns-clause-standing : goal.returns-clause-standing
returns-clause-standing c limits steps ok =
    let I = safe_along limits ok steps in
    (in_root (run limits steps) I, in_private_list (run limits steps) I, in_any_slot (run limits steps) I)
