use Rattle.std.proofs.Common.{◌≡◌, refl}
use Rattle.std.proofs.lemmas.Bool.{cond_both}
use Rattle.proof_memory.specs.Vocabulary.{run, next, is_taken_step, record_of, Sweep}
use Rattle.proof_memory.proofs.Safety.AtEachTime.{safe_along}
use Rattle.proof_memory.proofs.Limbo.Sweeps.{sweep_leaves}
use Rattle.proof_memory.proofs.laws.sweep_leaves.Goals as goal

pub returns : goal.returns
returns c limits steps ok =
    (sweep_leaves (run limits steps) (safe_along limits ok steps), cond_both (is_taken_step (next (run limits steps) Sweep)) _ _ (λ past. past ≡ record_of limits steps) (λ e. refl) (λ e. refl))
