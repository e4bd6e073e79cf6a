use Rattle.proof_generations.specs.Vocabulary.{run, record_of}
use Rattle.proof_generations.proofs.Roots.Along.{ordered_along}
use Rattle.proof_generations.proofs.Roots.OfLists.{standing_below, operation_below}
use Rattle.proof_generations.proofs.Counter.Below.{closed_below}
use Rattle.proof_generations.proofs.laws.roots.generations_are_drawn.Goals as goal

pub returns : goal.returns
returns c limits steps ok =
    let h = ordered_along limits ok steps in (
      standing_below (run limits steps) h.below,
      operation_below (run limits steps) h.below,
      λ g c e. closed_below (run limits steps).generations (record_of limits steps).closings g c h.closings e,
    )
