use Rattle.std.proofs.Common.{suc, sym, ap, ◌∙◌}
use Rattle.proof_generations.specs.Vocabulary.{run}
use Rattle.proof_generations.proofs.Roots.OfLists.{has_handles_along}
use Rattle.proof_generations.proofs.Handles.Running.{place_of_actor}
use Rattle.proof_generations.proofs.laws.roots.handles_of_operations.Goals as goal

pub returns-clause-open : goal.returns-clause-open
returns-clause-open c limits steps actor operation ok is no_close =
    let (k, place, at_k) = place_of_actor (run limits steps) actor operation is in
    (has_handles_along limits steps).1.on_open k operation at_k no_close

pub returns-clause-reserved : goal.returns-clause-reserved
returns-clause-reserved c limits steps actor n operation ok is unmarked its =
    let H = (has_handles_along limits steps).1 in
    let (k, place, at_k) = place_of_actor (run limits steps) actor operation is in (
      H.unopened k n operation at_k unmarked its,
      λ other rival is_rival rival_unmarked its_too.
          let (j, rival_place, at_j) = place_of_actor (run limits steps) other rival is_rival in
          rival_place ∙ ap suc (H.reserved j k n rival operation at_j at_k rival_unmarked unmarked its_too its) ∙ sym place,
    )
