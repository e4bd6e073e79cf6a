use Rattle.std.proofs.Common.{sym, suc}
use Rattle.proof_generations.specs.Vocabulary.{run}
use Rattle.proof_generations.proofs.Roots.OfLists.{has_handles_along}
use Rattle.proof_generations.proofs.Offers.Standing.{own_numbers, completes_it}
use Rattle.proof_generations.proofs.Offers.Same.{same_offer}
use Rattle.proof_generations.proofs.laws.roots.offers_are_their_operations.Goals as goal

pub returns-clause-running : goal.returns-clause-running
returns-clause-running c limits steps handle offer ok word =
    let I = (has_handles_along limits steps).0 in
    let b = I.offers handle offer word in
    let mine = own_numbers b.owner offer (I.own b.k b.owner b.runs) b.completes in
    (suc b.k, b.owner, b.runs, b.on_handle, b.unmarked, (sym mine.its, sym mine.at_try, sym mine.number, completes_it b.owner.line offer b.completes))

pub returns-clause-found : goal.returns-clause-found
returns-clause-found c limits steps actor operation offer ok is settled stands = same_offer (run limits steps) (has_handles_along limits steps).0 actor operation offer is settled _ stands
