-- What stands until who swapped a node in has looked, and who offered has seen what came of it.
use Rattle.std.proofs.Common.{◌≡◌, false, Some, sym, ap, ◌∙◌}
use Rattle.std.proofs.lemmas.Bool.{true≢false}
use Rattle.proof_claims.specs.Beneath.machine_model.specs.declared.roots.Descriptor.{Descriptor}
use Rattle.proof_claims.specs.Beneath.machine_model.specs.Machine.{run}
use Rattle.proof_claims.specs.Beneath.machine_model.proofs.Fates.{place_of_actor}
use Rattle.proof_claims.specs.Beneath.proof_generations.proofs.Offers.Standing.{own_offer}
use Rattle.proof_claims.specs.Left.{OldRootIsHeld, ReplacedIsHeld, is_freeze}
use Rattle.proof_claims.proofs.LeftRoots.{left_hold}
use Rattle.proof_claims.proofs.Lists.{among, found_in}
use Rattle.proof_claims.proofs.RootClaims.{NoFreeze}
use Rattle.proof_claims.proofs.SwapsHold.{swaps_hold}

pub replaced_is_held : ReplacedIsHeld
replaced_is_held limits steps actor operation why w ok keys runs on past none =
    let (k, place, at_k) = place_of_actor (run limits steps) actor operation runs in
    let holds = swaps_hold limits ok steps keys k operation why w at_k on in (
      holds.before past none,
      λ own r names free. holds.rest past none own r (among _ r names) (λ c. true≢false (sym (found_in _ r c) ∙ free)),
    )

no_freeze : (offer : Descriptor) → is_freeze offer.opens offer.second ≡ false → NoFreeze offer
no_freeze offer isnt n opens second = true≢false (sym (ap (λ x. is_freeze x offer.second) opens ∙ ap (is_freeze (Some n)) second) ∙ isnt)

pub old_root_is_held : OldRootIsHeld
old_root_is_held limits steps actor operation c ok runs on marked isnt =
    let (k, place, at_k) = place_of_actor (run limits steps) actor operation runs in left_hold limits ok steps k operation c.offer at_k (ap own_offer on) marked (no_freeze c.offer isnt)
