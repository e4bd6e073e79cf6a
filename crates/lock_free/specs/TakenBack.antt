-- Roots that were made for an offer, once that was taken back.
use Rattle.std.specs.Prelude.{◌≡◌, ◌++◌, ℕ, false, List, [], ◌∷◌, Contains}
use Rattle.machine_model.specs.Beneath.slot_arena.specs.declared.refs.Ref.{Ref}
use Rattle.machine_model.specs.Beneath.slot_arena.specs.Heaps.{refs_of_option}
use Rattle.machine_model.specs.declared.roots.Descriptor.{Descriptor}
use Rattle.machine_model.specs.declared.steps.Step.{Step}
use Rattle.machine_model.specs.declared.steps.Step.TheVariants as step
use Rattle.machine_model.specs.Machine.{run}
use Rattle.proof_claims.specs.Left.{SeesOutcome, is_done}
use Rattle.lock_free.specs.declared.rules.Retired.{Retired}
use Rattle.lock_free.specs.declared.sizes.Sizes.{Sizes}
use Rattle.lock_free.specs.Accounts.{bounds_for}

-- it was made to be a root by an offer, which the step found taken back
pub record WasTakenBack (sizes : Sizes) (x : Retired) (m : Ref) : Type 0 where
  pub before : List Step
  pub actor : ℕ
  pub goes_on : x.account.steps ≡ before ++ step.Go actor ∷ []
  pub offer : Descriptor
  pub main : Ref
  pub sees : SeesOutcome (run (bounds_for sizes before) before) actor offer main
  pub undone : is_done (run (bounds_for sizes before) before) sees ≡ false
  pub made : Contains (offer.successor ∷ refs_of_option offer.second) m
