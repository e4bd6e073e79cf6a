-- The same steps under the bounds of a longer account lead to the same, but for slots that are free and steps that are left.
use Rattle.std.proofs.Common.{◌≡◌, ◌≤◌, ◌++◌, ◌+◌, List, [], ◌∷◌, length, ap, ◌∙◌, arith, length-append}
use Rattle.machine_model.specs.declared.steps.Step.{Step}
use Rattle.machine_model.specs.Machine.{AreBounds, run, next_state}
use Rattle.machine_model.specs.States.{first_state}
use Rattle.machine_model.proofs.Along.{run_push}
use Rattle.proof_waiting.specs.Beneath.proof_slots.specs.Lasting.{wider, widened}
use Rattle.proof_waiting.specs.Beneath.proof_slots.proofs.Wider.{wider_alike}
use Rattle.proof_waiting.specs.Beneath.proof_slots.proofs.Padded.Runs.{few_steps_have_slots}
use Rattle.lock_free.specs.declared.sizes.Sizes.{Sizes}
use Rattle.lock_free.specs.Accounts.{bounds_for}

module _ (sizes : Sizes) (steps : List Step) where
  pub longer_bounds : (more : List Step) → bounds_for sizes (steps ++ more) ≡ wider (length more) (length (steps ++ more) + 1) (bounds_for sizes steps)
  longer_bounds more =
      let slots : length (steps ++ more) + 3 ≡ length steps + 3 + length more = omega (arith, length-append steps more) in
      ap (λ n. record { slots = n; actors = sizes.seats; hash = sizes.hash; steps = length (steps ++ more) + 1 }) slots

  pub bounds_less : (more : List Step) → AreBounds (bounds_for sizes (steps ++ more)) → AreBounds (bounds_for sizes steps)
  bounds_less more h = (omega arith, h.1, h.2)

  pub bounds_more : (more : List Step) → AreBounds (bounds_for sizes steps) → AreBounds (bounds_for sizes (steps ++ more))
  bounds_more more h = (omega arith, h.1, h.2)

  module _ (ok : AreBounds (bounds_for sizes steps)) where
    -- some of the steps of the longer account
    pub run_longer : (done rest more : List Step) → steps ≡ done ++ rest →
        run (bounds_for sizes (steps ++ more)) done ≡ widened (length more) (length (steps ++ more) + 1) (run (bounds_for sizes steps) done)
    run_longer done rest more e =
        let few : length done ≤ length steps = omega (arith, ap length e, length-append done rest) in
        let enough : length done + 2 ≤ (bounds_for sizes steps).slots = omega (arith, few) in
        let left : length done ≤ (bounds_for sizes steps).steps = omega (arith, few) in
        let also : length done ≤ length (steps ++ more) + 1 = omega (arith, few, length-append steps more) in
        ap (λ b. run b done) (longer_bounds more)
        ∙ (wider_alike (length more) (length (steps ++ more) + 1) (bounds_for sizes steps) done ok (few_steps_have_slots (bounds_for sizes steps) done enough) left also).0

    -- one step more
    pub run_next : (s : Step) → run (bounds_for sizes (steps ++ s ∷ [])) (steps ++ s ∷ []) ≡ widened 1 (length (steps ++ s ∷ []) + 1) (next_state (run (bounds_for sizes steps) steps) s)
    run_next s =
        let longer = steps ++ s ∷ [] in
        let count = length-append steps (s ∷ []) in
        let enough : length longer + 2 ≤ (bounds_for sizes steps).slots = omega (arith, count) in
        let left : length longer ≤ (bounds_for sizes steps).steps = omega (arith, count) in
        ap (λ b. run b longer) (longer_bounds (s ∷ []))
        ∙ (wider_alike 1 (length longer + 1) (bounds_for sizes steps) longer ok (few_steps_have_slots (bounds_for sizes steps) longer enough) left (omega arith)).0
        ∙ ap (widened 1 (length longer + 1)) (run_push (first_state (bounds_for sizes steps)) steps s)
