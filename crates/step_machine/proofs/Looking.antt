-- The value that is found along a key's hash is that of the handle's content.
use Rattle.std.specs.Prelude.{◌≡◌, ℕ, Option, Some, None, Result, Ok, Err, IfOk, OnOk, IsSome}
use Rattle.std.specs.FinMap as map
use Rattle.std.specs.Ordering.{nat_cmp}
use Rattle.std.proofs.Common.{refl, sym, ap, ◌∙◌}
use Rattle.step_machine.specs.Vocabulary.{hash_of, Refusal, node_at, logical_main, Root, content_at, most_levels, KeysFit, bounded, AreBounds, root_at, root_of, word_at, word_of, Bounds}
use Rattle.step_machine.specs.Beneath.proof_contents.specs.Nodes.Looking.{find_at}
use Rattle.machine_core.specs.Finding.{found_along}
use Rattle.step_machine.specs.Beneath.proof_shape.specs.Agreeing.{LookingFinds}
use Rattle.proof_runs.specs.Machines.{Taken, state_of}
use Rattle.machine_model.proofs.Along.{limits_along}

module _ (law : LookingFinds) (machine : Taken) (ok : AreBounds (bounded machine.limits)) (keys : KeysFit machine.steps) (handle key : ℕ) where
  -- what is found there
  abbrev found : Option ℕ
  found = found_along (state_of machine) handle key

  by_root : (o : Option Root) → root_at (state_of machine) handle ≡ o → IsSome o → found ≡ map.find nat_cmp key (content_at (state_of machine) handle)
  by_root None at some = cc some
  by_root (Some root) at some =
      ap (λ h. find_at (node_at (state_of machine).heap) (logical_main (state_of machine).heap) (hash_of h) key most_levels 0 (root_of (word_at (state_of machine) handle)))
      (ap (λ (l : Bounds). l.hash) (limits_along (bounded machine.limits) machine.steps))
      ∙ ap (λ o. find_at (node_at (state_of machine).heap) (logical_main (state_of machine).heap) (hash_of machine.limits.hash) key most_levels 0 (root_of (word_of o))) at
      ∙ sym (law (bounded machine.limits) machine.steps handle root key ok keys at)

  pub if_found : (result : Result (Option ℕ) Refusal) → IfOk result (λ value. value ≡ found) → OnOk result (IsSome (root_at (state_of machine) handle)) →
      IfOk result (λ value. value ≡ map.find nat_cmp key (content_at (state_of machine) handle))
  if_found (Ok value) is is_open = is ∙ by_root (root_at (state_of machine) handle) refl is_open
  if_found (Err why) is is_open = tt
