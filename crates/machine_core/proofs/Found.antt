-- What is found along a key's hash is the value that the content of an open handle has.
use Rattle.std.proofs.Common.{◌≡◌, ℕ, Option, Some, None}
use Rattle.std.proofs.Common.{refl, sym, ap, subst, ◌∙◌}
use Rattle.std.specs.FinMap.{find}
use Rattle.std.specs.Ordering.{nat_cmp}
use Rattle.std.specs.Option.{IsSome}
use Rattle.machine_core.specs.Vocabulary.{hash_of, logical_main, node_at, Root, content_at, most_levels, State, root_at, root_of, word_of, IsOfRun, find_at}
use Rattle.machine_core.specs.Beneath.proof_shape.proofs.Shaped.Looking.{looking_finds}
use Rattle.machine_core.specs.Finding.{found_along}

module _ (state : State) (run : IsOfRun state) (handle : ℕ) where
  found_by : (key : ℕ) (o : Option Root) → root_at state handle ≡ o → IsSome o → found_along state handle key ≡ find nat_cmp key (content_at state handle)
  found_by key None at some = cc some
  found_by key (Some root) at some =
      ap (λ o. find_at (node_at state.heap) (logical_main state.heap) (hash_of state.limits.hash) key most_levels 0 (root_of (word_of o))) at
      ∙ sym (subst (λ s. root_at s handle ≡ Some root → find nat_cmp key (content_at s handle)
      ≡ find_at (node_at s.heap) (logical_main s.heap) (hash_of state.limits.hash) key most_levels 0 (root_of root.word)) (sym run.is)
      (λ e. looking_finds state.limits run.steps handle root key run.limits run.keys e) at)

  -- what is found along a key's hash is the content's value
  pub found_along_is : (key : ℕ) → IsSome (root_at state handle) → found_along state handle key ≡ find nat_cmp key (content_at state handle)
  found_along_is key some = found_by key (root_at state handle) refl some
