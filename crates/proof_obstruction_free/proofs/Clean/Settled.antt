-- What CLEAN puts in the place of an entry stays right, where one actor alone takes steps.
use Rattle.std.proofs.Common.{◌≡◌, ℕ, ◌≤◌, true, false, Option, Some, None, is_some, refl, sym, ap, ◌∙◌, arith}
use Rattle.std.proofs.lemmas.Bool.{true≢false}
use Rattle.proof_obstruction_free.specs.Vocabulary.{Ref, Tomb, Slot, node_of, main_of, no_ref, grown, is_branch}
use Rattle.proof_obstruction_free.specs.Beneath.proof_memory.specs.Wants.{is_indirection}
use Rattle.proof_obstruction_free.specs.Beneath.proof_memory.proofs.Claims.Nodes.{no_main}
use Rattle.proof_obstruction_free.specs.Beneath.proof_shape.proofs.Sites.Grown.{link_same}
use Rattle.proof_obstruction_free.specs.Beneath.proof_generations.proofs.Falling.NoRef.{no_node}
use Rattle.proof_obstruction_free.specs.Alone.{Lone, Has, Keeps, node}
use Rattle.proof_obstruction_free.specs.Keys.{IsCleaned}

module _ (a : Lone) where
  -- what is in its place stays right
  abbrev pub Settles : ℕ → Ref → Ref → Type 0
  Settles v entry x = (u : ℕ) → u ≤ a.last → Keeps a v u → IsCleaned a u entry x

  -- a single isn't tombed
  pub single_free : (u : ℕ) → u ≤ a.last → (entry m single : Ref) → is_indirection (node a entry) ≡ false → Has a u entry m → node a m ≡ Tomb single → ⊥
  single_free u within entry m single plain h tomb = by_slot (grown a.states u entry) refl
    where
      by_slot : (o : Option Slot) → grown a.states u entry ≡ o → ⊥
      by_slot None e = let bad : true ≡ false = sym h.made ∙ ap is_some e in true≢false bad
      by_slot (Some slot) e =
          let same : is_indirection slot.node ≡ false = sym (link_same a.steps a.run a.takes a.fit u within entry slot e) ∙ plain in
          let none : m ≡ no_ref = sym h.main ∙ ap (λ o. main_of (node_of o)) e ∙ no_main slot.node same in
          let branch : is_branch (node a m) ≡ true = ap (λ r. is_branch (node a r)) none ∙ ap is_branch (no_node a.run a.last (omega arith)) in
          true≢false (sym branch ∙ ap is_branch tomb)
