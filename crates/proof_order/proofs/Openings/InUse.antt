-- What the laws of memory give to the laws of contents: what stands under a reference stays, and what handles reach is in use.
use Rattle.std.proofs.Common.{◌≡◌, ℕ, ◌≤◌, sym, ◌∙◌}
use Rattle.proof_order.specs.Vocabulary.{Ref, Node, Indirection, node_at, Bounds, State, node_under, IsRun, IsInUse, ReachesInUse}
use Rattle.proof_order.specs.Beneath.proof_memory.proofs.Safety.AtEachTime.{safe_at}
use Rattle.proof_order.specs.Beneath.proof_memory.proofs.Limbo.Ranks.{reached_in_use}
use Rattle.proof_order.specs.Beneath.proof_contents.proofs.Values.Started.{node_stays}
use Rattle.proof_order.specs.Beneath.machine_model.proofs.Grown.{grown_in_use, node_standing}
use Rattle.proof_generations.proofs.Falling.Nodes.{nodes_stay}

module _ {limits : Bounds} {states : ℕ → State} {last : ℕ} (run : IsRun limits states last) where
  pub reaches_in_use : (t : ℕ) → t ≤ last → ReachesInUse (states t)
  reaches_in_use t within r reached = reached_in_use (states t) (safe_at run t within) r reached

  -- a node in use that is no indirection is the same for ever
  pub node_for_ever : (t : ℕ) (r : Ref) (node : Node) → t ≤ last → IsInUse (states t).heap r → node_at (states t).heap r ≡ node → ((g : ℕ) (w : Ref) → node ≡ Indirection g w → ⊥) →
      node_under states last r ≡ node
  node_for_ever t r node within used is apart =
      let its = sym (node_standing (states t).heap r used.0 used.1) ∙ is in
      node_stays states last (nodes_stay run) t r used.0 within (grown_in_use states t r used.0 used.1) (λ g w e. apart g w (sym its ∙ e)) ∙ its
