-- An indirection in use and the main node that counts for it, as they stand in the heap that only grows.
use Rattle.std.proofs.Common.{◌≡◌, ℕ, ◌≤◌, true, sym, ap, ◌∙◌, subst}
use Rattle.proof_owned.specs.Beneath.slot_arena.specs.declared.refs.Ref.{Ref}
use Rattle.proof_owned.specs.Beneath.slot_arena.specs.declared.nodes.Prev.{Prev}
use Rattle.proof_owned.specs.Beneath.slot_arena.specs.declared.nodes.Prev.TheVariants as prev
use Rattle.proof_owned.specs.Beneath.slot_arena.specs.Heaps.{Heap, logical, logical_main, main_at, main_of}
use Rattle.proof_owned.specs.Beneath.machine_model.specs.declared.steps.Bounds.{Bounds}
use Rattle.proof_owned.specs.Beneath.machine_model.specs.States.{State}
use Rattle.proof_owned.specs.Beneath.machine_model.specs.Times.{IsRun}
use Rattle.proof_owned.specs.Beneath.machine_model.proofs.Grown.{node_standing, prev_standing}
use Rattle.proof_owned.specs.Beneath.proof_memory.specs.Laws.{IsInUse}
use Rattle.proof_owned.specs.Beneath.proof_memory.specs.Wants.{AllHold, node_wants, prev_wants, is_indirection}
use Rattle.proof_owned.specs.Beneath.proof_memory.proofs.Claims.Uses.{safe_of, first_hold, last_hold}
use Rattle.proof_owned.specs.Beneath.proof_memory.proofs.Safety.AtEachTime.{safe_at}
use Rattle.proof_owned.specs.Beneath.proof_memory.proofs.Safety.AtTimes.{node_found}
use Rattle.proof_owned.specs.Beneath.proof_commits.specs.Protocol.{Words, logical_at}
use Rattle.proof_owned.specs.Beneath.proof_commits.specs.Runs.{HasIndirection}
use Rattle.proof_owned.specs.Beneath.proof_commits.proofs.Known.MainsInUse.{logical_standing}
use Rattle.proof_owned.specs.Beneath.proof_generations.proofs.Falling.KnownRoots.{words, known}
use Rattle.proof_owned.specs.Beneath.proof_generations.proofs.Lines.ReaderKnows.{indirection_is}

module _ {limits : Bounds} {states : ℕ → State} {last : ℕ} (run : IsRun limits states last) where
  pub link_at : (t : ℕ) (i : Ref) → HasIndirection (states t) i → Words.link (words states run.records last) t i ≡ true
  link_at t i has = ap is_indirection (sym (node_found states t i has.0)) ∙ has.1

  pub logical_is : (t : ℕ) → t ≤ last → (i : Ref) → HasIndirection (states t) i → logical_main (states t).heap i ≡ logical_at (words states run.records last) t i
  logical_is t h i has = logical_standing limits states last (known run) t h i has.0.0 has.0.1 (link_at t i has)

  -- the node in its word is in use
  pub main_used : (t : ℕ) → t ≤ last → (i : Ref) → HasIndirection (states t) i → IsInUse (states t).heap (main_at (states t).heap i)
  main_used t within i has =
      let heap = (states t).heap in
      let node = node_standing heap i has.0.0 has.0.1 in
      let (h, word, is) = indirection_is has.0.0.node (ap is_indirection (sym node) ∙ has.1) in
      let claims = first_hold (IsInUse heap) heap (node_wants has.0.0.node) (prev_wants has.0.0.prev) ((safe_at run t within).nodes i has.0.0 has.0.1).0 in
      subst (IsInUse heap) (sym (ap main_of (node ∙ is))) (safe_of (subst (λ n. AllHold (IsInUse heap) heap (node_wants n)) is claims).0)

  -- and the one over which it stands
  pub logical_used : (t : ℕ) → t ≤ last → (i : Ref) → HasIndirection (states t) i → IsInUse (states t).heap (logical_main (states t).heap i)
  logical_used t within i has = subst (IsInUse heap) (sym (ap (logical word) (prev_standing heap word used.0 used.1))) (by used.0.prev claims)
    where
      heap : Heap
      heap = (states t).heap

      word : Ref
      word = main_at (states t).heap i

      used : IsInUse (states t).heap (main_at (states t).heap i)
      used = main_used t within i has

      claims : AllHold (IsInUse heap) heap (prev_wants used.0.prev)
      claims = last_hold (IsInUse heap) heap (node_wants used.0.node) (prev_wants used.0.prev) ((safe_at run t within).nodes word used.0 used.1).0

      by : (v : Prev) → AllHold (IsInUse heap) heap (prev_wants v) → IsInUse heap (logical word v)
      by prev.None h = used
      by (prev.Pending p) h = safe_of h.0
      by (prev.Failed p) h = safe_of h.0
