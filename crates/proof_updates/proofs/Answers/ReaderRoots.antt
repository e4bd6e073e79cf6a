-- The root under a read-only handle on which an operation runs: it stays, and is the root of its generation.
use Rattle.std.proofs.Common.{◌≡◌, ℕ, suc, ◌<◌, ◌≤◌, true, false, true≢false, Option, Some, None, refl, sym, ap, subst, ◌∙◌, arith}
use Rattle.std.proofs.lemmas.Option.{none-some, same_Some}
use Rattle.proof_updates.specs.Vocabulary.{Access, ReadOnly, Ref, Node, Indirection, Branch, Single, Tomb, List as Listed, node_at, generation_at, Operation, Root, Plain, Bounds, handle_of}
use Rattle.proof_updates.specs.Vocabulary.{is_close, State, root_at, root_of, word_of, word_at, turns, noted_turn, IsRun, Turn, node_under, IsInUse, Is, Holds, AnIndirection, meets, AllHold}
use Rattle.proof_updates.specs.Vocabulary.{word_wants, standing_of, root_of_generation}
use Rattle.proof_updates.specs.Beneath.proof_memory.proofs.Claims.Uses.{safe_of, meets_of}
use Rattle.proof_updates.specs.Beneath.proof_memory.proofs.Safety.AtEachTime.{safe_at}
use Rattle.proof_updates.specs.Beneath.proof_generations.proofs.Roots.Along.{ordered_at, read_only_plain}
use Rattle.proof_order.specs.Facts.{Runs, standing}
use Rattle.proof_order.proofs.Phases.Standing.{read_only_stays}
use Rattle.proof_shape.proofs.Runs.Nodes.{link_known}
use Rattle.proof_order.proofs.Openings.ClosedRoots.{root_is}

-- an open handle with this standing
pub record StandsOn (state : State) (handle : ℕ) (access : Access) (g : ℕ) : Type 0 where
  pub root : Root
  pub is_open : root_at state handle ≡ Some root
  pub kind : root.access ≡ access
  pub its : generation_at state.heap (root_of root.word) ≡ g

pub stands_on : (state : State) (handle : ℕ) (access : Access) (g : ℕ) → standing state handle ≡ Some (access, g) → StandsOn state handle access g
stands_on state handle access g e = by_root (root_at state handle) refl e
  where
    by_root : (o : Option Root) → root_at state handle ≡ o → standing_of state.heap o ≡ Some (access, g) → StandsOn state handle access g
    by_root None is e = absurd (none-some _ e)
    by_root (Some root) is e =
        let same : (root.access, generation_at state.heap (root_of root.word)) ≡ (access, g) = same_Some _ _ e in
        record { root = root; is_open = is; kind = ap (λ q. q.0) same; its = ap (λ q. q.1) same }

module _ {limits : Bounds} {states : ℕ → State} {last : ℕ} (run : IsRun limits states last) where
  -- a root that stands behind a step stood there before it
  pub stood_before : (t k : ℕ) → t < last → (operation : Operation) → Runs (states t) k operation → is_close operation.call ≡ false → operation.access ≡ ReadOnly → (g : ℕ) →
      standing (states (suc t)) (handle_of operation.call) ≡ Some (ReadOnly, g) → standing (states t) (handle_of operation.call) ≡ Some (ReadOnly, g)
  stood_before t k lt operation runs no_close read_only g e = by_turn (run.turn t lt) (run.recorded t lt)
    where
      was : (root : Root) × (root_at (states t) (handle_of operation.call) ≡ Some root) × (root.access ≡ operation.access)
      was = (ordered_at run t (omega arith)).handles.on_open k operation runs no_close

      now : StandsOn (states (suc t)) (handle_of operation.call) ReadOnly g
      now = stands_on (states (suc t)) (handle_of operation.call) ReadOnly g e

      stood : generation_at (states t).heap (root_of (was.0).word) ≡ g → standing (states t) (handle_of operation.call) ≡ Some (ReadOnly, g)
      stood same =
          ap (standing_of (states t).heap) was.1 ∙ ap (λ a. Some (a, generation_at (states t).heap (root_of (was.0).word))) (was.2 ∙ read_only) ∙ ap (λ n. Some (ReadOnly, n)) same

      by_turn : (turn : Turn (states t) (states (suc t))) → run.records (suc t) ≡ noted_turn turn (run.records t) → standing (states t) (handle_of operation.call) ≡ Some (ReadOnly, g)
      by_turn (turns s o m) notes =
          stood (sym (read_only_stays (states t) (run.records t) (run.records (suc t)) (safe_at run t (omega arith))
          (ordered_at run t (omega arith)) s o (states (suc t)) m notes
          (handle_of operation.call) was.0 was.1 (was.2 ∙ read_only) now.root now.is_open) ∙ now.its)

  -- an indirection, that of its generation
  pub record IsRoot (t handle g : ℕ) : Type 0 where
    pub is : root_of_generation states last g ≡ root_of (word_at (states t) handle)
    pub generation : ℕ
    pub word : Ref
    pub node : node_under states last (root_of (word_at (states t) handle)) ≡ Indirection generation word

  pub root_stands : (t handle g : ℕ) → t ≤ last → standing (states t) handle ≡ Some (ReadOnly, g) → IsRoot t handle g
  root_stands t handle g within e =
      record { is = is_root; generation = linked.0; word = linked.1; node = linked.2 }
    where
      on : StandsOn (states t) handle ReadOnly g
      on = stands_on (states t) handle ReadOnly g e

      word_is : word_at (states t) handle ≡ on.root.word
      word_is = ap word_of on.is_open

      is_root : root_of_generation states last g ≡ root_of (word_at (states t) handle)
      is_root = ap (root_of_generation states last) (sym on.its) ∙ root_is run t handle on.root within on.is_open ∙ ap root_of (sym word_is)

      plain : on.root.word ≡ Plain (root_of on.root.word)
      plain = read_only_plain (states t) (run.records t) (safe_at run t within) (ordered_at run t within) handle on.root on.is_open on.kind

      used : Holds (IsInUse (states t).heap) (states t).heap (Is (root_of on.root.word) AnIndirection)
      used = (subst (λ w. AllHold (IsInUse (states t).heap) (states t).heap (word_wants w)) plain ((safe_at run t within).words handle on.root on.is_open)).0

      linked : (h : ℕ) × (w : Ref) × (node_under states last (root_of (word_at (states t) handle)) ≡ Indirection h w)
      linked = by_node (node_at (states t).heap (root_of on.root.word)) refl (meets_of used)
        where
          by_node : (n : Node) → node_at (states t).heap (root_of on.root.word) ≡ n → meets AnIndirection n ≡ true →
              (h : ℕ) × (w : Ref) × (node_under states last (root_of (word_at (states t) handle)) ≡ Indirection h w)
          by_node (Indirection h w) found m =
              let link = link_known run t within (root_of on.root.word) (safe_of used) h w found in
              (h, link.0, ap (λ x. node_under states last (root_of x)) word_is ∙ link.1)
          by_node (Branch b es) found m = absurd (true≢false (sym m))
          by_node (Single q v) found m = absurd (true≢false (sym m))
          by_node (Tomb s) found m = absurd (true≢false (sym m))
          by_node (Listed ss) found m = absurd (true≢false (sym m))
