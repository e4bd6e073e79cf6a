-- What is held in a state, reference by reference.
use Rattle.std.specs.Prelude.{◌≡◌, ◌⊎◌, ℕ, true, Contains, Some}
use Rattle.proof_claims.specs.Beneath.slot_arena.specs.declared.refs.Ref.{Ref}
use Rattle.proof_claims.specs.Beneath.slot_arena.specs.Heaps.{main_at, node_at, prev_at, refs_of_node, refs_of_prev}
use Rattle.proof_claims.specs.Beneath.machine_model.specs.declared.lines.Line.TheVariants as line
use Rattle.proof_claims.specs.Beneath.machine_model.specs.declared.lines.Purpose.{Purpose}
use Rattle.proof_claims.specs.Beneath.machine_model.specs.declared.operations.Operation.{Operation}
use Rattle.proof_claims.specs.Beneath.machine_model.specs.declared.roots.Descriptor.{Descriptor}
use Rattle.proof_claims.specs.Beneath.machine_model.specs.declared.roots.Root.{Root}
use Rattle.proof_claims.specs.Beneath.machine_model.specs.declared.roots.RootWord.TheVariants.{Offer}
use Rattle.proof_claims.specs.Beneath.machine_model.specs.States.{State, operation_of, root_at, root_of}
use Rattle.proof_claims.specs.Beneath.machine_model.specs.Swapping.{swapping}
use Rattle.proof_claims.specs.Beneath.proof_memory.specs.Laws.{IsInUse}
use Rattle.proof_claims.specs.Beneath.proof_commits.specs.Runs.{HasIndirection}
use Rattle.proof_claims.specs.Held.{Held, OfHandle, OfNode, is_owned}
use Rattle.proof_claims.specs.Claims.{Has}

-- A main node takes a reference over from the one before it, its indirection's own, once it is committed: it is about to be swapped in over that one, or stands over it.
pub data TakesOver (state : State) (held : Held) (f k : Ref) : Type 0 where
  fresh : (actor : ℕ) (operation : Operation) (why : Purpose) (i p : Ref) → operation_of state actor ≡ Some operation → operation.line ≡ line.Swap why (swapping i p f) →
      is_owned held i p ≡ true → Contains (refs_of_node (node_at state.heap p)) k → TakesOver state held f k
  over : (p : Ref) → Contains (refs_of_prev (prev_at state.heap f)) p → Contains (refs_of_node (node_at state.heap p)) k →
      ((i : Ref) → HasIndirection state i → main_at state.heap i ≡ f → is_owned held i p ≡ true) → TakesOver state held f k

-- Each handle holds its root, and each node what it names, but for what it takes over later; an indirection holds what its undecided or failed main node stands over, too.
-- Gone says of nodes that they hold nothing any more.
pub record EachIsHeld (state : State) (held : Held) (Gone : Ref → Type 0) : Type 0 where
  pub roots : (handle : ℕ) (root : Root) → root_at state handle ≡ Some root → Has held (OfHandle handle) (root_of root.word)
  pub successors : (handle : ℕ) (root : Root) (offer : Descriptor) → root_at state handle ≡ Some root → root.word ≡ Offer offer → Has held (OfHandle handle) offer.successor
  pub seconds : (handle : ℕ) (root : Root) (offer : Descriptor) (opens : ℕ) (second : Ref) → root_at state handle ≡ Some root → root.word ≡ Offer offer → offer.opens ≡ Some opens →
      offer.second ≡ Some second → Has held (OfHandle opens) second
  pub nodes : (j k : Ref) → IsInUse state.heap j → Contains (refs_of_node (node_at state.heap j)) k → Has held (OfNode j) k ⊎ (Gone j ⊎ TakesOver state held j k)
  pub before : (i p : Ref) → HasIndirection state i → Contains (refs_of_prev (prev_at state.heap (main_at state.heap i))) p → Has held (OfNode i) p ⊎ Gone i
