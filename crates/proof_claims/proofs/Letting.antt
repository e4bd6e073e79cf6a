-- A step that leaves heap and root words, and adds no claims: each reference is held as before where those that nodes in use name are, or are let go of with their node.
use Rattle.std.proofs.Common.{◌≡◌, ◌⊎◌, ℕ, true, [], ◌∷◌, Contains, Some, refl, sym, arith}
use Rattle.proof_claims.specs.Beneath.slot_arena.specs.declared.nodes.Node.{Node}
use Rattle.proof_claims.specs.Beneath.slot_arena.specs.declared.nodes.Node.TheVariants.{Indirection, Branch, Single, Tomb, List as Listed}
use Rattle.proof_claims.specs.Beneath.slot_arena.specs.declared.refs.Ref.{Ref}
use Rattle.proof_claims.specs.Beneath.slot_arena.specs.Heaps.{main_of, refs_of_node}
use Rattle.std.proofs.lemmas.Bool.{true≢false}
use Rattle.proof_claims.specs.Beneath.machine_model.specs.declared.lines.Line.TheVariants as line
use Rattle.proof_claims.specs.Beneath.machine_model.specs.declared.lines.Purpose.{Purpose}
use Rattle.proof_claims.specs.Beneath.machine_model.specs.declared.operations.Operation.{Operation}
use Rattle.proof_claims.specs.Beneath.machine_model.specs.declared.steps.Outcome.{Outcome}
use Rattle.proof_claims.specs.Beneath.machine_model.specs.declared.steps.Step.{Step}
use Rattle.proof_claims.specs.Beneath.machine_model.specs.declared.steps.Step.TheVariants as step
use Rattle.proof_claims.specs.Beneath.machine_model.specs.Moves.{Moves}
use Rattle.proof_claims.specs.Beneath.machine_model.specs.States.{State, operation_of}
use Rattle.proof_claims.specs.Beneath.machine_model.specs.Swapping.{swapping}
use Rattle.proof_claims.specs.Beneath.proof_garbage.proofs.Claims.{one_in}
use Rattle.proof_claims.specs.Beneath.proof_memory.specs.Laws.{IsInUse}
use Rattle.proof_claims.specs.Beneath.proof_memory.specs.Wants.{is_indirection}
use Rattle.proof_claims.specs.Held.{Change, Held, OfHandle, OfNode, held_after, is_in}
use Rattle.proof_claims.specs.Claims.{Has}
use Rattle.proof_claims.specs.Clauses.{EachIsHeld}
use Rattle.proof_claims.proofs.Along.{own_still}
use Rattle.proof_claims.proofs.Frame.{roots_still, seconds_still, still_publishes, successors_still}
use Rattle.proof_claims.proofs.Lists.{among}
use Rattle.proof_claims.proofs.Quiet.{Names, quiet_before, quiet_nodes}

module _ (state : State) (s : Step) (o : Outcome) (after : State) (m : Moves state s o after) (held : Held) (Gone Lost : Ref → Type 0) (h : EachIsHeld state held Gone)
    (lost : (j : Ref) → Gone j → Lost j)
    (own : (actor : ℕ) (operation : Operation) (why : Purpose) (i p f : Ref) → operation_of state actor ≡ Some operation → operation.line ≡ line.Swap why (swapping i p f) →
    (s ≡ step.Go actor) ⊎ (s ≡ step.GiveUp actor) → Lost f)
    (heap : after.heap ≡ state.heap) (roots : after.roots ≡ state.roots) where
  pub letting : (change : Change) → ((j k : Ref) → IsInUse state.heap j → Names state.heap j k → Has held (OfNode j) k → Has (held_after change held) (OfNode j) k ⊎ Lost j) →
      ((handle : ℕ) (r : Ref) → Has held (OfHandle handle) r → Has (held_after change held) (OfHandle handle) r) → EachIsHeld after (held_after change held) Lost
  letting change keeps handles = record {
    roots = roots_still state after held (held_after change held) Gone h roots handles;
    successors = successors_still state after held (held_after change held) Gone h roots handles;
    seconds = seconds_still state after held (held_after change held) Gone h roots handles;
    nodes = quiet_nodes state after held (held_after change held) Gone Lost h heap lost (own_still change held) keeps (still_publishes state s o after m Lost own);
    before = quiet_before state after held (held_after change held) Gone Lost h heap lost (own_still change held) keeps (still_publishes state s o after m Lost own);
  }

-- ---- small facts of nodes and lists

-- an indirection names its main node
pub link_names : (n : Node) (k : Ref) → is_indirection n ≡ true → Contains (refs_of_node n) k → main_of n ≡ k
link_names (Indirection generation main) k e c = one_in (λ x. main ≡ x) main refl k c
link_names (Branch bitmap entries) k e c = absurd (true≢false (sym e))
link_names (Single key value) k e c = absurd (true≢false (sym e))
link_names (Tomb single) k e c = absurd (true≢false (sym e))
link_names (Listed singles) k e c = absurd (true≢false (sym e))

pub main_named : (n : Node) (r : Ref) → is_indirection n ≡ true → main_of n ≡ r → Contains (refs_of_node n) r
main_named (Indirection generation main) r e same = (0, omega arith, same)
main_named (Branch bitmap entries) r e same = absurd (true≢false (sym e))
main_named (Single key value) r e same = absurd (true≢false (sym e))
main_named (Tomb single) r e same = absurd (true≢false (sym e))
main_named (Listed singles) r e same = absurd (true≢false (sym e))

-- the one that the test finds
pub the_one : (x j : Ref) → is_in (x ∷ []) j ≡ true → x ≡ j
the_one x j e = one_in (λ y. x ≡ y) x refl j (among (x ∷ []) j e)
