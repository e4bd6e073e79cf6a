-- A step that leaves the heap as it is: each reference is still held in its place where its claim stays, or its holder is dropped.
use Rattle.std.proofs.Common.{◌≡◌, ◌⊎◌, inl, inr, ℕ, true, Contains, Some, sym, subst}
use Rattle.proof_claims.specs.Beneath.slot_arena.specs.declared.refs.Ref.{Ref}
use Rattle.proof_claims.specs.Beneath.slot_arena.specs.Heaps.{Heap, main_at, node_at, prev_at, refs_of_node, refs_of_prev}
use Rattle.proof_claims.specs.Beneath.machine_model.specs.declared.lines.Line.TheVariants as line
use Rattle.proof_claims.specs.Beneath.machine_model.specs.declared.lines.Purpose.{Purpose}
use Rattle.proof_claims.specs.Beneath.machine_model.specs.declared.operations.Operation.{Operation}
use Rattle.proof_claims.specs.Beneath.machine_model.specs.States.{State, operation_of}
use Rattle.proof_claims.specs.Beneath.machine_model.specs.Swapping.{swapping}
use Rattle.proof_claims.specs.Beneath.proof_memory.specs.Laws.{IsInUse}
use Rattle.proof_claims.specs.Beneath.proof_memory.specs.Wants.{is_indirection}
use Rattle.proof_claims.specs.Beneath.proof_commits.specs.Runs.{HasIndirection}
use Rattle.proof_claims.specs.Held.{Held, OfNode, is_owned}
use Rattle.proof_claims.specs.Claims.{Has}
use Rattle.proof_claims.specs.Clauses.{EachIsHeld, TakesOver, fresh, over}

-- the reference stands in the node, or is what its undecided or failed main node stands over
abbrev pub Names : Heap → Ref → Ref → Type 0
Names heap j k =
    Contains (refs_of_node (node_at heap j)) k ⊎ ((is_indirection (node_at heap j) ≡ true) × Contains (refs_of_prev (prev_at heap (main_at heap j))) k)

module _ (state after : State) (held later : Held) (Gone Lost : Ref → Type 0) (h : EachIsHeld state held Gone) (heap : after.heap ≡ state.heap)
    (lost : (j : Ref) → Gone j → Lost j) (grows : (i m : Ref) → is_owned held i m ≡ true → is_owned later i m ≡ true)
    (keeps : (j k : Ref) → IsInUse state.heap j → Names state.heap j k → Has held (OfNode j) k → Has later (OfNode j) k ⊎ Lost j)
    (publishes : (actor : ℕ) (operation : Operation) (why : Purpose) (i p f : Ref) → operation_of state actor ≡ Some operation → operation.line ≡ line.Swap why (swapping i p f) →
    ((other : Operation) × (operation_of after actor ≡ Some other) × (other.line ≡ line.Swap why (swapping i p f))) ⊎ Lost f) where
  still_takes : (j k : Ref) → TakesOver state held j k → Lost j ⊎ TakesOver after later j k
  still_takes j k (fresh actor operation why i p runs on own names) = elim (publishes actor operation why i p j runs on) [
    | inl (other, runs_now, on_now) ↦ inr (fresh actor other why i p runs_now on_now (grows i p own) (subst (λ x. Contains (refs_of_node (node_at x p)) k) (sym heap) names))
    | inr is_lost ↦ inl is_lost
  ]
  still_takes j k (over p is names all) =
      inr (over p (subst (λ x. Contains (refs_of_prev (prev_at x j)) p) (sym heap) is) (subst (λ x. Contains (refs_of_node (node_at x p)) k) (sym heap) names)
      (λ i has stands. grows i p (all i (subst (λ x. IsInUse x i × (is_indirection (node_at x i) ≡ true)) heap has) (subst (λ x. main_at x i ≡ j) heap stands))))

  pub quiet_nodes : (j k : Ref) → IsInUse after.heap j → Contains (refs_of_node (node_at after.heap j)) k → Has later (OfNode j) k ⊎ (Lost j ⊎ TakesOver after later j k)
  quiet_nodes j k u c =
      let used = subst (λ x. IsInUse x j) heap u in
      let names = subst (λ x. Contains (refs_of_node (node_at x j)) k) heap c in
      elim (h.nodes j k used names) [
        | inl has ↦ elim (keeps j k used (inl names) has) [ inl has_now ↦ inl has_now | inr is_lost ↦ inr (inl is_lost) ]
        | inr other ↦ elim other [ inl is_gone ↦ inr (inl (lost j is_gone)) | inr takes ↦ inr (still_takes j k takes) ]
      ]

  pub quiet_before : (i p : Ref) → HasIndirection after i → Contains (refs_of_prev (prev_at after.heap (main_at after.heap i))) p → Has later (OfNode i) p ⊎ Lost i
  quiet_before i p has c =
      let (used, link) = subst (λ x. IsInUse x i × (is_indirection (node_at x i) ≡ true)) heap has in
      let stands = subst (λ x. Contains (refs_of_prev (prev_at x (main_at x i))) p) heap c in
      elim (h.before i p (used, link) stands) [
        | inl held_then ↦ keeps i p used (inr (link, stands)) held_then
        | inr is_gone ↦ inr (lost i is_gone)
      ]
