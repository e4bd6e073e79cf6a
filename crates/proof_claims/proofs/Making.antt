-- A step that makes a node: it holds what it names, but for what it is to take over.
use Rattle.std.proofs.Common.{◌≡◌, ◌⊎◌, inl, inr, ℕ, Bool, true, false, List, [], ◌∷◌, ◌++◌, Contains, cond, Option, Some, None, suc, refl, sym, ap, subst, ◌∙◌, arith}
use Rattle.std.proofs.lemmas.Bool.{cases_eq, true≢false}
use Rattle.std.proofs.lemmas.Option.{none-some, same_Some}
use Rattle.proof_claims.specs.Beneath.slot_arena.specs.declared.nodes.Slot.{Slot}
use Rattle.proof_claims.specs.Beneath.ctrie_base.specs.declared.kinds.Kind.TheVariants as kind
use Rattle.proof_claims.specs.Beneath.machine_model.specs.Grown.{standing}
use Rattle.proof_claims.specs.Beneath.machine_model.specs.Acting.{operation_after}
use Rattle.proof_claims.specs.Beneath.machine_model.proofs.Actors.{mark_one, mark_only, marks_in}
use Rattle.proof_claims.specs.Beneath.machine_model.proofs.Fates.{Follows, ends, follows, gives_up, place_of_actor, rests, steps}
use Rattle.proof_claims.specs.Beneath.machine_model.proofs.Grown.{node_standing}
use Rattle.proof_claims.specs.Beneath.slot_arena.specs.declared.nodes.Prev.TheVariants as prev
use Rattle.proof_claims.specs.Beneath.slot_arena.specs.declared.refs.Ref.{Ref}
use Rattle.proof_claims.specs.Beneath.slot_arena.specs.Heaps.{next_ref, main_at, main_of, node_at, prev_at, refs_of_node, refs_of_prev}
use Rattle.proof_claims.specs.Beneath.machine_model.specs.declared.lines.Line.TheVariants as line
use Rattle.proof_claims.specs.Beneath.machine_model.specs.declared.lines.Purpose.{Purpose}
use Rattle.proof_claims.specs.Beneath.machine_model.specs.declared.operations.Operation.{Operation}
use Rattle.proof_claims.specs.Beneath.machine_model.specs.declared.steps.Bounds.{Bounds}
use Rattle.proof_claims.specs.Beneath.machine_model.specs.declared.steps.Outcome.{Outcome}
use Rattle.proof_claims.specs.Beneath.machine_model.specs.declared.steps.Step.{Step}
use Rattle.proof_claims.specs.Beneath.machine_model.specs.declared.steps.Step.TheVariants as step
use Rattle.proof_claims.specs.Beneath.machine_model.specs.Machine.{AreBounds, run}
use Rattle.proof_claims.specs.Beneath.machine_model.specs.Moves.{Moves}
use Rattle.proof_claims.specs.Beneath.machine_model.specs.Operations.{action_of, kind_of, line_after}
use Rattle.proof_claims.specs.Beneath.machine_model.specs.States.{State, operation_of}
use Rattle.proof_claims.specs.Beneath.machine_model.specs.Swapping.{swapping}
use Rattle.proof_claims.specs.Beneath.proof_commits.specs.Runs.{HasIndirection}
use Rattle.proof_claims.specs.Beneath.proof_memory.specs.Laws.{IsInUse}
use Rattle.proof_claims.specs.Beneath.proof_memory.specs.Wants.{AllHold, is_indirection, line_wants, purpose_wants, swap_wants}
use Rattle.proof_claims.specs.Beneath.proof_memory.proofs.Claims.Uses.{first_hold, safe_of}
use Rattle.proof_claims.specs.Beneath.proof_memory.proofs.Safety.AtEachTime.{safe_along}
use Rattle.proof_claims.specs.Beneath.proof_memory.proofs.Safety.AtTimes.{line_finds}
use Rattle.proof_claims.specs.Beneath.proof_garbage.proofs.Claims.{none_in}
use Rattle.proof_claims.specs.Held.{Change, Held, OfHandle, OfNode, held_after, is_in, is_owned}
use Rattle.proof_claims.specs.Changes.{claim_of_node, goal_of, makes, over_at}
use Rattle.proof_claims.specs.Claims.{Has, held_of}
use Rattle.proof_claims.specs.Clauses.{EachIsHeld, TakesOver, fresh, over}
use Rattle.proof_claims.specs.Dropped.{WasDropped}
use Rattle.proof_claims.proofs.Along.{comes, dropped_later, own_still, stays}
use Rattle.proof_claims.proofs.Frame.{publishes_then, roots_still, seconds_still, still_publishes, successors_still}
use Rattle.proof_claims.proofs.FromRoots.{main_in_use, prev_used}
use Rattle.proof_claims.proofs.Standing.{node_same, prev_same, used_same}
use Rattle.proof_claims.proofs.Goals.{goal_line}
use Rattle.proof_claims.proofs.Lists.{among, in_flat}

module _ (limits : Bounds) (xs : List Step) (ok : AreBounds limits) (s : Step) (o : Outcome) (after : State) (m : Moves (run limits xs) s o after)
    (h : EachIsHeld (run limits xs) (held_of limits xs) (WasDropped limits xs)) (actor : ℕ) (operation : Operation) (runs : operation_of (run limits xs) actor ≡ Some operation)
    (its : s ≡ step.Go actor) (roots : after.roots ≡ (run limits xs).roots) (x : Ref) (slot : Slot) (taken : next_ref (run limits xs).heap ≡ Some x)
    (makes_it : kind_of (action_of (run limits xs) operation) ≡ kind.Make)
    (here : standing after.heap x ≡ Some slot) (unused : standing (run limits xs).heap x ≡ None)
    (others : (r : Ref) → (r ≡ x → ⊥) → standing after.heap r ≡ standing (run limits xs).heap r)
    (over_decided : is_indirection slot.node ≡ true → prev_at after.heap (main_of slot.node) ≡ prev.None)
    (goal_used : (goal : Ref × Ref) → goal_of operation.line ≡ Some goal → IsInUse (run limits xs).heap goal.1) where
  abbrev state : State
  state = run limits xs

  abbrev held : Held
  held = held_of limits xs

  abbrev names : List Ref
  names = refs_of_node slot.node

  abbrev change : Change
  change = makes state held operation names (Some x)

  abbrev later : Held
  later = held_after change held

  abbrev Lost : Ref → Type 0
  Lost j = WasDropped limits (xs ++ s ∷ []) j

  lost : (j : Ref) → WasDropped limits xs j → Lost j
  lost j gone = dropped_later limits xs s j gone

  grows : (j y : Ref) → is_owned held j y ≡ true → is_owned later j y ≡ true
  grows j y e = own_still change held j y e

  keeps : (j k : Ref) → Has held (OfNode j) k → Has later (OfNode j) k
  keeps j k has = stays change held (OfNode j) (OfNode j) k has refl

  own : (b : ℕ) (r : Operation) (because : Purpose) (j y g : Ref) → operation_of state b ≡ Some r → r.line ≡ line.Swap because (swapping j y g) → (s ≡ step.Go b) ⊎ (s ≡ step.GiveUp b) → Lost g
  own b r because j y g runs_b on_b (inl by) =
      let same : step.Go b ≡ step.Go actor = sym by ∙ its in
      let place : b ≡ actor = cc same in
      let one : r ≡ operation = same_Some r operation (sym runs_b ∙ ap (operation_of state) place ∙ runs) in
      let both : kind.SwapMain ≡ kind.Make = ap kind_of (sym (publishes_then state r because j y g on_b)) ∙ ap (λ q. kind_of (action_of state q)) one ∙ makes_it in
      let wrong : ⊥ = cc both in absurd wrong
  own b r because j y g runs_b on_b (inr by) = let same : step.GiveUp b ≡ step.Go actor = sym by ∙ its in let wrong : ⊥ = cc same in absurd wrong

  -- ---- what stands afterwards

  apart : (r : Ref) → IsInUse state.heap r → r ≡ x → ⊥
  apart r u same = none-some u.0 (sym unused ∙ ap (standing state.heap) (sym same) ∙ u.1)

  used_then : (r : Ref) → (r ≡ x → ⊥) → IsInUse after.heap r → IsInUse state.heap r
  used_then r other u = used_same state.heap after.heap r (others r other) u

  node_then : (r : Ref) → IsInUse state.heap r → node_at after.heap r ≡ node_at state.heap r
  node_then r u = node_same state.heap after.heap r (others r (apart r u)) u

  prev_then : (r : Ref) → IsInUse state.heap r → prev_at after.heap r ≡ prev_at state.heap r
  prev_then r u = prev_same state.heap after.heap r (others r (apart r u)) u

  node_x : node_at after.heap x ≡ slot.node
  node_x = node_standing after.heap x slot here

  -- ---- the new node

  -- its maker is about to swap it in at its goal
  line_then : (l : _) → line_after state operation operation.line ≡ l → (other : Operation) × (operation_of after actor ≡ Some other) × (other.line ≡ l)
  line_then l e =
      let (k, place, at_k) = place_of_actor state actor operation runs in
      by k place (follows state s o after m k operation at_k)
    where
      by : (k : ℕ) → actor ≡ suc k → Follows state s after k operation → (other : Operation) × (operation_of after actor ≡ Some other) × (other.line ≡ l)
      by k place (steps is goes at_k) = (
        mark_one (marks_in state s) (operation_after state operation),
        ap (operation_of after) place ∙ at_k,
        ap (λ (q : Operation). q.line) (mark_only (marks_in state s) (operation_after state operation)) ∙ e,
      )
      by k place (rests other at_k) = absurd (other (its ∙ ap (λ a. step.Go a) place))
      by k place (ends answer is a) = let wrong : kind.End ≡ kind.Make = sym (ap kind_of a) ∙ makes_it in let no_end : ⊥ = cc wrong in absurd no_end
      by k place (gives_up answer is given at_k) = let wrong : step.GiveUp (suc k) ≡ step.Go actor = sym is ∙ its in let no_go : ⊥ = cc wrong in absurd no_go

  abbrev owned_at : Option (Ref × Ref) → Bool
  owned_at None = false
  owned_at (Some goal) = is_owned held goal.0 goal.1

  over_by : (k : Ref) (goal : Option (Ref × Ref)) → goal_of operation.line ≡ goal → (b : Bool) → owned_at goal ≡ b → is_in (over_at state held goal) k ≡ true → TakesOver after later x k
  over_by k None e b is found = absurd (true≢false (sym found))
  over_by k (Some goal) e false is found = absurd (true≢false (sym (sym (ap (λ c. is_in (cond c (refs_of_node (node_at state.heap goal.1)) []) k) is) ∙ found)))
  over_by k (Some goal) e true is found =
      let (why, on) = goal_line state operation x taken operation.line goal e in
      let (other, runs_now, on_now) = line_then (line.Swap why (swapping goal.0 goal.1 x)) on in
      let there = among (refs_of_node (node_at state.heap goal.1)) k (sym (ap (λ c. is_in (cond c (refs_of_node (node_at state.heap goal.1)) []) k) is) ∙ found) in
      fresh actor other why goal.0 goal.1 runs_now on_now (grows goal.0 goal.1 is) (subst (λ n. Contains (refs_of_node n) k) (sym (node_then goal.1 (goal_used goal e))) there)

  held_x : (k : Ref) (b : Bool) → is_in (over_at state held (goal_of operation.line)) k ≡ b → Contains names k → Has later (OfNode x) k ⊎ (Lost x ⊎ TakesOver after later x k)
  held_x k true e c = inr (inr (over_by k (goal_of operation.line) refl (owned_at (goal_of operation.line)) refl e))
  held_x k false e c =
      inl (comes change held (OfNode x) k
      (in_flat (claim_of_node (over_at state held (goal_of operation.line)) x) names k (record { by = OfNode x; on = k }) c (rw e (0, omega arith, refl))))

  -- ---- what is taken over

  swapped_used : (b : ℕ) (r : Operation) (because : Purpose) (j y g : Ref) → operation_of state b ≡ Some r → r.line ≡ line.Swap because (swapping j y g) → IsInUse state.heap y
  swapped_used b r because j y g runs_b on_b =
      safe_of (first_hold (IsInUse state.heap) state.heap (swap_wants (swapping j y g)) (purpose_wants because)
      (subst (λ l. AllHold (IsInUse state.heap) state.heap (line_wants state.limits.hash r.call r.access l)) on_b (line_finds state (safe_along limits ok xs) b r runs_b))).1.0

  link_then : (y : Ref) → (y ≡ x → ⊥) → HasIndirection after y → HasIndirection state y
  link_then y other has = let u = used_then y other has.0 in (u, ap is_indirection (sym (node_then y u)) ∙ has.1)

  main_then : (y : Ref) → IsInUse state.heap y → main_at after.heap y ≡ main_at state.heap y
  main_then y u = ap main_of (node_then y u)

  still_takes : (j k : Ref) → IsInUse state.heap j → TakesOver state held j k → Lost j ⊎ TakesOver after later j k
  still_takes j k u (fresh b r because v y runs_b on_b owned there) = elim (still_publishes state s o after m Lost own b r because v y j runs_b on_b) [
    | inl (then, runs_now, on_now) ↦
        inr (fresh b then because v y runs_now on_now (grows v y owned) (subst (λ n. Contains (refs_of_node n) k) (sym (node_then y (swapped_used b r because v y j runs_b on_b))) there))
    | inr is_lost ↦ inl is_lost
  ]
  still_takes j k u (over y is there all) =
      inr (over y (subst (λ w. Contains (refs_of_prev w) y) (sym (prev_then j u)) is) (subst (λ n. Contains (refs_of_node n) k) (sym (node_then y (prev_used limits xs ok j y u is))) there)
      (λ v has at_v. elim (cases_eq v x) [
        | inl same ↦
            let link : is_indirection slot.node ≡ true = ap is_indirection (sym node_x) ∙ ap (λ z. is_indirection (node_at after.heap z)) (sym same) ∙ has.1 in
            let of_j : main_of slot.node ≡ j = ap main_of (sym node_x) ∙ ap (main_at after.heap) (sym same) ∙ at_v in
            none_in y (subst (λ w. Contains (refs_of_prev w) y) (sym (prev_then j u) ∙ ap (prev_at after.heap) (sym of_j) ∙ over_decided link) is)
        | inr other ↦ let was = link_then v other has in grows v y (all v was (sym (main_then v was.0) ∙ at_v))
      ]))

  -- ---- all of it

  nodes_then : (j k : Ref) → IsInUse after.heap j → Contains (refs_of_node (node_at after.heap j)) k → Has later (OfNode j) k ⊎ (Lost j ⊎ TakesOver after later j k)
  nodes_then j k u c = elim (cases_eq j x) [
    | inl same ↦
        let there = subst (λ n. Contains (refs_of_node n) k) (ap (node_at after.heap) same ∙ node_x) c in
        subst (λ y. Has later (OfNode y) k ⊎ (Lost y ⊎ TakesOver after later y k)) (sym same) (held_x k _ refl there)
    | inr other ↦
        let was = used_then j other u in
        elim (h.nodes j k was (subst (λ n. Contains (refs_of_node n) k) (node_then j was) c)) [
          | inl has ↦ inl (keeps j k has)
          | inr another ↦ elim another [ inl gone ↦ inr (inl (lost j gone)) | inr takes ↦ inr (still_takes j k was takes) ]
        ]
  ]

  before_then : (v y : Ref) → HasIndirection after v → Contains (refs_of_prev (prev_at after.heap (main_at after.heap v))) y → Has later (OfNode v) y ⊎ Lost v
  before_then v y has c = elim (cases_eq v x) [
    | inl same ↦
        let link : is_indirection slot.node ≡ true = ap is_indirection (sym node_x) ∙ ap (λ z. is_indirection (node_at after.heap z)) (sym same) ∙ has.1 in
        none_in y (subst (λ w. Contains (refs_of_prev w) y) (ap (prev_at after.heap) (ap (main_at after.heap) same ∙ ap main_of node_x) ∙ over_decided link) c)
    | inr other ↦
        let was = link_then v other has in
        elim (h.before v y was
        (subst (λ w. Contains (refs_of_prev w) y) (ap (prev_at after.heap) (main_then v was.0) ∙ prev_then (main_at state.heap v) (main_in_use limits xs ok v was.0 was.1)) c)) [
          | inl has_then ↦ inl (keeps v y has_then)
          | inr gone ↦ inr (lost v gone)
        ]
  ]

  handles : (handle : ℕ) (r : Ref) → Has held (OfHandle handle) r → Has later (OfHandle handle) r
  handles handle r has = stays change held (OfHandle handle) (OfHandle handle) r has refl

  pub makes_held : EachIsHeld after later Lost
  makes_held = record {
    roots = roots_still state after held later (WasDropped limits xs) h roots handles;
    successors = successors_still state after held later (WasDropped limits xs) h roots handles;
    seconds = seconds_still state after held later (WasDropped limits xs) h roots handles;
    nodes = nodes_then;
    before = before_then;
  }
