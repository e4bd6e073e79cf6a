-- A step that puts back the main node over which a failed one stands.
use Rattle.std.proofs.Common.{◌≡◌, ◌⊎◌, inl, inr, ℕ, true, List, [], ◌∷◌, ◌++◌, Contains, Some, refl, sym, ap, subst, ◌∙◌, arith}
use Rattle.std.proofs.lemmas.Bool.{cases_eq}
use Rattle.std.proofs.lemmas.Option.{same_Some}
use Rattle.proof_claims.specs.Beneath.slot_arena.specs.declared.nodes.Prev.TheVariants as prev
use Rattle.proof_claims.specs.Beneath.slot_arena.specs.declared.refs.Ref.{Ref}
use Rattle.proof_claims.specs.Beneath.slot_arena.specs.Heaps.{main_at, main_of, node_at, prev_at, refs_of_node, refs_of_prev, with_main}
use Rattle.proof_claims.specs.Beneath.machine_model.specs.declared.actions.Action.TheVariants as act
use Rattle.proof_claims.specs.Beneath.machine_model.specs.declared.lines.Line.TheVariants as line
use Rattle.proof_claims.specs.Beneath.machine_model.specs.declared.lines.Purpose.{Purpose}
use Rattle.proof_claims.specs.Beneath.machine_model.specs.declared.operations.Operation.{Operation}
use Rattle.proof_claims.specs.Beneath.machine_model.specs.declared.steps.Bounds.{Bounds}
use Rattle.proof_claims.specs.Beneath.machine_model.specs.declared.steps.Outcome.{Outcome}
use Rattle.proof_claims.specs.Beneath.machine_model.specs.declared.steps.Step.{Step}
use Rattle.proof_claims.specs.Beneath.machine_model.specs.declared.steps.Step.TheVariants as step
use Rattle.proof_claims.specs.Beneath.machine_model.specs.Machine.{AreBounds, run}
use Rattle.proof_claims.specs.Beneath.machine_model.specs.Moves.{Moves}
use Rattle.proof_claims.specs.Beneath.machine_model.specs.Operations.{action_of}
use Rattle.proof_claims.specs.Beneath.machine_model.specs.States.{State, operation_of}
use Rattle.proof_claims.specs.Beneath.machine_model.specs.Swapping.{swapping}
use Rattle.proof_claims.specs.Beneath.proof_commits.specs.Runs.{HasIndirection}
use Rattle.proof_claims.specs.Beneath.proof_memory.specs.Laws.{IsInUse}
use Rattle.proof_claims.specs.Beneath.proof_memory.specs.Wants.{AMain, AllHold, action_wants, is_indirection, line_wants, meets, purpose_wants, swap_wants}
use Rattle.proof_claims.specs.Beneath.proof_memory.proofs.Claims.Uses.{first_hold, meets_of, safe_of}
use Rattle.proof_claims.specs.Beneath.proof_memory.proofs.Safety.AtEachTime.{safe_along}
use Rattle.proof_claims.specs.Beneath.proof_memory.proofs.Safety.AtTimes.{action_finds, line_finds}
use Rattle.proof_claims.specs.Beneath.proof_garbage.proofs.Claims.{none_in}
use Rattle.proof_claims.specs.Beneath.proof_garbage.proofs.Restoring.{failed_over}
use Rattle.proof_claims.specs.Beneath.proof_owned.proofs.Linked.{main_no_link}
use Rattle.proof_claims.specs.Held.{Held, OfHandle, OfNode, held_after, is_owned}
use Rattle.proof_claims.specs.Changes.{no_change}
use Rattle.proof_claims.specs.Claims.{Has, held_of}
use Rattle.proof_claims.specs.Clauses.{EachIsHeld, TakesOver, fresh, over}
use Rattle.proof_claims.specs.Dropped.{WasDropped}
use Rattle.proof_claims.proofs.Along.{dropped_later, own_still}
use Rattle.proof_claims.proofs.Frame.{publishes_then, roots_still, same_has, seconds_still, still_publishes, successors_still}
use Rattle.proof_claims.proofs.FromRoots.{is_decided, main_in_use, prev_used, stood_main}
use Rattle.proof_claims.proofs.Letting.{link_names}
use Rattle.proof_claims.proofs.Standing.{link_here, main_is, node_still_main, prev_still_main, used_before_main}

module _ (limits : Bounds) (xs : List Step) (ok : AreBounds limits) (s : Step) (o : Outcome) (after : State) (m : Moves (run limits xs) s o after)
    (h : EachIsHeld (run limits xs) (held_of limits xs) (WasDropped limits xs)) (actor : ℕ) (operation : Operation) (runs : operation_of (run limits xs) actor ≡ Some operation)
    (its : s ≡ step.Go actor) (roots : after.roots ≡ (run limits xs).roots) (i q p : Ref) (acts : action_of (run limits xs) operation ≡ act.Restore i q p)
    (hit : main_at (run limits xs).heap i ≡ q) (heap : after.heap ≡ with_main (run limits xs).heap i p) where
  abbrev state : State
  state = run limits xs

  abbrev held : Held
  held = held_of limits xs

  abbrev later : Held
  later = held_after no_change held

  abbrev Lost : Ref → Type 0
  Lost j = WasDropped limits (xs ++ s ∷ []) j

  lost : (j : Ref) → WasDropped limits xs j → Lost j
  lost j gone = dropped_later limits xs s j gone

  grows : (j x : Ref) → is_owned held j x ≡ true → is_owned later j x ≡ true
  grows j x e = own_still no_change held j x e

  own : (b : ℕ) (r : Operation) (because : Purpose) (j x g : Ref) → operation_of state b ≡ Some r → r.line ≡ line.Swap because (swapping j x g) → (s ≡ step.Go b) ⊎ (s ≡ step.GiveUp b) → Lost g
  own b r because j x g runs_b on_b (inl by) =
      let same : step.Go b ≡ step.Go actor = sym by ∙ its in
      let place : b ≡ actor = cc same in
      let one : r ≡ operation = same_Some r operation (sym runs_b ∙ ap (operation_of state) place ∙ runs) in
      let both : act.Publish j x g ≡ act.Restore i q p = sym (publishes_then state r because j x g on_b) ∙ ap (action_of state) one ∙ acts in
      let wrong : ⊥ = cc both in absurd wrong
  own b r because j x g runs_b on_b (inr by) = let same : step.GiveUp b ≡ step.Go actor = sym by ∙ its in let wrong : ⊥ = cc same in absurd wrong

  claims : AllHold (IsInUse state.heap) state.heap (action_wants (act.Restore i q p))
  claims = subst (λ a. AllHold (IsInUse state.heap) state.heap (action_wants a)) acts (action_finds state (safe_along limits ok xs) actor operation runs)

  has_i : HasIndirection state i
  has_i = (safe_of claims.0, meets_of claims.0)

  over_p : Contains (refs_of_prev (prev_at state.heap q)) p
  over_p = subst (λ v. Contains (refs_of_prev v) p) (sym (failed_over limits xs ok actor operation i q p runs acts (safe_of claims.1.0))) (0, omega arith, refl)

  p_decided : prev_at state.heap p ≡ prev.None
  p_decided = is_decided limits xs ok q p (safe_of claims.1.0) (safe_of claims.1.1.0) over_p

  no_link : (r : Ref) → meets AMain (node_at state.heap r) ≡ true → r ≡ i → ⊥
  no_link r main same = main_no_link (node_at state.heap i) (subst (λ x. meets AMain (node_at state.heap x) ≡ true) same main) has_i.1

  -- ---- what stands afterwards

  used_then : (r : Ref) → IsInUse after.heap r → IsInUse state.heap r
  used_then r u = used_before_main state.heap i p has_i.0 has_i.1 r (subst (λ x. IsInUse x r) heap u)

  node_then : (r : Ref) → (r ≡ i → ⊥) → IsInUse state.heap r → node_at after.heap r ≡ node_at state.heap r
  node_then r other u = ap (λ x. node_at x r) heap ∙ node_still_main state.heap i p has_i.0 has_i.1 r other u

  prev_then : (r : Ref) → IsInUse state.heap r → prev_at after.heap r ≡ prev_at state.heap r
  prev_then r u = ap (λ x. prev_at x r) heap ∙ prev_still_main state.heap i p has_i.0 has_i.1 r u

  link_i : is_indirection (node_at after.heap i) ≡ true
  link_i = ap (λ x. is_indirection (node_at x i)) heap ∙ link_here state.heap i p has_i.0 has_i.1

  main_i : main_at after.heap i ≡ p
  main_i = ap (λ x. main_at x i) heap ∙ main_is state.heap i p has_i.0 has_i.1

  link_then : (x : Ref) → HasIndirection after x → HasIndirection state x
  link_then x has = let u = used_then x has.0 in elim (cases_eq x i) [
    | inl same ↦ subst (HasIndirection state) (sym same) has_i
    | inr other ↦ (u, ap is_indirection (sym (node_then x other u)) ∙ has.1)
  ]

  main_then : (x : Ref) → (x ≡ i → ⊥) → IsInUse state.heap x → main_at after.heap x ≡ main_at state.heap x
  main_then x other u = ap main_of (node_then x other u)

  -- ---- what is taken over

  swapped_kind : (b : ℕ) (r : Operation) (because : Purpose) (x y g : Ref) → operation_of state b ≡ Some r → r.line ≡ line.Swap because (swapping x y g) →
      IsInUse state.heap y × (meets AMain (node_at state.heap y) ≡ true)
  swapped_kind b r because x y g runs_b on_b =
      let wants = first_hold (IsInUse state.heap) state.heap (swap_wants (swapping x y g)) (purpose_wants because)
      (subst (λ l. AllHold (IsInUse state.heap) state.heap (line_wants state.limits.hash r.call r.access l)) on_b (line_finds state (safe_along limits ok xs) b r runs_b)) in
      (safe_of wants.1.0, meets_of wants.1.0)

  still_takes : (j k : Ref) → IsInUse state.heap j → TakesOver state held j k → Lost j ⊎ TakesOver after later j k
  still_takes j k u (fresh b r because x y runs_b on_b owned names) = elim (still_publishes state s o after m Lost own b r because x y j runs_b on_b) [
    | inl (then, runs_now, on_now) ↦
        let (y_used, y_main) = swapped_kind b r because x y j runs_b on_b in
        inr (fresh b then because x y runs_now on_now (grows x y owned) (subst (λ n. Contains (refs_of_node n) k) (sym (node_then y (no_link y y_main) y_used)) names))
    | inr is_lost ↦ inl is_lost
  ]
  still_takes j k u (over y is names all) =
      let y_used = prev_used limits xs ok j y u is in
      let y_main = stood_main limits xs ok j y u is in
      inr (over y (subst (λ v. Contains (refs_of_prev v) y) (sym (prev_then j u)) is) (subst (λ n. Contains (refs_of_node n) k) (sym (node_then y (no_link y y_main) y_used)) names)
      (λ x has at_x. elim (cases_eq x i) [
        | inl same ↦
            let of_p : j ≡ p = sym at_x ∙ ap (main_at after.heap) same ∙ main_i in
            none_in y (subst (λ v. Contains (refs_of_prev v) y) (ap (prev_at state.heap) of_p ∙ p_decided) is)
        | inr other ↦ let was = link_then x has in grows x y (all x was (sym (main_then x other was.0) ∙ at_x))
      ]))

  -- ---- all of it

  keeps : (j k : Ref) → Has held (OfNode j) k → Has later (OfNode j) k
  keeps j k has = same_has held (OfNode j) k has

  nodes_then : (j k : Ref) → IsInUse after.heap j → Contains (refs_of_node (node_at after.heap j)) k → Has later (OfNode j) k ⊎ (Lost j ⊎ TakesOver after later j k)
  nodes_then j k u c =
      let was = used_then j u in
      elim (cases_eq j i) [
        | inl same ↦
            let at_i = subst (λ y. Contains (refs_of_node (node_at after.heap y)) k) same c in
            let of_p : p ≡ k = sym main_i ∙ link_names (node_at after.heap i) k link_i at_i in
            let stood = subst (λ y. Contains (refs_of_prev (prev_at state.heap y)) p) (sym hit) over_p in
            elim (h.before i p has_i stood) [
              | inl has ↦ inl (subst (λ y. Has later (OfNode y) k) (sym same) (subst (λ y. Has later (OfNode i) y) of_p (keeps i p has)))
              | inr gone ↦ inr (inl (subst Lost (sym same) (lost i gone)))
            ]
        | inr other ↦ elim (h.nodes j k was (subst (λ n. Contains (refs_of_node n) k) (node_then j other was) c)) [
          | inl has ↦ inl (keeps j k has)
          | inr another ↦ elim another [ inl gone ↦ inr (inl (lost j gone)) | inr takes ↦ inr (still_takes j k was takes) ]
        ]
      ]

  before_then : (x y : Ref) → HasIndirection after x → Contains (refs_of_prev (prev_at after.heap (main_at after.heap x))) y → Has later (OfNode x) y ⊎ Lost x
  before_then x y has c = elim (cases_eq x i) [
    | inl same ↦
        let p_then = prev_then p (safe_of claims.1.1.0) in
        none_in y (subst (λ v. Contains (refs_of_prev v) y) (ap (prev_at after.heap) (ap (main_at after.heap) same ∙ main_i) ∙ p_then ∙ p_decided) c)
    | inr other ↦
        let was = link_then x has in
        elim (h.before x y was
        (subst (λ v. Contains (refs_of_prev v) y) (ap (prev_at after.heap) (main_then x other was.0) ∙ prev_then (main_at state.heap x) (main_in_use limits xs ok x was.0 was.1)) c)) [
          | inl has_then ↦ inl (keeps x y has_then)
          | inr gone ↦ inr (lost x gone)
        ]
  ]

  handles : (handle : ℕ) (r : Ref) → Has held (OfHandle handle) r → Has later (OfHandle handle) r
  handles handle r has = same_has held (OfHandle handle) r has

  pub puts_back : EachIsHeld after later Lost
  puts_back = record {
    roots = roots_still state after held later (WasDropped limits xs) h roots handles;
    successors = successors_still state after held later (WasDropped limits xs) h roots handles;
    seconds = seconds_still state after held later (WasDropped limits xs) h roots handles;
    nodes = nodes_then;
    before = before_then;
  }
