-- A step that decides a pending main node: once it is committed it holds what it took over.
use Rattle.std.proofs.Common.{◌≡◌, ◌⊎◌, inl, inr, ℕ, true, List, [], ◌∷◌, ◌++◌, Contains, Option, Some, refl, sym, ap, subst, ◌∙◌, arith}
use Rattle.std.proofs.lemmas.Bool.{cases_eq}
use Rattle.std.proofs.lemmas.Option.{same_Some}
use Rattle.proof_claims.specs.Beneath.slot_arena.specs.declared.nodes.Prev.{Prev}
use Rattle.proof_claims.specs.Beneath.slot_arena.specs.declared.nodes.Prev.TheVariants as prev
use Rattle.proof_claims.specs.Beneath.slot_arena.specs.declared.refs.Ref.{Ref}
use Rattle.proof_claims.specs.Beneath.slot_arena.specs.Heaps.{main_at, main_of, node_at, prev_at, refs_of_node, refs_of_prev, with_prev}
use Rattle.proof_claims.specs.Beneath.machine_model.specs.declared.actions.Action.TheVariants as act
use Rattle.proof_claims.specs.Beneath.machine_model.specs.declared.lines.Line.TheVariants as line
use Rattle.proof_claims.specs.Beneath.machine_model.specs.declared.lines.Purpose.{Purpose}
use Rattle.proof_claims.specs.Beneath.machine_model.specs.declared.operations.Operation.{Operation}
use Rattle.proof_claims.specs.Beneath.machine_model.specs.declared.steps.Bounds.{Bounds}
use Rattle.proof_claims.specs.Beneath.machine_model.specs.declared.steps.Outcome.{Outcome}
use Rattle.proof_claims.specs.Beneath.machine_model.specs.declared.steps.Step.{Step}
use Rattle.proof_claims.specs.Beneath.machine_model.specs.declared.steps.Step.TheVariants as step
use Rattle.proof_claims.specs.Beneath.machine_model.specs.Machine.{AreBounds, run}
use Rattle.proof_claims.specs.Beneath.machine_model.specs.Moves.{Moves}
use Rattle.proof_claims.specs.Beneath.machine_model.specs.Operations.{action_of}
use Rattle.proof_claims.specs.Beneath.machine_model.specs.States.{State, operation_of}
use Rattle.proof_claims.specs.Beneath.machine_model.specs.Swapping.{swapping}
use Rattle.proof_claims.specs.Beneath.proof_commits.specs.Runs.{HasIndirection}
use Rattle.proof_claims.specs.Beneath.proof_memory.specs.Laws.{IsInUse}
use Rattle.proof_claims.specs.Beneath.proof_memory.specs.Wants.{AllHold, action_wants, is_indirection, line_wants, purpose_wants, swap_wants}
use Rattle.proof_claims.specs.Beneath.proof_memory.proofs.Claims.Uses.{first_hold, meets_of, safe_of}
use Rattle.proof_claims.specs.Beneath.proof_memory.proofs.Safety.AtEachTime.{safe_along}
use Rattle.proof_claims.specs.Beneath.proof_memory.proofs.Safety.AtTimes.{action_finds, line_finds}
use Rattle.proof_claims.specs.Beneath.proof_garbage.proofs.Claims.{one_in}
use Rattle.proof_claims.specs.Beneath.proof_garbage.proofs.Fresh.{deciding_met, deciding_stands}
use Rattle.proof_claims.specs.Held.{Held, OfHandle, OfNode, held_after, is_owned}
use Rattle.proof_claims.specs.Changes.{no_change}
use Rattle.proof_claims.specs.Claims.{held_of}
use Rattle.proof_claims.specs.Clauses.{EachIsHeld, TakesOver, fresh, over}
use Rattle.proof_claims.specs.Dropped.{WasDropped}
use Rattle.proof_claims.proofs.Along.{dropped_later, own_still}
use Rattle.proof_claims.proofs.Frame.{publishes_then, roots_still, same_has, seconds_still, still_publishes, successors_still}
use Rattle.proof_claims.proofs.FromRoots.{main_in_use, prev_used}
use Rattle.proof_claims.proofs.Standing.{node_still, prev_is, prev_still, used_before}

module _ (limits : Bounds) (xs : List Step) (ok : AreBounds limits) (s : Step) (o : Outcome) (after : State) (m : Moves (run limits xs) s o after)
    (h : EachIsHeld (run limits xs) (held_of limits xs) (WasDropped limits xs)) (actor : ℕ) (operation : Operation) (runs : operation_of (run limits xs) actor ≡ Some operation)
    (its : s ≡ step.Go actor) (roots : after.roots ≡ (run limits xs).roots) (i f p : Ref) (told : Option ℕ) (acts : action_of (run limits xs) operation ≡ act.Decide i f p told)
    (pending : prev_at (run limits xs).heap f ≡ prev.Pending p) where
  abbrev pub state : State
  state = run limits xs

  abbrev pub held : Held
  held = held_of limits xs

  abbrev pub Gone : Ref → Type 0
  Gone j = WasDropped limits xs j

  abbrev pub Lost : Ref → Type 0
  Lost j = WasDropped limits (xs ++ s ∷ []) j

  pub lost : (j : Ref) → Gone j → Lost j
  lost j gone = dropped_later limits xs s j gone

  pub own : (b : ℕ) (q : Operation) (because : Purpose) (j x g : Ref) → operation_of state b ≡ Some q → q.line ≡ line.Swap because (swapping j x g) → (s ≡ step.Go b) ⊎ (s ≡ step.GiveUp b) → Lost g
  own b q because j x g runs_b on_b (inl by) =
      let same : step.Go b ≡ step.Go actor = sym by ∙ its in
      let place : b ≡ actor = cc same in
      let one : q ≡ operation = same_Some q operation (sym runs_b ∙ ap (operation_of state) place ∙ runs) in
      let both : act.Publish j x g ≡ act.Decide i f p told = sym (publishes_then state q because j x g on_b) ∙ ap (action_of state) one ∙ acts in
      let wrong : ⊥ = cc both in absurd wrong
  own b q because j x g runs_b on_b (inr by) = let same : step.GiveUp b ≡ step.Go actor = sym by ∙ its in let wrong : ⊥ = cc same in absurd wrong

  claims : AllHold (IsInUse state.heap) state.heap (action_wants (act.Decide i f p told))
  claims = subst (λ a. AllHold (IsInUse state.heap) state.heap (action_wants a)) acts (action_finds state (safe_along limits ok xs) actor operation runs)

  pub has_i : HasIndirection state i
  has_i = (safe_of claims.0, meets_of claims.0)

  pub used_f : IsInUse state.heap f
  used_f = safe_of claims.1.0

  pub used_p : IsInUse state.heap p
  used_p = safe_of claims.1.1.0

  pub stands : main_at state.heap i ≡ f
  stands = deciding_stands limits xs ok actor operation i f p told runs acts has_i.0 used_f p pending

  pub over_p : Contains (refs_of_prev (prev_at state.heap f)) p
  over_p = subst (λ v. Contains (refs_of_prev v) p) (sym pending) (0, omega arith, refl)

  pub only_p : (q : Ref) → Contains (refs_of_prev (prev_at state.heap f)) q → p ≡ q
  only_p q c = one_in (λ x. p ≡ x) p refl q (subst (λ v. Contains (refs_of_prev v) q) pending c)

  swapped_used : (b : ℕ) (q : Operation) (because : Purpose) (j x g : Ref) → operation_of state b ≡ Some q → q.line ≡ line.Swap because (swapping j x g) → IsInUse state.heap x
  swapped_used b q because j x g runs_b on_b =
      safe_of (first_hold (IsInUse state.heap) state.heap (swap_wants (swapping j x g)) (purpose_wants because)
      (subst (λ l. AllHold (IsInUse state.heap) state.heap (line_wants state.limits.hash q.call q.access l)) on_b (line_finds state (safe_along limits ok xs) b q runs_b))).1.0

  module _ (v : Prev) (heap : after.heap ≡ with_prev state.heap f v) (later : Held) (grows : (j x : Ref) → is_owned held j x ≡ true → is_owned later j x ≡ true) where
    pub used_then : (r : Ref) → IsInUse after.heap r → IsInUse state.heap r
    used_then r u = used_before state.heap f v used_f r (subst (λ x. IsInUse x r) heap u)

    pub node_then : (r : Ref) → IsInUse state.heap r → node_at after.heap r ≡ node_at state.heap r
    node_then r u = ap (λ x. node_at x r) heap ∙ node_still state.heap f v used_f r u

    pub prev_then : (r : Ref) → (r ≡ f → ⊥) → IsInUse state.heap r → prev_at after.heap r ≡ prev_at state.heap r
    prev_then r other u = ap (λ x. prev_at x r) heap ∙ prev_still state.heap f v used_f r other u

    pub prev_f : prev_at after.heap f ≡ v
    prev_f = ap (λ x. prev_at x f) heap ∙ prev_is state.heap f v used_f

    pub link_then : (j : Ref) → HasIndirection after j → HasIndirection state j
    link_then j has = let u = used_then j has.0 in (u, ap is_indirection (sym (node_then j u)) ∙ has.1)

    pub main_then : (j : Ref) → IsInUse state.heap j → main_at after.heap j ≡ main_at state.heap j
    main_then j u = ap main_of (node_then j u)

    -- what another main node takes over it still does
    pub still_takes : (j k : Ref) → (j ≡ f → ⊥) → IsInUse state.heap j → TakesOver state held j k → Lost j ⊎ TakesOver after later j k
    still_takes j k other u (fresh b q because x y runs_b on_b owned names) = elim (still_publishes state s o after m Lost own b q because x y j runs_b on_b) [
      | inl (then, runs_now, on_now) ↦
          let y_used = swapped_used b q because x y j runs_b on_b in
          inr (fresh b then because x y runs_now on_now (grows x y owned) (subst (λ n. Contains (refs_of_node n) k) (sym (node_then y y_used)) names))
      | inr is_lost ↦ inl is_lost
    ]
    still_takes j k other u (over y is names all) =
        let y_used = prev_used limits xs ok j y u is in
        inr (over y (subst (λ w. Contains (refs_of_prev w) y) (sym (prev_then j other u)) is) (subst (λ n. Contains (refs_of_node n) k) (sym (node_then y y_used)) names)
        (λ x has at_x. let was = link_then x has in grows x y (all x was (sym (main_then x was.0) ∙ at_x))))

    -- ---- where the node doesn't hold what it took over yet

    module _ (still : v ≡ prev.Failed p) where
      over_then : (q x : Ref) → IsInUse state.heap q → Contains (refs_of_prev (prev_at after.heap q)) x → Contains (refs_of_prev (prev_at state.heap q)) x
      over_then q x u c = elim (cases_eq q f) [
        | inl same ↦
            let there = subst (λ w. Contains (refs_of_prev w) x) (ap (λ y. prev_at after.heap y) same ∙ prev_f ∙ still) c in
            subst (λ y. Contains (refs_of_prev (prev_at state.heap y)) x) (sym same) (subst (λ w. Contains (refs_of_prev w) x) (sym pending) there)
        | inr other ↦ subst (λ w. Contains (refs_of_prev w) x) (prev_then q other u) c
      ]

      takes_f : (k : Ref) → TakesOver state held f k → Lost f ⊎ TakesOver after later f k
      takes_f k (fresh b q because x y runs_b on_b owned names) = absurd (deciding_met limits xs ok actor operation i f p told runs acts b q x y because runs_b on_b)
      takes_f k (over y is names all) =
          let y_used = prev_used limits xs ok f y used_f is in
          inr (over y (subst (λ w. Contains (refs_of_prev w) y) (sym (prev_f ∙ still)) (subst (λ w. Contains (refs_of_prev w) y) pending is))
          (subst (λ n. Contains (refs_of_node n) k) (sym (node_then y y_used)) names) (λ x has at_x. let was = link_then x has in grows x y (all x was (sym (main_then x was.0) ∙ at_x))))

      takes_any : (j k : Ref) → IsInUse state.heap j → TakesOver state held j k → Lost j ⊎ TakesOver after later j k
      takes_any j k u t = elim (cases_eq j f) [
        | inl same ↦ subst (λ y. Lost y ⊎ TakesOver after later y k) (sym same) (takes_f k (subst (λ y. TakesOver state held y k) same t))
        | inr other ↦ still_takes j k other u t
      ]

  -- it fails: claims stay as they are
  pub fails : after.heap ≡ with_prev state.heap f (prev.Failed p) → EachIsHeld after (held_after no_change held) Lost
  fails heap = record {
    roots = roots_still state after held (held_after no_change held) Gone h roots (λ handle r has. same_has held (OfHandle handle) r has);
    successors = successors_still state after held (held_after no_change held) Gone h roots (λ handle r has. same_has held (OfHandle handle) r has);
    seconds = seconds_still state after held (held_after no_change held) Gone h roots (λ handle r has. same_has held (OfHandle handle) r has);
    nodes = λ j k u c.
        let was = used_then (prev.Failed p) heap (held_after no_change held) (own_still no_change held) j u in
        elim (h.nodes j k was (subst (λ n. Contains (refs_of_node n) k) (node_then (prev.Failed p) heap (held_after no_change held) (own_still no_change held) j was) c)) [
          | inl has ↦ inl (same_has held (OfNode j) k has)
          | inr other ↦ elim other [
            | inl gone ↦ inr (inl (lost j gone))
            | inr takes ↦ inr (takes_any (prev.Failed p) heap (held_after no_change held) (own_still no_change held) refl j k was takes)
          ]
        ];
    before = λ x y has c.
        let was = link_then (prev.Failed p) heap (held_after no_change held) (own_still no_change held) x has in
        let at_x = main_then (prev.Failed p) heap (held_after no_change held) (own_still no_change held) x was.0 in
        let there = over_then (prev.Failed p) heap (held_after no_change held) (own_still no_change held) refl (main_at state.heap x) y (main_in_use limits xs ok x was.0 was.1)
        (subst (λ z. Contains (refs_of_prev (prev_at after.heap z)) y) at_x c) in
        elim (h.before x y was there) [ inl has_then ↦ inl (same_has held (OfNode x) y has_then) | inr gone ↦ inr (lost x gone) ];
  }
