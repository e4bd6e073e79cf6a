-- Who swapped a main node in looks how it was decided.
use Rattle.std.proofs.Common.{◌≡◌, ◌⊎◌, inl, inr, ℕ, ◌==◌, ◌&&◌, Bool, true, false, List, [], ◌∷◌, ◌++◌, Contains, Some, cond, refl, sym, ap, subst, ◌∙◌, eqb-true, append-nil, arith}
use Rattle.std.proofs.lemmas.Option.{same_Some}
use Rattle.proof_claims.specs.Beneath.slot_arena.specs.declared.nodes.Prev.{Prev}
use Rattle.proof_claims.specs.Beneath.slot_arena.specs.declared.nodes.Prev.TheVariants as prev
use Rattle.proof_claims.specs.Beneath.slot_arena.specs.declared.refs.Ref.{Ref}
use Rattle.proof_claims.specs.Beneath.slot_arena.specs.Heaps.{main_at, node_at, prev_at, refs_of_prev}
use Rattle.proof_claims.specs.Beneath.machine_model.specs.declared.lines.Line.TheVariants as line
use Rattle.proof_claims.specs.Beneath.machine_model.specs.declared.lines.Purpose.{Purpose}
use Rattle.proof_claims.specs.Beneath.machine_model.specs.declared.operations.Operation.{Operation}
use Rattle.proof_claims.specs.Beneath.machine_model.specs.declared.reading.Swap.{Swap}
use Rattle.proof_claims.specs.Beneath.machine_model.specs.declared.reading.SwapLine.TheVariants as swap
use Rattle.proof_claims.specs.Beneath.machine_model.specs.declared.steps.Bounds.{Bounds}
use Rattle.proof_claims.specs.Beneath.machine_model.specs.declared.steps.Outcome.{Outcome}
use Rattle.proof_claims.specs.Beneath.machine_model.specs.declared.steps.Step.{Step}
use Rattle.proof_claims.specs.Beneath.machine_model.specs.declared.steps.Step.TheVariants as step
use Rattle.proof_claims.specs.Beneath.machine_model.specs.Machine.{AreBounds, is_taken_step, run}
use Rattle.proof_claims.specs.Beneath.machine_model.specs.Moves.{Moves}
use Rattle.proof_claims.specs.Beneath.machine_model.specs.Operations.{action_of, line_action}
use Rattle.proof_claims.specs.Beneath.machine_model.specs.declared.actions.Action.TheVariants as act
use Rattle.proof_claims.specs.Beneath.machine_model.specs.States.{State, operation_of}
use Rattle.proof_claims.specs.Beneath.machine_model.specs.Swapping.{swapping}
use Rattle.proof_claims.specs.Beneath.proof_commits.specs.Runs.{HasIndirection}
use Rattle.proof_claims.specs.Beneath.proof_memory.specs.Laws.{IsInUse}
use Rattle.proof_claims.specs.Beneath.proof_memory.specs.Wants.{AllHold, line_wants, purpose_wants, swap_wants}
use Rattle.proof_claims.specs.Beneath.proof_memory.proofs.Claims.Uses.{first_hold, meets_of, safe_of}
use Rattle.proof_claims.specs.Beneath.proof_memory.proofs.Safety.AtEachTime.{safe_along}
use Rattle.proof_claims.specs.Beneath.proof_memory.proofs.Safety.AtTimes.{line_finds}
use Rattle.proof_claims.specs.Beneath.proof_reuse.specs.Laws.{HasReplaced}
use Rattle.proof_claims.specs.Beneath.proof_reuse.proofs.SwappedOut.{was_replaced}
use Rattle.proof_claims.specs.Beneath.proof_shape.proofs.Runs.RunOf.{comes_to}
use Rattle.proof_claims.specs.Held.{Change, Claim, Ends, Given, Held, OfHandle, OfNode, Stays, held_after, is_by_nodes, is_in, is_kept, is_owned}
use Rattle.proof_claims.specs.Changes.{change_by, change_going, change_of, checks, checks_at, fate_left}
use Rattle.proof_claims.specs.Claims.{Has, held_of}
use Rattle.proof_claims.specs.Clauses.{EachIsHeld}
use Rattle.proof_claims.specs.Dropped.{HasFailed, IsLetGo, LetsGo, WasDropped, failed, replaced}
use Rattle.proof_claims.proofs.Along.{dropped_later, own_later, stays}
use Rattle.proof_claims.proofs.Frame.{publishes_then}
use Rattle.proof_claims.proofs.FromRoots.{is_decided, main_in_use}
use Rattle.proof_claims.proofs.Failing.{failed_apart}
use Rattle.proof_claims.proofs.Letting.{letting, link_names, the_one}
use Rattle.proof_claims.proofs.Lists.{both_true, found_in}
use Rattle.proof_claims.proofs.Quiet.{Names}
use Rattle.proof_claims.proofs.Replaced.{stands_not, stands_not_over}

-- what that step changes
pub checks_change : (state : State) (held : Held) (actor : ℕ) (operation : Operation) (why : Purpose) (i a f : Ref) → operation_of state actor ≡ Some operation →
    operation.line ≡ line.Swap why (record { indirection = i; replaced = a; fresh = f; line = swap.Check }) →
    change_of state held (step.Go actor) ≡ checks (is_owned held i a) (prev_at state.heap f) (record { indirection = i; replaced = a; fresh = f; line = swap.Check })
checks_change state held actor operation why i a f runs on =
    ap (change_going state held) runs ∙ ap (λ l. change_by state held operation (line_action state operation l)) on ∙ ap (checks_at state held) on

-- the main node that it leaves holds nothing any more
pub left_goes : (i x : Ref) (change : Change) → ((c : Claim) → change.fate c ≡ fate_left i x c) → LetsGo change x
left_goes i x change is k =
    ap is_kept (is (record { by = OfNode x; on = k }))
    ∙ ap (λ b. is_kept (cond b Given (cond (is_in (i ∷ []) x && (k == x)) Ends (Stays (OfNode x))))) (found_in (x ∷ []) x (0, omega arith, refl))

module _ (limits : Bounds) (xs : List Step) (ok : AreBounds limits) (s : Step) (o : Outcome) (after : State) (m : Moves (run limits xs) s o after)
    (h : EachIsHeld (run limits xs) (held_of limits xs) (WasDropped limits xs)) (actor : ℕ) (operation : Operation) (runs : operation_of (run limits xs) actor ≡ Some operation)
    (its : s ≡ step.Go actor) (heap : after.heap ≡ (run limits xs).heap) (roots : after.roots ≡ (run limits xs).roots)
    (why : Purpose) (i a f : Ref) (on : operation.line ≡ line.Swap why (record { indirection = i; replaced = a; fresh = f; line = swap.Check })) where
  abbrev state : State
  state = run limits xs

  abbrev held : Held
  held = held_of limits xs

  abbrev Gone : Ref → Type 0
  Gone j = WasDropped limits xs j

  abbrev Lost : Ref → Type 0
  Lost j = WasDropped limits (xs ++ s ∷ []) j

  abbrev its_swap : Swap
  its_swap = record { indirection = i; replaced = a; fresh = f; line = swap.Check }

  lost : (j : Ref) → Gone j → Lost j
  lost j gone = dropped_later limits xs s j gone

  -- it is about something else than to swap in
  own : (b : ℕ) (p : Operation) (because : Purpose) (j q g : Ref) → operation_of state b ≡ Some p → p.line ≡ line.Swap because (swapping j q g) → (s ≡ step.Go b) ⊎ (s ≡ step.GiveUp b) → Lost g
  own b p because j q g runs_b on_b (inl by) =
      let same : step.Go b ≡ step.Go actor = sym by ∙ its in
      let place : b ≡ actor = cc same in
      let one : p ≡ operation = same_Some p operation (sym runs_b ∙ ap (operation_of state) place ∙ runs) in
      let both : act.Publish j q g ≡ act.ReadPrev f = sym (publishes_then state p because j q g on_b) ∙ ap (action_of state) one ∙ ap (line_action state operation) on in
      let wrong : ⊥ = cc both in absurd wrong
  own b p because j q g runs_b on_b (inr by) = let same : step.GiveUp b ≡ step.Go actor = sym by ∙ its in let wrong : ⊥ = cc same in absurd wrong

  claims : AllHold (IsInUse state.heap) state.heap (swap_wants its_swap)
  claims =
      first_hold (IsInUse state.heap) state.heap (swap_wants its_swap) (purpose_wants why)
      (subst (λ l. AllHold (IsInUse state.heap) state.heap (line_wants state.limits.hash operation.call operation.access l)) on (line_finds state (safe_along limits ok xs) actor operation runs))

  has_i : HasIndirection state i
  has_i = (safe_of claims.0, meets_of claims.0)

  used_a : IsInUse state.heap a
  used_a = safe_of claims.1.0

  used_f : IsInUse state.heap f
  used_f = safe_of claims.1.1.0

  -- neither the indirection's word nor what stands there names it
  abbrev pub Nowhere : Ref → Type 0
  Nowhere x = (main_at state.heap i ≡ x → ⊥) × (Contains (refs_of_prev (prev_at state.heap (main_at state.heap i))) x → ⊥)

  names_not : (x : Ref) → Nowhere x → Names state.heap i x → ⊥
  names_not x nowhere (inl c) = nowhere.0 (link_names (node_at state.heap i) x has_i.1 c)
  names_not x nowhere (inr (link, c)) = nowhere.1 c

  -- ---- what holds nothing any more

  module _ (x : Ref) (change : Change) (is : (c : _) → change.fate c ≡ fate_left i x c) (dropped : Lost x) (nowhere : Nowhere x) where
    by_second : (j k : Ref) (b : Bool) → (is_by_nodes (i ∷ []) (OfNode j) && (k == x)) ≡ b → is_in (x ∷ []) j ≡ false → Names state.heap j k → Has held (OfNode j) k →
        Has (held_after change held) (OfNode j) k ⊎ Lost j
    by_second j k true e apart names has =
        let (at_i, on_x) = both_true (is_in (i ∷ []) j) (k == x) e in
        absurd (names_not x nowhere (subst (λ y. Names state.heap i y) (eqb-true k x on_x) (subst (λ y. Names state.heap y k) (sym (the_one i j at_i)) names)))
    by_second j k false e apart names has = inl (stays change held (OfNode j) (OfNode j) k has (is _ ∙ (rw apart (rw e refl))))

    by_first : (j k : Ref) (b : Bool) → is_in (x ∷ []) j ≡ b → Names state.heap j k → Has held (OfNode j) k → Has (held_after change held) (OfNode j) k ⊎ Lost j
    by_first j k true e names has = inr (subst Lost (the_one x j e) dropped)
    by_first j k false e names has = by_second j k _ refl e names has

    pub leaves : EachIsHeld after (held_after change held) Lost
    leaves = letting state s o after m held Gone Lost h lost own heap roots change (λ j k u names has. by_first j k _ refl names has)
        (λ handle r has. stays change held (OfHandle handle) (OfHandle handle) r has (is _))

  -- ---- by what it finds

  decided_apart : Contains (refs_of_prev (prev_at state.heap (main_at state.heap i))) f → IsInUse state.heap (main_at state.heap i) → prev_at state.heap f ≡ prev.None
  decided_apart c used = is_decided limits xs ok (main_at state.heap i) f used used_f c

  let_go_by : prev_at state.heap f ≡ prev.None → is_owned held i a ≡ true → IsLetGo limits xs s a
  let_go_by none owned = record {
    taken = ap is_taken_step (comes_to state s o after m);
    lets = subst (λ (c : Change). LetsGo c a)
        (sym (ap (change_of state held) its ∙ checks_change state held actor operation why i a f runs on ∙ ap (λ b. checks b (prev_at state.heap f) its_swap) owned
        ∙ ap (λ v. checks true v its_swap) none)) (left_goes i a (checks true prev.None its_swap) (λ c. refl));
  }

  -- committed, and the other one was its indirection's own
  replaces : prev_at state.heap f ≡ prev.None → is_owned held i a ≡ true → EachIsHeld after (held_after (checks true prev.None its_swap) held) Lost
  replaces none owned =
      let has : HasReplaced state actor i a f = record { operation = operation; runs = runs; why = why; checks = on; decided = none } in
      leaves a (checks true prev.None its_swap) (λ c. refl)
      (replaced xs s [] i (sym (append-nil (xs ++ s ∷ []))) (inr (let_go_by none owned)) (was_replaced limits xs (s ∷ []) ok actor i a f has) (own_later limits xs s i a owned))
      (stands_not limits xs ok actor i a f has has_i used_a, stands_not_over limits xs ok actor i a f has has_i)

  -- committed, and the other one wasn't
  lets_go : prev_at state.heap f ≡ prev.None → EachIsHeld after (held_after (checks false prev.None its_swap) held) Lost
  lets_go none = letting state s o after m held Gone Lost h lost own heap roots change (λ j k u names has. by (is_in (i ∷ []) j && (k == a)) refl names has)
      (λ handle r has. stays change held (OfHandle handle) (OfHandle handle) r has refl)
    where
      change : Change
      change = checks false prev.None its_swap

      seen : HasReplaced state actor i a f
      seen = record { operation = operation; runs = runs; why = why; checks = on; decided = none }

      nowhere : Nowhere a
      nowhere = (stands_not limits xs ok actor i a f seen has_i used_a, stands_not_over limits xs ok actor i a f seen has_i)

      by : {j k : Ref} (b : Bool) → (is_in (i ∷ []) j && (k == a)) ≡ b → Names state.heap j k → Has held (OfNode j) k → Has (held_after change held) (OfNode j) k ⊎ Lost j
      by {j} {k} true e names has =
          let (at_i, on_a) = both_true (is_in (i ∷ []) j) (k == a) e in
          absurd (names_not a nowhere (subst (λ y. Names state.heap i y) (eqb-true k a on_a) (subst (λ y. Names state.heap y k) (sym (the_one i j at_i)) names)))
      by {j} {k} false e names has = inl (stays change held (OfNode j) (OfNode j) k has (rw e refl))

  -- it wasn't committed
  fails : (prev_at state.heap f ≡ prev.None → ⊥) → (change : Change) → ((c : _) → change.fate c ≡ fate_left i f c) → EachIsHeld after (held_after change held) Lost
  fails uncommitted change is =
      let has : HasFailed state actor i a f = record { operation = operation; runs = runs; why = why; checks = on; uncommitted = uncommitted } in
      leaves f change is (failed xs (s ∷ []) actor i a refl has)
      (failed_apart limits xs ok actor i a f has has_i used_f, λ c. uncommitted (decided_apart c (main_in_use limits xs ok i has_i.0 has_i.1)))

  by_prev : (b : Bool) (v : Prev) → is_owned held i a ≡ b → prev_at state.heap f ≡ v → EachIsHeld after (held_after (checks b v its_swap) held) Lost
  by_prev true prev.None owned e = replaces e owned
  by_prev false prev.None owned e = lets_go e
  by_prev true (prev.Pending q) owned e = fails (λ none. let wrong : prev.None ≡ prev.Pending q = sym none ∙ e in let bad : ⊥ = cc wrong in bad) (checks true (prev.Pending q) its_swap) (λ c. refl)
  by_prev false (prev.Pending q) owned e = fails (λ none. let wrong : prev.None ≡ prev.Pending q = sym none ∙ e in let bad : ⊥ = cc wrong in bad) (checks false (prev.Pending q) its_swap) (λ c. refl)
  by_prev true (prev.Failed q) owned e = fails (λ none. let wrong : prev.None ≡ prev.Failed q = sym none ∙ e in let bad : ⊥ = cc wrong in bad) (checks true (prev.Failed q) its_swap) (λ c. refl)
  by_prev false (prev.Failed q) owned e = fails (λ none. let wrong : prev.None ≡ prev.Failed q = sym none ∙ e in let bad : ⊥ = cc wrong in bad) (checks false (prev.Failed q) its_swap) (λ c. refl)

  -- whatever it finds
  pub checked : EachIsHeld after (held_after (checks (is_owned held i a) (prev_at state.heap f) its_swap) held) Lost
  checked = by_prev (is_owned held i a) (prev_at state.heap f) refl refl
