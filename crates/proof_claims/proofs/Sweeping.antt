-- A step of the sweep, which may free a slot: all else stands as before.
use Rattle.std.proofs.Common.{◌≡◌, ◌⊎◌, inl, inr, ℕ, true, List, [], ◌∷◌, ◌++◌, Contains, Some, sym, ap, subst, ◌∙◌}
use Rattle.proof_claims.specs.Beneath.slot_arena.specs.declared.refs.Ref.{Ref}
use Rattle.proof_claims.specs.Beneath.slot_arena.specs.Heaps.{main_at, main_of, node_at, prev_at, refs_of_node, refs_of_prev}
use Rattle.proof_claims.specs.Beneath.machine_model.specs.declared.lines.Line.TheVariants as line
use Rattle.proof_claims.specs.Beneath.machine_model.specs.declared.lines.Purpose.{Purpose}
use Rattle.proof_claims.specs.Beneath.machine_model.specs.declared.operations.Operation.{Operation}
use Rattle.proof_claims.specs.Beneath.machine_model.specs.declared.steps.Bounds.{Bounds}
use Rattle.proof_claims.specs.Beneath.machine_model.specs.declared.steps.Outcome.{Outcome}
use Rattle.proof_claims.specs.Beneath.machine_model.specs.declared.steps.Step.{Step}
use Rattle.proof_claims.specs.Beneath.machine_model.specs.declared.steps.Step.TheVariants as step
use Rattle.proof_claims.specs.Beneath.machine_model.specs.Machine.{AreBounds, run}
use Rattle.proof_claims.specs.Beneath.machine_model.specs.Moves.{Moves}
use Rattle.proof_claims.specs.Beneath.machine_model.specs.States.{State, operation_of}
use Rattle.proof_claims.specs.Beneath.machine_model.specs.Swapping.{swapping}
use Rattle.proof_claims.specs.Beneath.proof_commits.specs.Runs.{HasIndirection}
use Rattle.proof_claims.specs.Beneath.proof_memory.specs.Laws.{IsInUse}
use Rattle.proof_claims.specs.Beneath.proof_memory.specs.Wants.{AllHold, is_indirection, line_wants, purpose_wants, swap_wants}
use Rattle.proof_claims.specs.Beneath.proof_memory.proofs.Claims.Uses.{first_hold, safe_of}
use Rattle.proof_claims.specs.Beneath.proof_memory.proofs.Safety.AtEachTime.{safe_along}
use Rattle.proof_claims.specs.Beneath.proof_memory.proofs.Safety.AtTimes.{line_finds}
use Rattle.proof_claims.specs.Held.{Held, OfHandle, OfNode, held_after, is_owned}
use Rattle.proof_claims.specs.Changes.{no_change}
use Rattle.proof_claims.specs.Claims.{Has, held_of}
use Rattle.proof_claims.specs.Clauses.{EachIsHeld, TakesOver, fresh, over}
use Rattle.proof_claims.specs.Dropped.{WasDropped}
use Rattle.proof_claims.proofs.Along.{dropped_later, own_still}
use Rattle.proof_claims.proofs.Frame.{roots_still, same_has, seconds_still, still_publishes, successors_still}
use Rattle.proof_claims.proofs.FromRoots.{main_in_use, prev_used}
use Rattle.proof_claims.proofs.Standing.{node_same, prev_same, used_same}
use Rattle.proof_claims.specs.Beneath.machine_model.specs.Grown.{standing}

module _ (limits : Bounds) (xs : List Step) (ok : AreBounds limits) (s : Step) (o : Outcome) (m : Moves (run limits xs) s o (run limits (xs ++ s ∷ [])))
    (h : EachIsHeld (run limits xs) (held_of limits xs) (WasDropped limits xs)) (its : s ≡ step.Sweep) (roots : (run limits (xs ++ s ∷ [])).roots ≡ (run limits xs).roots)
    (stays_there : (r : Ref) → IsInUse (run limits (xs ++ s ∷ [])).heap r → standing (run limits (xs ++ s ∷ [])).heap r ≡ standing (run limits xs).heap r) where
  abbrev state : State
  state = run limits xs

  abbrev all : List Step
  all = xs ++ s ∷ []

  abbrev after : State
  after = run limits all

  abbrev held : Held
  held = held_of limits xs

  abbrev later : Held
  later = held_after no_change held

  abbrev Lost : Ref → Type 0
  Lost j = WasDropped limits all j

  lost : (j : Ref) → WasDropped limits xs j → Lost j
  lost j gone = dropped_later limits xs s j gone

  grows : (j x : Ref) → is_owned held j x ≡ true → is_owned later j x ≡ true
  grows j x e = own_still no_change held j x e

  own : (b : ℕ) (r : Operation) (because : Purpose) (j x g : Ref) → operation_of state b ≡ Some r → r.line ≡ line.Swap because (swapping j x g) → (s ≡ step.Go b) ⊎ (s ≡ step.GiveUp b) → Lost g
  own b r because j x g runs_b on_b (inl by) = let wrong : step.Go b ≡ step.Sweep = sym by ∙ its in let bad : ⊥ = cc wrong in absurd bad
  own b r because j x g runs_b on_b (inr by) = let wrong : step.GiveUp b ≡ step.Sweep = sym by ∙ its in let bad : ⊥ = cc wrong in absurd bad

  used_before : (r : Ref) → IsInUse after.heap r → IsInUse state.heap r
  used_before r u = used_same state.heap after.heap r (stays_there r u) u

  node_then : (r : Ref) → IsInUse after.heap r → node_at after.heap r ≡ node_at state.heap r
  node_then r u = node_same state.heap after.heap r (stays_there r u) (used_before r u)

  prev_then : (r : Ref) → IsInUse after.heap r → prev_at after.heap r ≡ prev_at state.heap r
  prev_then r u = prev_same state.heap after.heap r (stays_there r u) (used_before r u)

  link_then : (x : Ref) → HasIndirection after x → HasIndirection state x
  link_then x has = (used_before x has.0, ap is_indirection (sym (node_then x has.0)) ∙ has.1)

  main_then : (x : Ref) → IsInUse after.heap x → main_at after.heap x ≡ main_at state.heap x
  main_then x u = ap main_of (node_then x u)

  swapped_used : (b : ℕ) (r : Operation) (because : Purpose) (x y g : Ref) → operation_of after b ≡ Some r → r.line ≡ line.Swap because (swapping x y g) → IsInUse after.heap y
  swapped_used b r because x y g runs_b on_b =
      safe_of (first_hold (IsInUse after.heap) after.heap (swap_wants (swapping x y g)) (purpose_wants because)
      (subst (λ l. AllHold (IsInUse after.heap) after.heap (line_wants after.limits.hash r.call r.access l)) on_b (line_finds after (safe_along limits ok all) b r runs_b))).1.0

  still_takes : (j k : Ref) → IsInUse after.heap j → TakesOver state held j k → Lost j ⊎ TakesOver after later j k
  still_takes j k u (fresh b r because x y runs_b on_b owned names) = elim (still_publishes state s o after m Lost own b r because x y j runs_b on_b) [
    | inl (then, runs_now, on_now) ↦
        let y_used = swapped_used b then because x y j runs_now on_now in
        inr (fresh b then because x y runs_now on_now (grows x y owned) (subst (λ n. Contains (refs_of_node n) k) (sym (node_then y y_used)) names))
    | inr is_lost ↦ inl is_lost
  ]
  still_takes j k u (over y is names everywhere) =
      let there = subst (λ v. Contains (refs_of_prev v) y) (sym (prev_then j u)) is in
      let y_used = prev_used limits all ok j y u there in
      inr (over y there (subst (λ n. Contains (refs_of_node n) k) (sym (node_then y y_used)) names)
      (λ x has at_x. grows x y (everywhere x (link_then x has) (sym (main_then x has.0) ∙ at_x))))

  keeps : (j k : Ref) → Has held (OfNode j) k → Has later (OfNode j) k
  keeps j k has = same_has held (OfNode j) k has

  handles : (handle : ℕ) (r : Ref) → Has held (OfHandle handle) r → Has later (OfHandle handle) r
  handles handle r has = same_has held (OfHandle handle) r has

  pub sweeps : EachIsHeld after later Lost
  sweeps = record {
    roots = roots_still state after held later (WasDropped limits xs) h roots handles;
    successors = successors_still state after held later (WasDropped limits xs) h roots handles;
    seconds = seconds_still state after held later (WasDropped limits xs) h roots handles;
    nodes = λ j k u c. elim (h.nodes j k (used_before j u) (subst (λ n. Contains (refs_of_node n) k) (node_then j u) c)) [
      | inl has ↦ inl (keeps j k has)
      | inr another ↦ elim another [ inl gone ↦ inr (inl (lost j gone)) | inr takes ↦ inr (still_takes j k u takes) ]
    ];
    before = λ x y has c.
        let main_used = main_in_use limits all ok x has.0 has.1 in
        let there = subst (λ v. Contains (refs_of_prev v) y) (prev_then (main_at after.heap x) main_used) c in
        elim (h.before x y (link_then x has) (subst (λ z. Contains (refs_of_prev (prev_at state.heap z)) y) (main_then x has.0) there)) [
          | inl has_then ↦ inl (keeps x y has_then)
          | inr gone ↦ inr (lost x gone)
        ];
  }
