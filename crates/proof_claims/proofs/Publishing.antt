-- A step that swaps a fresh main node in: the indirection holds it from then on, beside the one before.
use Rattle.std.proofs.Common.{◌≡◌, ◌⊎◌, inl, inr, ℕ, true, List, [], ◌∷◌, ◌++◌, Contains, Some, refl, sym, ap, subst, ◌∙◌, arith}
use Rattle.std.proofs.lemmas.Bool.{cases_eq, true≢false}
use Rattle.std.proofs.lemmas.Option.{same_Some}
use Rattle.proof_claims.specs.Beneath.slot_arena.specs.declared.nodes.Prev.TheVariants as prev
use Rattle.proof_claims.specs.Beneath.slot_arena.specs.declared.refs.Ref.{Ref}
use Rattle.proof_claims.specs.Beneath.slot_arena.specs.Heaps.{Heap, main_at, main_of, node_at, prev_at, refs_of_node, refs_of_prev, with_main, with_prev}
use Rattle.proof_claims.specs.Beneath.slot_arena.specs.declared.nodes.Node.{Node}
use Rattle.proof_claims.specs.Beneath.slot_arena.specs.declared.nodes.Node.TheVariants.{Indirection, Branch, Single, Tomb, List as Listed}
use Rattle.proof_claims.specs.Beneath.machine_model.specs.declared.actions.Action.TheVariants as act
use Rattle.proof_claims.specs.Beneath.machine_model.specs.declared.lines.Line.TheVariants as line
use Rattle.proof_claims.specs.Beneath.machine_model.specs.declared.lines.Purpose.{Purpose}
use Rattle.proof_claims.specs.Beneath.machine_model.specs.declared.operations.Operation.{Operation}
use Rattle.proof_claims.specs.Beneath.machine_model.specs.declared.steps.Bounds.{Bounds}
use Rattle.proof_claims.specs.Beneath.machine_model.specs.declared.steps.Outcome.{Outcome}
use Rattle.proof_claims.specs.Beneath.machine_model.specs.declared.steps.Step.{Step}
use Rattle.proof_claims.specs.Beneath.machine_model.specs.declared.steps.Step.TheVariants as step
use Rattle.proof_claims.specs.Beneath.machine_model.specs.Machine.{AreBounds, run}
use Rattle.proof_claims.specs.Beneath.machine_model.specs.Moves.{Moves}
use Rattle.proof_claims.specs.Beneath.machine_model.specs.Operations.{action_of}
use Rattle.proof_claims.specs.Beneath.machine_model.specs.States.{State, operation_of}
use Rattle.proof_claims.specs.Beneath.machine_model.specs.Swapping.{swapping}
use Rattle.proof_claims.specs.Beneath.proof_commits.specs.Runs.{HasIndirection}
use Rattle.proof_claims.specs.Beneath.proof_memory.specs.Laws.{IsInUse}
use Rattle.proof_claims.specs.Beneath.proof_memory.specs.Wants.{AMain, AllHold, is_indirection, line_wants, meets, purpose_wants, swap_wants}
use Rattle.proof_claims.specs.Beneath.proof_memory.proofs.Claims.Uses.{first_hold, meets_of, safe_of}
use Rattle.proof_claims.specs.Beneath.proof_memory.proofs.Safety.AtEachTime.{safe_along}
use Rattle.proof_claims.specs.Beneath.proof_memory.proofs.Safety.AtTimes.{line_finds}
use Rattle.proof_claims.specs.Beneath.proof_garbage.proofs.Claims.{none_in, one_in}
use Rattle.proof_claims.specs.Beneath.proof_garbage.proofs.Fresh.{fresh_apart, fresh_decided}
use Rattle.proof_claims.specs.Beneath.proof_garbage.proofs.GivenUp.{claim, slot_names_not}
use Rattle.proof_claims.specs.Beneath.proof_owned.proofs.Linked.{main_no_link}
use Rattle.proof_claims.specs.Held.{Change, Held, OfHandle, OfNode, held_after, is_owned}
use Rattle.proof_claims.specs.Changes.{publishes}
use Rattle.proof_claims.specs.Claims.{Has, held_of}
use Rattle.proof_claims.specs.Clauses.{EachIsHeld, TakesOver, fresh, over}
use Rattle.proof_claims.specs.Dropped.{WasDropped}
use Rattle.proof_claims.proofs.Along.{comes, dropped_later, own_still, stays}
use Rattle.proof_claims.proofs.Frame.{publishes_then, roots_still, seconds_still, still_publishes, successors_still}
use Rattle.proof_claims.proofs.FromRoots.{is_main, main_in_use, named_in_slot, prev_used, stood_main}
use Rattle.proof_claims.proofs.Letting.{link_names, main_named}
use Rattle.proof_claims.proofs.Standing.{link_here, main_is, node_still, node_still_main, prev_is, prev_still, prev_still_main, used_after_main, used_before, used_before_main}

module _ (limits : Bounds) (xs : List Step) (ok : AreBounds limits) (s : Step) (o : Outcome) (after : State) (m : Moves (run limits xs) s o after)
    (h : EachIsHeld (run limits xs) (held_of limits xs) (WasDropped limits xs)) (actor : ℕ) (operation : Operation) (runs : operation_of (run limits xs) actor ≡ Some operation)
    (its : s ≡ step.Go actor) (roots : after.roots ≡ (run limits xs).roots) (why : Purpose) (i a f : Ref) (on : operation.line ≡ line.Swap why (swapping i a f))
    (hit : main_at (run limits xs).heap i ≡ a) (heap : after.heap ≡ with_prev (with_main (run limits xs).heap i f) f (prev.Pending a)) where
  abbrev state : State
  state = run limits xs

  abbrev held : Held
  held = held_of limits xs

  abbrev change : Change
  change = publishes true operation.private i f

  abbrev later : Held
  later = held_after change held

  abbrev Lost : Ref → Type 0
  Lost j = WasDropped limits (xs ++ s ∷ []) j

  lost : (j : Ref) → WasDropped limits xs j → Lost j
  lost j gone = dropped_later limits xs s j gone

  grows : (j x : Ref) → is_owned held j x ≡ true → is_owned later j x ≡ true
  grows j x e = own_still change held j x e

  keeps : (j k : Ref) → Has held (OfNode j) k → Has later (OfNode j) k
  keeps j k has = stays change held (OfNode j) (OfNode j) k has refl

  holds_fresh : Has later (OfNode i) f
  holds_fresh = comes change held (OfNode i) f (0, omega arith, refl)

  -- ---- the three of them

  claims : AllHold (IsInUse state.heap) state.heap (swap_wants (swapping i a f))
  claims =
      first_hold (IsInUse state.heap) state.heap (swap_wants (swapping i a f)) (purpose_wants why)
      (subst (λ l. AllHold (IsInUse state.heap) state.heap (line_wants state.limits.hash operation.call operation.access l)) on (line_finds state (safe_along limits ok xs) actor operation runs))

  has_i : HasIndirection state i
  has_i = (safe_of claims.0, meets_of claims.0)

  used_f : IsInUse state.heap f
  used_f = safe_of claims.1.1.0

  no_link : (r : Ref) → meets AMain (node_at state.heap r) ≡ true → r ≡ i → ⊥
  no_link r main same = main_no_link (node_at state.heap i) (subst (λ x. meets AMain (node_at state.heap x) ≡ true) same main) has_i.1

  f_apart : f ≡ i → ⊥
  f_apart same = no_link f (meets_of claims.1.1.0) same

  names_not : (q : Ref) → Contains (refs_of_node (node_at state.heap q)) f → IsInUse state.heap q → ⊥
  names_not q c u = slot_names_not limits xs ok actor operation runs i a f why on q (named_in_slot limits xs ok q f u c)

  stands_not_over : (q : Ref) → Contains (refs_of_prev (prev_at state.heap f)) q → ⊥
  stands_not_over q c = none_in q (subst (λ v. Contains (refs_of_prev v) q) (fresh_decided limits xs ok actor operation i a f why runs on used_f) c)

  -- ---- what stands afterwards

  abbrev between : Heap
  between = with_main state.heap i f

  f_between : IsInUse between f
  f_between = used_after_main state.heap i f has_i.0 has_i.1 f used_f

  used_then : (r : Ref) → IsInUse after.heap r → IsInUse state.heap r
  used_then r u = used_before_main state.heap i f has_i.0 has_i.1 r (used_before between f (prev.Pending a) f_between r (subst (λ x. IsInUse x r) heap u))

  between_used : (r : Ref) → IsInUse state.heap r → IsInUse between r
  between_used r u = used_after_main state.heap i f has_i.0 has_i.1 r u

  node_between : (r : Ref) → IsInUse state.heap r → node_at after.heap r ≡ node_at between r
  node_between r u = ap (λ x. node_at x r) heap ∙ node_still between f (prev.Pending a) f_between r (between_used r u)

  node_then : (r : Ref) → (r ≡ i → ⊥) → IsInUse state.heap r → node_at after.heap r ≡ node_at state.heap r
  node_then r other u = node_between r u ∙ node_still_main state.heap i f has_i.0 has_i.1 r other u

  prev_then : (r : Ref) → (r ≡ f → ⊥) → IsInUse state.heap r → prev_at after.heap r ≡ prev_at state.heap r
  prev_then r other u = ap (λ x. prev_at x r) heap ∙ prev_still between f (prev.Pending a) f_between r other (between_used r u) ∙ prev_still_main state.heap i f has_i.0 has_i.1 r u

  prev_f : prev_at after.heap f ≡ prev.Pending a
  prev_f = ap (λ x. prev_at x f) heap ∙ prev_is between f (prev.Pending a) f_between

  link_i : is_indirection (node_at after.heap i) ≡ true
  link_i = ap is_indirection (node_between i has_i.0) ∙ link_here state.heap i f has_i.0 has_i.1

  main_i : main_at after.heap i ≡ f
  main_i = ap main_of (node_between i has_i.0) ∙ main_is state.heap i f has_i.0 has_i.1

  link_then : (x : Ref) → HasIndirection after x → HasIndirection state x
  link_then x has = let u = used_then x has.0 in elim (cases_eq x i) [
    | inl same ↦ subst (HasIndirection state) (sym same) has_i
    | inr other ↦ (u, ap is_indirection (sym (node_then x other u)) ∙ has.1)
  ]

  main_then : (x : Ref) → (x ≡ i → ⊥) → IsInUse state.heap x → main_at after.heap x ≡ main_at state.heap x
  main_then x other u = ap main_of (node_then x other u)

  -- ---- what is taken over

  fresh_there : (b : ℕ) (q : Operation) (because : Purpose) (x y g : Ref) → operation_of state b ≡ Some q → q.line ≡ line.Swap because (swapping x y g) →
      (s ≡ step.Go b) ⊎ (s ≡ step.GiveUp b) → (x ≡ i) × (y ≡ a) × (g ≡ f)
  fresh_there b q because x y g runs_b on_b (inl by) =
      let same : step.Go b ≡ step.Go actor = sym by ∙ its in
      let place : b ≡ actor = cc same in
      let one : q ≡ operation = same_Some q operation (sym runs_b ∙ ap (operation_of state) place ∙ runs) in
      let both : act.Publish x y g ≡ act.Publish i a f = sym (publishes_then state q because x y g on_b) ∙ ap (action_of state) one ∙ publishes_then state operation why i a f on in
      (cc both, cc both, cc both)
  fresh_there b q because x y g runs_b on_b (inr by) = let same : step.GiveUp b ≡ step.Go actor = sym by ∙ its in let wrong : ⊥ = cc same in absurd wrong

  takes_fresh : (k : Ref) → is_owned held i a ≡ true → Contains (refs_of_node (node_at state.heap a)) k → TakesOver after later f k
  takes_fresh k owned names =
      over a (subst (λ v. Contains (refs_of_prev v) a) (sym prev_f) (0, omega arith, refl))
      (subst (λ n. Contains (refs_of_node n) k) (sym (node_then a (no_link a (meets_of claims.1.0)) (safe_of claims.1.0))) names)
      (λ x has at_x. elim (cases_eq x i) [
        | inl same ↦ subst (λ y. is_owned later y a ≡ true) (sym same) (grows i a owned)
        | inr other ↦
            let was = link_then x has in
            absurd (names_not x (main_named (node_at state.heap x) f was.1 (sym (main_then x other was.0) ∙ at_x)) was.0)
      ])

  swapped_kind : (b : ℕ) (q : Operation) (because : Purpose) (x y g : Ref) → operation_of state b ≡ Some q → q.line ≡ line.Swap because (swapping x y g) →
      IsInUse state.heap y × (meets AMain (node_at state.heap y) ≡ true)
  swapped_kind b q because x y g runs_b on_b =
      let wants = first_hold (IsInUse state.heap) state.heap (swap_wants (swapping x y g)) (purpose_wants because)
      (subst (λ l. AllHold (IsInUse state.heap) state.heap (line_wants state.limits.hash q.call q.access l)) on_b (line_finds state (safe_along limits ok xs) b q runs_b)) in
      (safe_of wants.1.0, meets_of wants.1.0)

  still_takes : (j k : Ref) → IsInUse state.heap j → TakesOver state held j k → TakesOver after later j k
  still_takes j k u (fresh b q because x y runs_b on_b owned names) = elim (cases_eq b actor) [
    | inl place ↦
        let one : q ≡ operation = same_Some q operation (sym runs_b ∙ ap (operation_of state) place ∙ runs) in
        let both : act.Publish x y j ≡ act.Publish i a f = sym (publishes_then state q because x y j on_b) ∙ ap (action_of state) one ∙ publishes_then state operation why i a f on in
        let at_i : x ≡ i = cc both in
        let on_a : y ≡ a = cc both in
        let of_f : j ≡ f = cc both in
        subst (λ g. TakesOver after later g k) (sym of_f)
        (takes_fresh k (subst (λ z. is_owned held z a ≡ true) at_i (subst (λ z. is_owned held x z ≡ true) on_a owned)) (subst (λ z. Contains (refs_of_node (node_at state.heap z)) k) on_a names))
    | inr apart ↦ elim (still_publishes state s o after m (λ g. g ≡ f) (λ c r why_r v w g runs_r on_r by. (fresh_there c r why_r v w g runs_r on_r by).2) b q because x y j runs_b on_b) [
      | inl (then, runs_now, on_now) ↦
          let (y_used, y_main) = swapped_kind b q because x y j runs_b on_b in
          fresh b then because x y runs_now on_now (grows x y owned) (subst (λ n. Contains (refs_of_node n) k) (sym (node_then y (no_link y y_main) y_used)) names)
      | inr of_f ↦
          absurd (fresh_apart limits xs ok b actor q operation x y i a f because why runs_b runs (subst (λ g. q.line ≡ line.Swap because (swapping x y g)) of_f on_b) on apart)
    ]
  ]
  still_takes j k u (over y is names all) =
      let apart : j ≡ f → ⊥ = λ same. stands_not_over y (subst (λ z. Contains (refs_of_prev (prev_at state.heap z)) y) same is) in
      let y_used = prev_used limits xs ok j y u is in
      let y_main = stood_main limits xs ok j y u is in
      over y (subst (λ v. Contains (refs_of_prev v) y) (sym (prev_then j apart u)) is) (subst (λ n. Contains (refs_of_node n) k) (sym (node_then y (no_link y y_main) y_used)) names)
      (λ x has at_x. elim (cases_eq x i) [
        | inl same ↦ absurd (apart (sym (sym main_i ∙ ap (main_at after.heap) (sym same) ∙ at_x)))
        | inr other ↦ let was = link_then x has in grows x y (all x was (sym (main_then x other was.0) ∙ at_x))
      ])

  -- ---- all of it

  nodes_then : (j k : Ref) → IsInUse after.heap j → Contains (refs_of_node (node_at after.heap j)) k → Has later (OfNode j) k ⊎ (Lost j ⊎ TakesOver after later j k)
  nodes_then j k u c =
      let was = used_then j u in
      elim (cases_eq j i) [
        | inl same ↦
            let at_i = subst (λ y. Contains (refs_of_node (node_at after.heap y)) k) same c in
            let of_f : f ≡ k = sym main_i ∙ link_names (node_at after.heap i) k link_i at_i in
            inl (subst (λ y. Has later (OfNode y) k) (sym same) (subst (λ y. Has later (OfNode i) y) of_f holds_fresh))
        | inr other ↦ elim (h.nodes j k was (subst (λ n. Contains (refs_of_node n) k) (node_then j other was) c)) [
          | inl has ↦ inl (keeps j k has)
          | inr another ↦ elim another [ inl gone ↦ inr (inl (lost j gone)) | inr takes ↦ inr (inr (still_takes j k was takes)) ]
        ]
      ]

  -- the indirection held the one before
  holds_before : Has later (OfNode i) a ⊎ Lost i
  holds_before = elim (h.nodes i a has_i.0 (named (node_at state.heap i) has_i.1 hit)) [
    | inl has ↦ inl (keeps i a has)
    | inr other ↦ elim other [ inl gone ↦ inr (lost i gone) | inr takes ↦ absurd (takes_not takes) ]
  ]
    where
      named : (n : Node) → is_indirection n ≡ true → main_of n ≡ a → Contains (refs_of_node n) a
      named (Indirection generation main) e same = (0, omega arith, same)
      named (Branch bitmap entries) e same = absurd (true≢false (sym e))
      named (Single key value) e same = absurd (true≢false (sym e))
      named (Tomb single) e same = absurd (true≢false (sym e))
      named (Listed singles) e same = absurd (true≢false (sym e))

      takes_not : TakesOver state held i a → ⊥
      takes_not (fresh b q because x y runs_b on_b owned names) = no_link i (claim limits xs ok b q runs_b x y i because on_b).1 refl
      takes_not (over y is names all) = no_link i (is_main limits xs ok i y has_i.0 is) refl

  before_then : (x y : Ref) → HasIndirection after x → Contains (refs_of_prev (prev_at after.heap (main_at after.heap x))) y → Has later (OfNode x) y ⊎ Lost x
  before_then x y has c = elim (cases_eq x i) [
    | inl same ↦
        let at_f = subst (λ v. Contains (refs_of_prev v) y) (ap (prev_at after.heap) (ap (main_at after.heap) same ∙ main_i) ∙ prev_f) c in
        let of_a = one_in (λ z. a ≡ z) a refl y at_f in
        subst (λ z. Has later (OfNode z) y ⊎ Lost z) (sym same) (subst (λ z. Has later (OfNode i) z ⊎ Lost i) of_a holds_before)
    | inr other ↦
        let was = link_then x has in
        let same_main = main_then x other was.0 in
        let main_used = main_in_use limits xs ok x was.0 was.1 in
        let apart : main_at state.heap x ≡ f → ⊥ = λ e. names_not x (named (node_at state.heap x) was.1 e) was.0 in
        elim (h.before x y was (subst (λ v. Contains (refs_of_prev v) y) (ap (prev_at after.heap) same_main ∙ prev_then (main_at state.heap x) apart main_used) c)) [
          | inl has_then ↦ inl (keeps x y has_then)
          | inr gone ↦ inr (lost x gone)
        ]
  ]
    where
      named : (n : Node) → is_indirection n ≡ true → main_of n ≡ f → Contains (refs_of_node n) f
      named (Indirection generation main) e same = (0, omega arith, same)
      named (Branch bitmap entries) e same = absurd (true≢false (sym e))
      named (Single key value) e same = absurd (true≢false (sym e))
      named (Tomb single) e same = absurd (true≢false (sym e))
      named (Listed singles) e same = absurd (true≢false (sym e))

  handles : (handle : ℕ) (r : Ref) → Has held (OfHandle handle) r → Has later (OfHandle handle) r
  handles handle r has = stays change held (OfHandle handle) (OfHandle handle) r has refl

  pub swaps_in : EachIsHeld after later Lost
  swaps_in = record {
    roots = roots_still state after held later (WasDropped limits xs) h roots handles;
    successors = successors_still state after held later (WasDropped limits xs) h roots handles;
    seconds = seconds_still state after held later (WasDropped limits xs) h roots handles;
    nodes = nodes_then;
    before = before_then;
  }
