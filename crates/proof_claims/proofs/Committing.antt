-- A step that commits a main node: from then on it holds what it took over, and the one before holds nothing any more, if that was the indirection's own.
use Rattle.std.proofs.Common.{◌≡◌, ◌⊎◌, inl, inr, ℕ, ◌&&◌, Bool, true, false, List, [], ◌∷◌, ◌++◌, Contains, cond, Option, Some, refl, sym, ap, subst, ◌∙◌, arith}
use Rattle.std.proofs.lemmas.Bool.{cases_eq, true≢false}
use Rattle.proof_claims.specs.Beneath.slot_arena.specs.declared.nodes.Prev.TheVariants as prev
use Rattle.proof_claims.specs.Beneath.slot_arena.specs.declared.refs.Ref.{Ref}
use Rattle.proof_claims.specs.Beneath.slot_arena.specs.Heaps.{main_at, node_at, prev_at, refs_of_node, refs_of_prev, with_prev}
use Rattle.proof_claims.specs.Beneath.machine_model.specs.declared.actions.Action.TheVariants as act
use Rattle.proof_claims.specs.Beneath.machine_model.specs.declared.operations.Operation.{Operation}
use Rattle.proof_claims.specs.Beneath.machine_model.specs.declared.steps.Bounds.{Bounds}
use Rattle.proof_claims.specs.Beneath.machine_model.specs.declared.steps.Outcome.{Outcome}
use Rattle.proof_claims.specs.Beneath.machine_model.specs.declared.steps.Step.{Step}
use Rattle.proof_claims.specs.Beneath.machine_model.specs.declared.steps.Step.TheVariants as step
use Rattle.proof_claims.specs.Beneath.machine_model.specs.Machine.{AreBounds, run}
use Rattle.proof_claims.specs.Beneath.machine_model.specs.Moves.{Moves}
use Rattle.proof_claims.specs.Beneath.machine_model.specs.Operations.{action_of}
use Rattle.proof_claims.specs.Beneath.machine_model.specs.Reading.{Commits}
use Rattle.proof_claims.specs.Beneath.machine_model.specs.States.{State, operation_of}
use Rattle.proof_claims.specs.Beneath.proof_commits.specs.Runs.{HasIndirection}
use Rattle.proof_claims.specs.Beneath.proof_memory.specs.Laws.{IsInUse}
use Rattle.proof_claims.specs.Beneath.proof_garbage.proofs.Claims.{none_in}
use Rattle.proof_claims.specs.Beneath.proof_garbage.proofs.Fresh.{deciding_met}
use Rattle.proof_claims.specs.Held.{Change, Held, Stays, OfHandle, OfNode, held_after, is_by_nodes, is_in, is_owned}
use Rattle.proof_claims.specs.Changes.{decides, no_change}
use Rattle.proof_claims.specs.Claims.{Has, held_of}
use Rattle.proof_claims.specs.Clauses.{EachIsHeld, TakesOver, fresh, over}
use Rattle.proof_claims.specs.Dropped.{WasDropped}
use Rattle.proof_claims.proofs.Along.{dropped_later, own_still, stays}
use Rattle.proof_claims.proofs.Frame.{roots_still, same_has, seconds_still, successors_still}
use Rattle.proof_claims.proofs.FromRoots.{main_in_use, takes_nothing}
use Rattle.proof_claims.proofs.Letting.{the_one}
use Rattle.proof_claims.proofs.Lists.{found_in}
use Rattle.proof_claims.proofs.Deciding as d

module _ (limits : Bounds) (xs : List Step) (ok : AreBounds limits) (s : Step) (o : Outcome) (after : State) (m : Moves (run limits xs) s o after)
    (h : EachIsHeld (run limits xs) (held_of limits xs) (WasDropped limits xs)) (actor : ℕ) (operation : Operation) (runs : operation_of (run limits xs) actor ≡ Some operation)
    (its : s ≡ step.Go actor) (roots : after.roots ≡ (run limits xs).roots) (i f p : Ref) (told : Option ℕ) (acts : action_of (run limits xs) operation ≡ act.Decide i f p told)
    (pending : prev_at (run limits xs).heap f ≡ prev.Pending p) (heap : after.heap ≡ with_prev (run limits xs).heap f prev.None) where
  abbrev state : State
  state = run limits xs

  abbrev held : Held
  held = held_of limits xs

  abbrev Lost : Ref → Type 0
  Lost j = WasDropped limits (xs ++ s ∷ []) j

  lost : (j : Ref) → WasDropped limits xs j → Lost j
  lost j gone = dropped_later limits xs s j gone

  used_f : IsInUse state.heap f
  used_f = d.used_f limits xs ok s o after m h actor operation runs its roots i f p told acts pending

  used_p : IsInUse state.heap p
  used_p = d.used_p limits xs ok s o after m h actor operation runs its roots i f p told acts pending

  has_i : HasIndirection state i
  has_i = d.has_i limits xs ok s o after m h actor operation runs its roots i f p told acts pending

  stands : main_at state.heap i ≡ f
  stands = d.stands limits xs ok s o after m h actor operation runs its roots i f p told acts pending

  over_p : Contains (refs_of_prev (prev_at state.heap f)) p
  over_p = d.over_p limits xs ok s o after m h actor operation runs its roots i f p told acts pending

  module _ (later : Held) (grows : (j x : Ref) → is_owned held j x ≡ true → is_owned later j x ≡ true) where
    used_then : (r : Ref) → IsInUse after.heap r → IsInUse state.heap r
    used_then r u = d.used_then limits xs ok s o after m h actor operation runs its roots i f p told acts pending prev.None heap later grows r u

    names_then : (r k : Ref) → IsInUse state.heap r → Contains (refs_of_node (node_at after.heap r)) k → Contains (refs_of_node (node_at state.heap r)) k
    names_then r k u c = subst (λ n. Contains (refs_of_node n) k) (d.node_then limits xs ok s o after m h actor operation runs its roots i f p told acts pending prev.None heap later grows r u) c

    takes_then : (j k : Ref) → (j ≡ f → ⊥) → IsInUse state.heap j → TakesOver state held j k → Lost j ⊎ TakesOver after later j k
    takes_then j k other u t = d.still_takes limits xs ok s o after m h actor operation runs its roots i f p told acts pending prev.None heap later grows j k other u t

    -- over what an indirection's main node stands afterwards it stood before
    before_then : (x y : Ref) → HasIndirection after x → Contains (refs_of_prev (prev_at after.heap (main_at after.heap x))) y →
        HasIndirection state x × Contains (refs_of_prev (prev_at state.heap (main_at state.heap x))) y
    before_then x y has c =
        let was = d.link_then limits xs ok s o after m h actor operation runs its roots i f p told acts pending prev.None heap later grows x has in
        let at_x = d.main_then limits xs ok s o after m h actor operation runs its roots i f p told acts pending prev.None heap later grows x was.0 in
        let there = subst (λ z. Contains (refs_of_prev (prev_at after.heap z)) y) at_x c in
        elim (cases_eq (main_at state.heap x) f) [
          | inl same ↦
              let none = ap (λ z. prev_at after.heap z) same ∙ d.prev_f limits xs ok s o after m h actor operation runs its roots i f p told acts pending prev.None heap later grows in
              none_in y (subst (λ v. Contains (refs_of_prev v) y) none there)
          | inr other ↦ (
            was,
            subst (λ v. Contains (refs_of_prev v) y)
                (d.prev_then limits xs ok s o after m h actor operation runs its roots i f p told acts pending prev.None heap later grows (main_at state.heap x) other
                (main_in_use limits xs ok x was.0 was.1))
                there,
          )
        ]

    -- what the fresh node took over
    took : (k : Ref) → TakesOver state held f k → Contains (refs_of_node (node_at state.heap p)) k × (is_owned held i p ≡ true)
    took k (fresh b q because x y runs_b on_b owned names) = absurd (deciding_met limits xs ok actor operation i f p told runs acts b q x y because runs_b on_b)
    took k (over y is names all) =
        let same = d.only_p limits xs ok s o after m h actor operation runs its roots i f p told acts pending y is in
        (subst (λ z. Contains (refs_of_node (node_at state.heap z)) k) (sym same) names, subst (λ z. is_owned held i z ≡ true) (sym same) (all i has_i stands))

  -- ---- over one that is shared

  module _ (shared : is_owned held i p ≡ false) where
    abbrev same_held : Held
    same_held = held_after no_change held

    nodes_shared : (j k : Ref) → IsInUse after.heap j → Contains (refs_of_node (node_at after.heap j)) k → Has same_held (OfNode j) k ⊎ (Lost j ⊎ TakesOver after same_held j k)
    nodes_shared j k u c =
        let was = used_then same_held (own_still no_change held) j u in
        elim (h.nodes j k was (names_then same_held (own_still no_change held) j k was c)) [
          | inl has ↦ inl (same_has held (OfNode j) k has)
          | inr other ↦ elim other [
            | inl gone ↦ inr (inl (lost j gone))
            | inr takes ↦ elim (cases_eq j f) [
              | inl same ↦ absurd (true≢false (sym (took same_held (own_still no_change held) k (subst (λ y. TakesOver state held y k) same takes)).1 ∙ shared))
              | inr apart ↦ inr (takes_then same_held (own_still no_change held) j k apart was takes)
            ]
          ]
        ]

    pub commits_shared : EachIsHeld after same_held Lost
    commits_shared = record {
      roots = roots_still state after held same_held (WasDropped limits xs) h roots (λ handle r has. same_has held (OfHandle handle) r has);
      successors = successors_still state after held same_held (WasDropped limits xs) h roots (λ handle r has. same_has held (OfHandle handle) r has);
      seconds = seconds_still state after held same_held (WasDropped limits xs) h roots (λ handle r has. same_has held (OfHandle handle) r has);
      nodes = nodes_shared;
      before = λ x y has c.
          let (was, there) = before_then same_held (own_still no_change held) x y has c in
          elim (h.before x y was there) [ inl has_then ↦ inl (same_has held (OfNode x) y has_then) | inr gone ↦ inr (lost x gone) ];
    }

  -- ---- over the indirection's own one

  module _ (standing : WasDropped limits xs p → ⊥) (p_lost : Lost p) where
    abbrev names : List Ref
    names = refs_of_node (node_at state.heap f)

    abbrev change : Change
    change = decides true Commits names f p

    abbrev later : Held
    later = held_after change held

    of_fresh : (b : Bool) → cond b (Stays (OfNode f)) (Stays (OfNode f)) ≡ Stays (OfNode f)
    of_fresh true = refl
    of_fresh false = refl

    fresh_keeps : (k : Ref) → Has held (OfNode f) k → Has later (OfNode f) k
    fresh_keeps k has = stays change held (OfNode f) (OfNode f) k has (of_fresh (is_by_nodes (p ∷ []) (OfNode f) && is_in names k))

    fresh_takes : (k : Ref) → Contains names k → Has held (OfNode p) k → Has later (OfNode f) k
    fresh_takes k c has = stays change held (OfNode p) (OfNode f) k has (rw (found_in (p ∷ []) p (0, omega arith, refl)) (rw (found_in names k c) refl))

    other_keeps : (j k : Ref) (b : Bool) → is_in (p ∷ []) j ≡ b → (j ≡ p → ⊥) → Has held (OfNode j) k → Has later (OfNode j) k
    other_keeps j k true e apart has = absurd (apart (sym (the_one p j e)))
    other_keeps j k false e apart has = stays change held (OfNode j) (OfNode j) k has (rw e refl)

    keeps : (j k : Ref) → Has held (OfNode j) k → Has later (OfNode j) k ⊎ Lost j
    keeps j k has = elim (cases_eq j p) [ inl same ↦ inr (subst Lost (sym same) p_lost) | inr apart ↦ inl (other_keeps j k _ refl apart has) ]

    fresh_held : (k : Ref) → Contains names k → Has later (OfNode f) k ⊎ (Lost f ⊎ TakesOver after later f k)
    fresh_held k c = elim (h.nodes f k used_f c) [
      | inl has ↦ inl (fresh_keeps k has)
      | inr other ↦ elim other [
        | inl gone ↦ inr (inl (lost f gone))
        | inr takes ↦
            let stood = took later (own_still change held) k takes in
            elim (h.nodes p k used_p stood.0) [
              | inl has ↦ inl (fresh_takes k c has)
              | inr another ↦ elim another [ inl gone ↦ absurd (standing gone) | inr t ↦ absurd (takes_nothing limits xs ok held f p k used_f used_p over_p t) ]
            ]
      ]
    ]

    nodes_own : (j k : Ref) → IsInUse after.heap j → Contains (refs_of_node (node_at after.heap j)) k → Has later (OfNode j) k ⊎ (Lost j ⊎ TakesOver after later j k)
    nodes_own j k u c =
        let was = used_then later (own_still change held) j u in
        let there = names_then later (own_still change held) j k was c in
        elim (cases_eq j f) [
          | inl same ↦
              subst (λ y. Has later (OfNode y) k ⊎ (Lost y ⊎ TakesOver after later y k)) (sym same) (fresh_held k (subst (λ y. Contains (refs_of_node (node_at state.heap y)) k) same there))
          | inr apart ↦ elim (h.nodes j k was there) [
            | inl has ↦ elim (keeps j k has) [ inl now ↦ inl now | inr is_lost ↦ inr (inl is_lost) ]
            | inr other ↦ elim other [ inl gone ↦ inr (inl (lost j gone)) | inr takes ↦ inr (takes_then later (own_still change held) j k apart was takes) ]
          ]
        ]

    handles : (handle : ℕ) (r : Ref) → Has held (OfHandle handle) r → Has later (OfHandle handle) r
    handles handle r has = stays change held (OfHandle handle) (OfHandle handle) r has refl

    pub commits_own : EachIsHeld after later Lost
    commits_own = record {
      roots = roots_still state after held later (WasDropped limits xs) h roots handles;
      successors = successors_still state after held later (WasDropped limits xs) h roots handles;
      seconds = seconds_still state after held later (WasDropped limits xs) h roots handles;
      nodes = nodes_own;
      before = λ x y has c.
          let (was, there) = before_then later (own_still change held) x y has c in
          elim (h.before x y was there) [ inl has_then ↦ keeps x y has_then | inr gone ↦ inr (lost x gone) ];
    }
