-- What an operation gives up that it made and nobody met is dead then.
use Rattle.std.proofs.Common.{◌≡◌, ◌==◌, append-nil, ℕ, suc, true, false, List, [], ◌∷◌, ◌++◌, Contains, Option, Some, None, get_or, refl, sym, ap, subst, ◌∙◌, inl, inr}
use Rattle.std.proofs.lemmas.Bool.{cases_eq, true≢false}
use Rattle.std.proofs.lemmas.List.Elements.{Contains-append_cases}
use Rattle.std.proofs.lemmas.Option.{same_Some}
use Rattle.proof_garbage.specs.Beneath.slot_arena.specs.declared.refs.Ref.{Ref}
use Rattle.proof_garbage.specs.Beneath.slot_arena.specs.declared.nodes.Node.{Node}
use Rattle.proof_garbage.specs.Beneath.slot_arena.specs.declared.nodes.Node.TheVariants.{Indirection, Branch, Single, Tomb, List as Listed}
use Rattle.proof_garbage.specs.Beneath.slot_arena.specs.declared.nodes.Prev.{Prev}
use Rattle.proof_garbage.specs.Beneath.slot_arena.specs.declared.nodes.Prev.TheVariants as prev
use Rattle.proof_garbage.specs.Beneath.slot_arena.specs.declared.nodes.Slot.{Slot}
use Rattle.proof_garbage.specs.Beneath.slot_arena.specs.Heaps.{stored, main_at, node_at, prev_at, refs_of_node, refs_of_prev, refs_of_slot}
use Rattle.proof_garbage.specs.Beneath.machine_model.specs.declared.lines.Line.TheVariants as line
use Rattle.proof_garbage.specs.Beneath.machine_model.specs.declared.lines.Purpose.{Purpose}
use Rattle.proof_garbage.specs.Beneath.machine_model.specs.declared.operations.Operation.{Operation}
use Rattle.proof_garbage.specs.Beneath.machine_model.specs.declared.roots.Root.{Root}
use Rattle.proof_garbage.specs.Beneath.machine_model.specs.declared.steps.Bounds.{Bounds}
use Rattle.proof_garbage.specs.Beneath.machine_model.specs.declared.steps.Step.{Step}
use Rattle.proof_garbage.specs.Beneath.machine_model.specs.Counting.{refs_of_root}
use Rattle.proof_garbage.specs.Beneath.machine_model.specs.Grown.{standing}
use Rattle.proof_garbage.specs.Beneath.machine_model.specs.Machine.{AreBounds, run}
use Rattle.proof_garbage.specs.Beneath.machine_model.specs.States.{State, operation_of, root_at}
use Rattle.proof_garbage.specs.Beneath.machine_model.specs.Swapping.{swapping, after_publish, on_line}
use Rattle.proof_garbage.specs.Beneath.machine_model.specs.Operations.{action_of, line_action, line_after, after_swap, swapped}
use Rattle.proof_garbage.specs.Beneath.machine_model.specs.Acting.{operation_after, private_after}
use Rattle.proof_garbage.specs.Beneath.machine_model.specs.declared.lines.Purpose.TheVariants as purpose
use Rattle.proof_garbage.specs.Beneath.machine_model.specs.declared.repairs.Climb.{Climb}
use Rattle.proof_garbage.specs.Beneath.slot_arena.specs.Refs.{ref_to, slot_of}
use Rattle.proof_garbage.specs.Beneath.machine_model.proofs.Fates.{place_of_actor}
use Rattle.proof_garbage.specs.Beneath.machine_model.proofs.Grown.{prev_standing}
use Rattle.proof_garbage.specs.Beneath.proof_memory.specs.Laws.{IsInUse}
use Rattle.proof_garbage.specs.Beneath.proof_memory.specs.Wants.{Wanted, AnIndirection, AnEntry, ASingle, AMain, swap_wants, purpose_wants, AllHold, meets, is_main_node, node_wants, prev_wants}
use Rattle.proof_garbage.specs.Beneath.proof_memory.specs.Wants.{line_wants, climb_carries}
use Rattle.proof_garbage.specs.Beneath.proof_memory.proofs.Claims.Uses.{safe_of, meets_of, all_of, first_hold, last_hold}
use Rattle.proof_garbage.specs.Beneath.proof_memory.proofs.Safety.AtEachTime.{safe_along}
use Rattle.proof_garbage.specs.Beneath.proof_memory.proofs.Safety.AtTimes.{line_finds}
use Rattle.proof_garbage.specs.Beneath.proof_memory.proofs.Safety.States.{IsSafe}
use Rattle.proof_garbage.specs.Beneath.proof_memory.proofs.Safety.Standing.{stored_stands, none_contained}
use Rattle.proof_garbage.specs.Beneath.proof_commits.proofs.Words.Stood.{IsOver, Stood, over_pending, over_failed}
use Rattle.proof_garbage.specs.Beneath.proof_generations.proofs.Roots.OfLists.{has_handles_along}
use Rattle.proof_garbage.specs.Live.{refs_of_claims, at_hand, IsKnown, IsLive, from_root, from_operation, from_slot}
use Rattle.proof_garbage.proofs.Fresh.{fresh, fresh_nowhere, prev_word_of, sound}
use Rattle.proof_garbage.proofs.Claims.{one_in}
use Rattle.proof_garbage.proofs.Private.{Others, private_along}
use Rattle.proof_garbage.proofs.Restoring.{last, w}
use Rattle.proof_garbage.proofs.Swaps.{IsAlone, LineOwns, owns_along}

module _ (limits : Bounds) (steps : List Step) (ok : AreBounds limits) (actor : ℕ) (operation : Operation) (runs : operation_of (run limits steps) actor ≡ Some operation) where
  abbrev state : State
  state = run limits steps

  safe : IsSafe state
  safe = safe_along limits ok steps

  -- all but the actor's operation is as it was
  pub record SameElsewhere (after : State) : Type 0 where
    pub roots : after.roots ≡ state.roots
    pub heap : after.heap ≡ state.heap
    pub bounds : after.limits ≡ state.limits
    pub others : (a : ℕ) → (a ≡ actor → ⊥) → operation_of after a ≡ operation_of state a

  pub other_id : (a : ℕ) (o : Operation) → (a ≡ actor → ⊥) → operation_of state a ≡ Some o → Others operation.id o.id
  other_id a o apart is same =
      let (j, its, at_j) = place_of_actor state a o is in
      let (k, own, at_k) = place_of_actor state actor operation runs in
      apart (its ∙ ap suc ((has_handles_along limits steps).0.ids.distinct j k o operation at_j at_k same) ∙ sym own)

  -- what is private to it is known to no one else
  pub private_known : (x : Ref) → Contains operation.private x → IsKnown state (Others operation.id) x → ⊥
  private_known x c known = let (k, own, at_k) = place_of_actor state actor operation runs in private_along limits ok steps k operation at_k x c known

  module _ (after : State) (same : SameElsewhere after) where
    stored_same : (q : Ref) → stored after.heap q ≡ stored state.heap q
    stored_same q = ap (λ h. stored h q) same.heap

    hand_same : (o : Operation) → at_hand after o ≡ at_hand state o
    hand_same o = ap (λ (l : Bounds). at_hand (record state { limits = l }) o) same.bounds

    root_same : (handle : ℕ) → root_at after handle ≡ root_at state handle
    root_same handle = ap (λ (roots : List (Option Root)). get_or roots handle None) same.roots

    -- ---- where the operation has nothing at hand then

    module _ (empty : (o : Operation) → operation_of after actor ≡ Some o → (r : Ref) → Contains (at_hand after o) r → ⊥) where
      others_know : {r : Ref} → IsLive after r → IsKnown state (Others operation.id) r
      others_know (from_root handle r c) = from_root handle r (subst (λ o. Contains (refs_of_root o) r) (root_same handle) c)
      others_know (from_operation a o r e p c) = elim (cases_eq a actor) [
        | inl its ↦ absurd (empty o (ap (operation_of after) (sym its) ∙ e) r c)
        | inr apart ↦
            let was = sym (same.others a apart) ∙ e in from_operation a o r was (other_id a o apart was) (subst (λ rs. Contains rs r) (hand_same o) c)
      ]
      others_know (from_slot q r k c) = from_slot q r (others_know k) (subst (λ o. Contains (refs_of_slot o) r) (stored_same q) c)

      pub dead_with_nothing : (x : Ref) → Contains operation.private x → IsLive after x → ⊥
      dead_with_nothing x c live = private_known x c (others_know live)

  -- ---- a fresh main node that isn't swapped in

  module _ (i a f : Ref) (why : Purpose) (on : operation.line ≡ line.Swap why (swapping i a f)) where
    pub claim : IsInUse state.heap f × (meets AMain (node_at state.heap f) ≡ true)
    claim =
        let claims = subst (λ l. AllHold (IsInUse state.heap) state.heap (line_wants state.limits.hash operation.call operation.access l)) on (line_finds state safe actor operation runs) in
        (safe_of claims.1.1.0, meets_of claims.1.1.0)

    -- what is no main node is another one
    other_kind : (wanted : Wanted) → ((node : Node) → meets wanted node ≡ true → is_main_node node ≡ true → ⊥) → (r : Ref) → meets wanted (node_at state.heap r) ≡ true → r ≡ f → ⊥
    other_kind wanted differ r is same = differ (node_at state.heap f) (subst (λ x. meets wanted (node_at state.heap x) ≡ true) same is) claim.1

    entry_differs : (node : Node) → meets AnEntry node ≡ true → is_main_node node ≡ true → ⊥
    entry_differs (Indirection generation main) e m = true≢false (sym m)
    entry_differs (Branch bitmap entries) e m = true≢false (sym e)
    entry_differs (Single key value) e m = true≢false (sym m)
    entry_differs (Tomb single) e m = true≢false (sym e)
    entry_differs (Listed singles) e m = true≢false (sym e)

    link_differs : (node : Node) → meets AnIndirection node ≡ true → is_main_node node ≡ true → ⊥
    link_differs (Indirection generation main) e m = true≢false (sym m)
    link_differs (Branch bitmap entries) e m = true≢false (sym e)
    link_differs (Single key value) e m = true≢false (sym m)
    link_differs (Tomb single) e m = true≢false (sym e)
    link_differs (Listed singles) e m = true≢false (sym e)

    single_differs : (node : Node) → meets ASingle node ≡ true → is_main_node node ≡ true → ⊥
    single_differs (Indirection generation main) e m = true≢false (sym m)
    single_differs (Branch bitmap entries) e m = true≢false (sym e)
    single_differs (Single key value) e m = true≢false (sym m)
    single_differs (Tomb single) e m = true≢false (sym e)
    single_differs (Listed singles) e m = true≢false (sym e)

    node_names_not : (q : Ref) (slot : Slot) → standing state.heap q ≡ Some slot → (node : Node) → slot.node ≡ node → AllHold (IsInUse state.heap) state.heap (node_wants node) →
        Contains (refs_of_node node) f → ⊥
    node_names_not q slot stands (Indirection generation main) is h c =
        one_in (λ r. r ≡ f → ⊥) main (λ same. fresh_nowhere limits steps ok actor operation i a f why runs on q slot generation stands (is ∙ ap (Indirection generation) same)) f c refl
    node_names_not q slot stands (Branch bitmap entries) is h (k, within, at_k) = other_kind AnEntry entry_differs (get_or entries.items k f) (all_of h.0 k f within).1 at_k
    node_names_not q slot stands (Single key value) is h c = none_contained f c
    node_names_not q slot stands (Tomb single) is h c = one_in (λ r. r ≡ f → ⊥) single (other_kind ASingle single_differs single (meets_of h.0)) f c refl
    node_names_not q slot stands (Listed singles) is h (k, within, at_k) = other_kind ASingle single_differs (get_or singles.items k f) (all_of h.0 k f within).1 at_k

    over_not : (q p : Ref) → IsInUse state.heap q → IsOver (prev_at state.heap q) p → p ≡ f → ⊥
    over_not q p used over same =
        let below = (sound limits steps ok).words.over q p (subst (λ v. IsOver v p) (sym (prev_word_of limits steps ok q used)) over) in
        (fresh limits steps ok actor operation i a f why runs on).apart below.link (subst (λ x. Stood (w limits steps ok) (last limits steps ok) below.link x) same below.before)

    prev_names_not : (q : Ref) → IsInUse state.heap q → (p : Prev) → prev_at state.heap q ≡ p → Contains (refs_of_prev p) f → ⊥
    prev_names_not q used prev.None is c = none_contained f c
    prev_names_not q used (prev.Pending p) is c = one_in (λ r. r ≡ f → ⊥) p (over_not q p used (over_pending is)) f c refl
    prev_names_not q used (prev.Failed p) is c = one_in (λ r. r ≡ f → ⊥) p (over_not q p used (over_failed is)) f c refl

    -- no slot names it
    slot_by : (q : Ref) (o : Option Slot) → stored state.heap q ≡ o → Contains (refs_of_slot o) f → ⊥
    slot_by q None e c = none_contained f c
    slot_by q (Some slot) e c =
        let r = ref_to slot.birth (slot_of q) in
        let stands = stored_stands state safe q slot e in
        elim (Contains-append_cases (refs_of_node slot.node) (refs_of_prev slot.prev) f c) [
          | inl in_node ↦ node_names_not r slot stands slot.node refl (first_hold (IsInUse state.heap) state.heap (node_wants slot.node) (prev_wants slot.prev) (safe.nodes r slot stands).0) in_node
          | inr in_prev ↦ prev_names_not r (slot, stands) slot.prev (prev_standing state.heap r slot stands) in_prev
        ]

    pub slot_names_not : (q : Ref) → Contains (refs_of_slot (stored state.heap q)) f → ⊥
    slot_names_not q c = slot_by q (stored state.heap q) refl c

    its : Contains operation.private f × IsAlone why operation.private f
    its = let (k, own, at_k) = place_of_actor state actor operation runs in subst (λ l. LineOwns l operation.private) on (owns_along limits steps k operation at_k)

    pub fresh_private : Contains operation.private f
    fresh_private = its.0

    pub fresh_alone : IsAlone why operation.private f
    fresh_alone = its.1

    -- nor does what a CLIMB carries
    carries_not : (c : Climb) → AllHold (IsInUse state.heap) state.heap (climb_carries c) → Contains (refs_of_claims (climb_carries c)) f → ⊥
    carries_not c h d = elim (Contains-append_cases c.path (c.single ∷ []) f d) [
      | inl (k, within, at_k) ↦ other_kind AnIndirection link_differs (get_or c.path k f) (all_of h.0 k f within).1 at_k
      | inr at_end ↦ one_in (λ r. r ≡ f → ⊥) c.single (other_kind ASingle single_differs c.single (meets_of h.1.1.0)) f at_end refl
    ]

    module _ (after : State) (same : SameElsewhere after) where
      fresh_dead_by : ((o : Operation) → operation_of after actor ≡ Some o → Contains (at_hand after o) f → ⊥) → (r : Ref) → IsLive after r → r ≡ f → ⊥
      fresh_dead_by own r (from_root handle q c) is =
          private_known f fresh_private (from_root handle f (subst (λ o. Contains (refs_of_root o) f) (root_same after same handle) (subst (Contains (refs_of_root (root_at after handle))) is c)))
      fresh_dead_by own r (from_operation n o q e p c) is =
          let c' = subst (Contains (at_hand after o)) is c in
          elim (cases_eq n actor) [
            | inl its ↦ own o (ap (operation_of after) (sym its) ∙ e) c'
            | inr apart ↦
                let was = sym (same.others n apart) ∙ e in
                private_known f fresh_private (from_operation n o f was (other_id n o apart was) (subst (λ rs. Contains rs f) (hand_same after same o) c'))
          ]
      fresh_dead_by own r (from_slot q x k c) is = slot_names_not q (subst (λ o. Contains (refs_of_slot o) f) (stored_same after same q) (subst (Contains (refs_of_slot (stored after.heap q))) is c))

      -- where the swap-in misses, all that was made for it is dead
      module _ (runs_then : operation_of after actor ≡ Some (operation_after state operation)) (missed : (main_at state.heap i == a) ≡ false) where
        line_is : line_after state operation operation.line ≡ swapped operation (node_at state.heap f) why false
        line_is =
            ap (line_after state operation) on
            ∙ ap (λ b. after_swap state operation why (swapping i a f) (on_line (swapping i a f) (after_publish f b))) missed

        private_is : private_after state operation.private (action_of state operation) ≡ []
        private_is = ap (λ l. private_after state operation.private (line_action state operation l)) on

        hand_is : (o : Operation) → operation_of after actor ≡ Some o →
            at_hand after o ≡ refs_of_claims (line_wants state.limits.hash operation.call operation.access (swapped operation (node_at state.heap f) why false)) ++ []
        hand_is o e =
            hand_same after same o ∙ ap (at_hand state) (same_Some o (operation_after state operation) (sym e ∙ runs_then))
            ∙ ap (λ l. refs_of_claims (line_wants state.limits.hash operation.call operation.access l) ++ private_after state operation.private (action_of state operation)) line_is
            ∙ ap (λ own. refs_of_claims (line_wants state.limits.hash operation.call operation.access (swapped operation (node_at state.heap f) why false)) ++ own) private_is

        carried : AllHold (IsInUse state.heap) state.heap (purpose_wants why)
        carried = last_hold (IsInUse state.heap) state.heap (swap_wants (swapping i a f)) (purpose_wants why)
            (subst (λ l. AllHold (IsInUse state.heap) state.heap (line_wants state.limits.hash operation.call operation.access l)) on (line_finds state safe actor operation runs))

        -- what it claims when it goes on from there, by its purpose
        abbrev wants_then : Purpose → List Ref
        wants_then p = refs_of_claims (line_wants state.limits.hash operation.call operation.access (swapped operation (node_at state.heap f) p false)) ++ []

        nothing_left : (p : Purpose) → why ≡ p → wants_then p ≡ [] → (x : Ref) → Contains operation.private x → IsLive after x → ⊥
        nothing_left p is none x own live = dead_with_nothing after same (λ o e r c. none_contained r (subst (λ rs. Contains rs r) (hand_is o e ∙ ap wants_then is ∙ none) c)) x own live

        missed_by : (p : Purpose) → why ≡ p → (x : Ref) → Contains operation.private x → IsLive after x → ⊥
        missed_by (purpose.Climb c) is x own live =
            fresh_dead_by
            (λ o e d.
            let d' = subst (λ rs. Contains rs f) (hand_is o e ∙ ap wants_then is) d in
            elim (Contains-append_cases (refs_of_claims (climb_carries c ++ [])) [] f d') [
              | inl in_claims ↦ carries_not c (subst (λ q. AllHold (IsInUse state.heap) state.heap (purpose_wants q)) is carried)
                  (subst (λ cs. Contains (refs_of_claims cs) f) (append-nil (climb_carries c)) in_claims)
              | inr in_none ↦ none_contained f in_none
            ]) x live (one_in (λ r. r ≡ f) f refl x (subst (λ own. Contains own x) (subst (λ q. IsAlone q operation.private f) is fresh_alone) own))
        missed_by (purpose.Update path former) is x own live = nothing_left (purpose.Update path former) is refl x own live
        missed_by (purpose.Renew path) is x own live = nothing_left (purpose.Renew path) is refl x own live
        missed_by purpose.Clean is x own live = nothing_left purpose.Clean is refl x own live

        pub dead_where_missed : (x : Ref) → Contains operation.private x → IsLive after x → ⊥
        dead_where_missed x own live = missed_by why refl x own live
