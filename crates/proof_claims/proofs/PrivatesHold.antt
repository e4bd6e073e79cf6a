-- What is private to an operation holds what it names, after every list of steps; and stands in its list once.
use Rattle.std.proofs.Common.{cond, ◌≡◌, inl, inr, ℕ, suc, List, [], ◌∷◌, ◌++◌, Contains, Option, Some, None, Ok, Err, arith, refl, sym, ap, subst, ◌∙◌}
use Rattle.std.proofs.lemmas.List.Elements.{All-contains, Contains-push_cases}
use Rattle.proof_claims.specs.Beneath.slot_arena.specs.declared.nodes.Node.{Node}
use Rattle.proof_claims.specs.Beneath.slot_arena.specs.declared.nodes.Node.TheVariants.{Indirection}
use Rattle.proof_claims.specs.Beneath.slot_arena.specs.declared.refs.Ref.{Ref}
use Rattle.proof_claims.specs.Beneath.slot_arena.specs.Heaps.{next_ref, node_at, refs_of_node}
use Rattle.proof_claims.specs.Beneath.machine_model.specs.declared.actions.Action.{Action}
use Rattle.proof_claims.specs.Beneath.machine_model.specs.declared.actions.Action.TheVariants as act
use Rattle.proof_claims.specs.Beneath.machine_model.specs.declared.operations.Operation.{Operation}
use Rattle.proof_claims.specs.Beneath.machine_model.specs.declared.steps.Bounds.{Bounds}
use Rattle.proof_claims.specs.Beneath.machine_model.specs.declared.steps.Outcome.{Outcome}
use Rattle.proof_claims.specs.Beneath.machine_model.specs.declared.steps.Step.{Step}
use Rattle.proof_claims.specs.Beneath.machine_model.specs.declared.steps.Step.TheVariants as step
use Rattle.proof_claims.specs.Beneath.machine_model.specs.Acting.{operation_after, private_after, with_made}
use Rattle.proof_claims.specs.Beneath.machine_model.specs.Grown.{standing}
use Rattle.proof_claims.specs.Beneath.machine_model.specs.Keys.{KeysFit}
use Rattle.proof_claims.specs.Beneath.machine_model.specs.Machine.{Answer, AreBounds, is_taken_step, next, run, run_from, state_after}
use Rattle.proof_claims.specs.Beneath.machine_model.specs.Moves.{Moves, MovesIfTaken}
use Rattle.proof_claims.specs.Beneath.machine_model.specs.Operations.{action_of, line_after}
use Rattle.proof_claims.specs.Beneath.machine_model.specs.States.{State, first_state, operation_of}
use Rattle.proof_claims.specs.Beneath.machine_model.specs.Swapping.{swapping}
use Rattle.proof_claims.specs.Beneath.machine_model.proofs.Actors.{mark_only, marks_in}
use Rattle.proof_claims.specs.Beneath.machine_model.proofs.Along.{by_last, run_push}
use Rattle.proof_claims.specs.Beneath.machine_model.proofs.Fates.{Comes as CameFrom, began, comes as comes_from, gave, rested, went}
use Rattle.proof_claims.specs.Beneath.machine_model.proofs.Found.{none_found}
use Rattle.proof_claims.specs.Beneath.machine_model.proofs.Grown.{prev_standing}
use Rattle.proof_claims.specs.Beneath.machine_model.proofs.Moves.{moves}
use Rattle.proof_claims.specs.Beneath.proof_garbage.proofs.Claims.{none_in}
use Rattle.proof_claims.specs.Beneath.proof_memory.proofs.Heap.Under.{fresh_slot}
use Rattle.proof_claims.specs.Beneath.proof_memory.proofs.Safety.AtEachTime.{safe_along}
use Rattle.proof_claims.specs.Beneath.proof_memory.specs.Laws.{IsInUse}
use Rattle.proof_claims.specs.Changes.{change_by, change_going, change_of, claim_of_node, goal_of, makes, over_at}
use Rattle.proof_claims.specs.Claims.{Has, held_of}
use Rattle.proof_claims.specs.Held.{Change, Held, Holder, OfHandle, OfNode, held_after}
use Rattle.proof_claims.proofs.Acted as acted
use Rattle.proof_claims.proofs.Along.{comes, held_push}
use Rattle.proof_claims.proofs.ChangeKinds.{Acting, MakesNode, a_node, a_root}
use Rattle.proof_claims.proofs.ClaimsDiffer.{ClaimsFit, claims_fit, keys_before}
use Rattle.proof_claims.proofs.FromRoots.{main_in_use}
use Rattle.proof_claims.proofs.Goals.{goal_line}
use Rattle.proof_claims.proofs.Lists.{in_flat}
use Rattle.proof_claims.proofs.Made.{IsMade}
use Rattle.proof_claims.proofs.NewClaims.{Comes, came, first, frozen, made, moved, published, second, stood}
use Rattle.proof_claims.proofs.NewLinks.{made_over_decided}
use Rattle.proof_claims.proofs.PrivateClaims.{NotToSwap, PrivateHolds, PrivatesHold, its_own, others, private_still}

-- ---- a step

module _ (limits : Bounds) (ok : AreBounds limits) (xs : List Step) (s : Step) (o : Outcome) (m : Moves (run limits xs) s o (run limits (xs ++ s ∷ [])))
    (taken : next (run limits xs) s ≡ Ok (o, run limits (xs ++ s ∷ []))) (fits : ClaimsFit (run limits xs) (held_of limits xs)) (h : PrivatesHold (run limits xs) (held_of limits xs)) where
  abbrev state : State
  state = run limits xs

  abbrev after : State
  after = run limits (xs ++ s ∷ [])

  abbrev held : Held
  held = held_of limits xs

  abbrev later : Held
  later = held_after (change_of state held s) held

  -- ---- a node that is made

  module _ (k : ℕ) (was found : Operation) (is_step : s ≡ step.Go (suc k)) (runs : operation_of state (suc k) ≡ Some was) (line_is : found.line ≡ line_after state was was.line) (node : Node)
      (action : Action) (acts : action_of state was ≡ action) (makes_it : MakesNode state node action) (x : Ref) (drawn : next_ref state.heap ≡ Some x) where
    abbrev a : Acting state s action
    a = record { actor = suc k; operation = was; is_step = is_step; runs = runs; acts = acts }

    stands_so : standing after.heap x ≡ Some (fresh_slot state.heap node)
    stands_so = acted.made_stands limits ok xs s o after m refl node action a makes_it x drawn

    stands : IsInUse after.heap x
    stands = (fresh_slot state.heap node, stands_so)

    node_is : node_at after.heap x ≡ node
    node_is = acted.made_node limits ok xs s o after m refl node action a makes_it x drawn

    not_made : IsMade state x → ⊥
    not_made then = acted.made_new limits ok xs s o after m refl node action a makes_it x drawn then

    change_is : change_of state held s ≡ makes state held was (refs_of_node node) (Some x)
    change_is = ap (change_of state held) is_step ∙ ap (change_going state held) runs ∙ ap (change_by state held was) acts ∙ by action makes_it
      where
        by : (action : Action) → MakesNode state node action → change_by state held was action ≡ makes state held was (refs_of_node node) (Some x)
        by action a_node = ap (makes state held was (refs_of_node node)) drawn
        by action (a_root main is) = ap (makes state held was (main ∷ [])) drawn ∙ ap (λ n. makes state held was (refs_of_node n) (Some x)) (sym is)

    names_new : (r : Ref) → Has later (OfNode x) r → Contains (refs_of_node (node_at after.heap x)) r
    names_new r has = by (OfNode x) refl (came state held (OfNode x) r s has)
      where
        by : (holder : Holder) → holder ≡ OfNode x → Comes state held s (change_of state held s) holder r → Contains (refs_of_node (node_at after.heap x)) r
        by holder is (stood had stays_it) = absurd (not_made (fits.made.holders (OfNode x) r (subst (λ z. Has held z r) is had)))
        by holder is (moved i f p seen b v owns at_f had names) =
            let holders : OfNode f ≡ OfNode x = sym at_f ∙ is in
            let same : f ≡ x = cc holders in
            absurd (not_made (subst (IsMade state) same
            (acted.used_made limits ok xs s o after m refl f (acted.wanted_used limits ok xs s o after m refl (act.Decide i f p seen) b f (1, omega arith, refl)))))
        by holder is (made n other y b makes drawn_y at_y names raised) =
            let holders : OfNode y ≡ OfNode x = sym at_y ∙ is in
            let same : y ≡ x = cc holders in
            subst (λ z. Contains (refs_of_node (node_at after.heap z)) r) same
            (subst (λ q. Contains (refs_of_node q) r) (sym (acted.made_node limits ok xs s o after m refl n other b makes y drawn_y)) names)
        by holder is (published i q f b hit at_i at_f) =
            let holders : OfNode i ≡ OfNode x = sym at_i ∙ is in
            let same : i ≡ x = cc holders in
            absurd (not_made (subst (IsMade state) same
            (acted.used_made limits ok xs s o after m refl i (acted.wanted_used limits ok xs s o after m refl (act.Publish i q f) b i (0, omega arith, refl)))))
        by holder is (frozen offer main n b out second' opens at_h at_root had) = let wrong : OfHandle n ≡ OfNode x = sym at_h ∙ is in let bad : ⊥ = cc wrong in absurd bad
        by holder is (first offer b plain at_h at_root) = let wrong = sym at_h ∙ is in let bad : ⊥ = cc in absurd bad
        by holder is (second offer n b plain opens at_root at_h) = let wrong : OfHandle n ≡ OfNode x = sym at_h ∙ is in let bad : ⊥ = cc wrong in absurd bad

    -- where it isn't made for a goal it takes nothing over
    no_goal : NotToSwap found x → (goal : Option (Ref × Ref)) → goal_of was.line ≡ goal → over_at state held goal ≡ []
    no_goal free None e = refl
    no_goal free (Some goal) e =
        let (why, leads) = goal_line state was x drawn was.line goal e in absurd (free why (swapping goal.0 goal.1 x) (line_is ∙ leads) refl)

    holds_new : NotToSwap found x → (r : Ref) → Contains (refs_of_node (node_at after.heap x)) r → Has later (OfNode x) r
    holds_new free r names =
        subst (λ (c : Change). Has (held_after c held) (OfNode x) r) (sym change_is)
        (comes (makes state held was (refs_of_node node) (Some x)) held (OfNode x) r
        (in_flat (claim_of_node (over_at state held (goal_of was.line)) x) (refs_of_node node) r (record { by = OfNode x; on = r }) (subst (λ n. Contains (refs_of_node n) r) node_is names)
        (rw (no_goal free (goal_of was.line) refl) (0, omega arith, refl))))

    pub private_new : PrivateHolds after later found x
    private_new = record {
      names = names_new;
      holds = holds_new;
      decided = prev_standing after.heap x (fresh_slot state.heap node) stands_so;
      over = λ link. made_over_decided limits xs ok s o after taken x drawn stands link (main_in_use limits (xs ++ s ∷ []) ok x stands link);
    }

  -- ---- by where the operation comes from

  used_then : (k : ℕ) (found : Operation) → operation_of after (suc k) ≡ Some found → (x : Ref) → Contains found.private x → IsInUse after.heap x
  used_then k found runs_now x c = All-contains (IsInUse after.heap) found.private x ((safe_along limits ok (xs ++ s ∷ [])).privates k found runs_now) c

  module _ (k : ℕ) (was found : Operation) (is_step : s ≡ step.Go (suc k)) (runs : operation_of state (suc k) ≡ Some was) (runs_now : operation_of after (suc k) ≡ Some found)
      (line_is : found.line ≡ line_after state was was.line) (private_is : found.private ≡ private_after state was.private (action_of state was)) (x : Ref) (c : Contains found.private x) where
    -- it had it before
    was_there : Contains was.private x → PrivateHolds after later found x
    was_there before =
        private_still limits ok xs s o m k was found runs x before (its_own is_step (subst (λ ps. Contains ps x) private_is c)) (h k was runs x before) (used_then k found runs_now x c)

    by_make : (node : Node) (action : Action) → action_of state was ≡ action → MakesNode state node action → (next : Option Ref) → next_ref state.heap ≡ next →
        Contains (with_made was.private next) x →
        PrivateHolds after later found x
    by_make node action acts makes_it None drawn there = absurd (none_in x there)
    by_make node action acts makes_it (Some new) drawn there = elim (Contains-push_cases was.private new x there) [
      | inl before ↦ was_there before
      | inr same ↦ subst (PrivateHolds after later found) same (private_new k was found is_step runs line_is node action acts makes_it new drawn)
    ]

    by_action : (action : Action) → action_of state was ≡ action → Contains (private_after state was.private action) x → PrivateHolds after later found x
    by_action (act.Publish i q f) acts there = absurd (none_in x there)
    by_action (act.Offer offer) acts there = absurd (none_in x there)
    by_action (act.Make node) acts there = by_make node (act.Make node) acts a_node (next_ref state.heap) refl there
    by_action (act.MakeRoot main) acts there = by_make (Indirection state.generations main) (act.MakeRoot main) acts (a_root main refl) (next_ref state.heap) refl there
    by_action action acts there = was_there there

    own_holds : PrivateHolds after later found x
    own_holds = by_action (action_of state was) refl (subst (λ ps. Contains ps x) private_is c)

  by_came : (k : ℕ) (found : Operation) → operation_of after (suc k) ≡ Some found → (x : Ref) → Contains found.private x → CameFrom state s k found → PrivateHolds after later found x
  by_came k found runs_now x c (began call number is denial it) = absurd (none_in x (subst (λ (q : Operation). Contains q.private x) it c))
  by_came k found runs_now x c (gave was answer is at_k may it) = absurd (none_in x (subst (λ (q : Operation). Contains q.private x) it c))
  by_came k found runs_now x c (rested was at_k it other) =
      let same : found ≡ record was { is_marked = found.is_marked } = it ∙ mark_only (marks_in state s) was ∙ ap (λ (q : Operation). record was { is_marked = q.is_marked }) (sym it) in
      let before = subst (λ ps. Contains ps x) (ap (λ (q : Operation). q.private) same) c in
      private_still limits ok xs s o m k was found at_k x before (others other (ap (λ (q : Operation). q.line) same)) (h k was at_k x before) (used_then k found runs_now x c)
  by_came k found runs_now x c (went was is at_k g it) =
      let same = it ∙ mark_only (marks_in state s) (operation_after state was) in
      own_holds k was found is at_k runs_now (ap (λ (q : Operation). q.line) same) (ap (λ (q : Operation). q.private) same) x c

  pub privates_then : PrivatesHold after later
  privates_then k found runs_now x c = by_came k found runs_now x c (comes_from state s o after m k found runs_now)

-- ---- after every list of steps

module _ (limits : Bounds) (ok : AreBounds limits) where
  abbrev Hold : List Step → Type 0
  Hold xs = PrivatesHold (run limits xs) (held_of limits xs)

  none_runs : (k : ℕ) (operation : Operation) → operation_of (run limits []) (suc k) ≡ Some operation → ⊥
  unfolding first_state run_from
  none_runs k operation e = none_found limits.actors k operation e

  by_answer : (xs : List Step) (s : Step) → KeysFit xs → Hold xs → (a : Answer) → next (run limits xs) s ≡ a → MovesIfTaken (run limits xs) s a →
      PrivatesHold (run limits (xs ++ s ∷ [])) (cond (is_taken_step a) (held_after (change_of (run limits xs) (held_of limits xs) s) (held_of limits xs)) (held_of limits xs))
  by_answer xs s keys h (Ok done) e mv =
      let is : done.1 ≡ run limits (xs ++ s ∷ []) = sym (run_push (first_state limits) xs s ∙ ap (state_after (run limits xs)) e) in
      privates_then limits ok xs s done.0 (subst (λ (z : State). Moves (run limits xs) s done.0 z) is mv) (e ∙ ap (λ (z : State). Ok (done.0, z)) is) (claims_fit limits ok xs keys) h
  by_answer xs s keys h (Err refusal) e mv =
      subst (λ (z : State). PrivatesHold z (held_of limits xs)) (sym (run_push (first_state limits) xs s ∙ ap (state_after (run limits xs)) e)) h

  pub privates_hold : (xs : List Step) → KeysFit xs → Hold xs
  privates_hold xs keys =
      by_last (λ xs. KeysFit xs → Hold xs) (λ keys k operation runs x c. absurd (none_runs k operation runs))
      (λ xs s h keys.
      let fit = keys_before xs (s ∷ []) keys in
      subst (λ held. PrivatesHold (run limits (xs ++ s ∷ [])) held) (sym (held_push limits xs s))
      (by_answer xs s fit (h fit) (next (run limits xs) s) refl (moves (run limits xs) s))) xs keys
