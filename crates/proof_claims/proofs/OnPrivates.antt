-- Claims of nodes on what is private to an operation are those of its private nodes, after every list of steps.
use Rattle.std.proofs.Common.{cond, ◌≡◌, inl, inr, ℕ, suc, true, false, List, [], ◌∷◌, ◌++◌, Contains, Option, Some, None, Ok, Err, arith, refl, sym, ap, subst, ◌∙◌}
use Rattle.std.proofs.lemmas.Bool.{cases_eq, true≢false}
use Rattle.std.proofs.lemmas.List.Elements.{Contains-append_left, Contains-push, Contains-push_cases}
use Rattle.std.proofs.lemmas.Option.{same_Some}
use Rattle.proof_claims.specs.Beneath.slot_arena.specs.declared.nodes.Node.{Node}
use Rattle.proof_claims.specs.Beneath.slot_arena.specs.declared.nodes.Node.TheVariants.{Indirection}
use Rattle.proof_claims.specs.Beneath.slot_arena.specs.declared.refs.Ref.{Ref}
use Rattle.proof_claims.specs.Beneath.slot_arena.specs.Heaps.{next_ref}
use Rattle.proof_claims.specs.Beneath.machine_model.specs.declared.actions.Action.{Action}
use Rattle.proof_claims.specs.Beneath.machine_model.specs.declared.actions.Action.TheVariants as act
use Rattle.proof_claims.specs.Beneath.machine_model.specs.declared.operations.Operation.{Operation}
use Rattle.proof_claims.specs.Beneath.machine_model.specs.declared.steps.Bounds.{Bounds}
use Rattle.proof_claims.specs.Beneath.machine_model.specs.declared.steps.Outcome.{Outcome}
use Rattle.proof_claims.specs.Beneath.machine_model.specs.declared.steps.Step.{Step}
use Rattle.proof_claims.specs.Beneath.machine_model.specs.declared.steps.Step.TheVariants as step
use Rattle.proof_claims.specs.Beneath.machine_model.specs.Acting.{operation_after, private_after, with_made}
use Rattle.proof_claims.specs.Beneath.machine_model.specs.Keys.{KeysFit}
use Rattle.proof_claims.specs.Beneath.machine_model.specs.Machine.{Answer, AreBounds, is_taken_step, next, run, run_from, state_after}
use Rattle.proof_claims.specs.Beneath.machine_model.specs.Moves.{Moves, MovesIfTaken}
use Rattle.proof_claims.specs.Beneath.machine_model.specs.Operations.{action_of}
use Rattle.proof_claims.specs.Beneath.machine_model.specs.States.{State, first_state, operation_of}
use Rattle.proof_claims.specs.Beneath.machine_model.proofs.Actors.{IsOf, mark_only, marks_in}
use Rattle.proof_claims.specs.Beneath.machine_model.proofs.Along.{by_last, run_push}
use Rattle.proof_claims.specs.Beneath.machine_model.proofs.Fates.{Comes as CameFrom, began, comes as comes_from, gave, rested, went}
use Rattle.proof_claims.specs.Beneath.machine_model.proofs.Found.{none_found}
use Rattle.proof_claims.specs.Beneath.machine_model.proofs.Moves.{moves}
use Rattle.proof_claims.specs.Beneath.proof_garbage.proofs.Claims.{none_in}
use Rattle.proof_claims.specs.Changes.{change_of}
use Rattle.proof_claims.specs.Claims.{Has, held_of}
use Rattle.proof_claims.specs.Held.{Held, Holder, OfHandle, OfNode, held_after}
use Rattle.proof_claims.proofs.Acted as acted
use Rattle.proof_claims.proofs.Along.{held_push}
use Rattle.proof_claims.proofs.ChangeKinds.{Acting, MakesNode, a_node, a_root}
use Rattle.proof_claims.proofs.ClaimsDiffer.{claims_fit, keys_before}
use Rattle.proof_claims.proofs.Made.{AreMade, IsMade}
use Rattle.proof_claims.proofs.NewClaims.{Comes, came, first, frozen, made, moved, published, second, stood}
use Rattle.proof_claims.proofs.NoSlot.{is_making}
use Rattle.proof_claims.proofs.PrevMoves.{was_pending}
use Rattle.proof_claims.proofs.PrivateClaims.{over_not_private}

abbrev pub OnPrivates : State → Held → Type 0
OnPrivates state held =
    (k : ℕ) (operation : Operation) → operation_of state (suc k) ≡ Some operation → (y r : Ref) → Contains operation.private r → Has held (OfNode y) r → Contains operation.private y

making : {state : State} {node : Node} (action : Action) → MakesNode state node action → is_making action ≡ true
making action a_node = refl
making action (a_root main is) = refl

module _ (limits : Bounds) (ok : AreBounds limits) (xs : List Step) (s : Step) (o : Outcome) (m : Moves (run limits xs) s o (run limits (xs ++ s ∷ []))) (are_made : AreMade (run limits xs)
    (held_of limits xs)) where
  abbrev state : State
  state = run limits xs

  abbrev after : State
  after = run limits (xs ++ s ∷ [])

  abbrev held : Held
  held = held_of limits xs

  abbrev later : Held
  later = held_after (change_of state held s) held

  -- nobody has a claim on what is made by the step
  pub new_unclaimed : (node : Node) (action : Action) → Acting (run limits xs) s action → MakesNode (run limits xs) node action → (x : Ref) → next_ref (run limits xs).heap ≡ Some x → (y : Ref) →
      Has (held_after (change_of (run limits xs) (held_of limits xs) s) (held_of limits xs)) (OfNode y) x → ⊥
  new_unclaimed node action a makes_it x drawn y has = from (OfNode y) refl (came state held (OfNode y) x s has)
    where
      not_made : IsMade state x → ⊥
      not_made = acted.made_new limits ok xs s o after m refl node action a makes_it x drawn

      from : (holder : Holder) → holder ≡ OfNode y → Comes state held s (change_of state held s) holder x → ⊥
      from holder is (stood had stays) = not_made (are_made.made holder x had)
      from holder is (moved i f p told b v own at_f had names) = not_made (are_made.made (OfNode p) x had)
      from holder is (made n other z b makes drawn_z at_z names raised) =
          not_made (acted.used_made limits ok xs s o after m refl x (acted.names_used limits ok xs s o after m refl n other b makes z drawn_z x names))
      from holder is (published i q f b hit at_i at_f) =
          not_made (acted.used_made limits ok xs s o after m refl x (acted.wanted_used limits ok xs s o after m refl (act.Publish i q f) b x (2, omega arith, sym at_f)))
      from holder is (frozen offer main n b out none opens at_h at_root had) = let wrong : OfHandle n ≡ OfNode y = sym at_h ∙ is in let bad : ⊥ = cc wrong in bad
      from holder is (first offer b plain at_h at_root) = let wrong = sym at_h ∙ is in let bad : ⊥ = cc in bad
      from holder is (second offer n b plain opens at_root at_h) = let wrong : OfHandle n ≡ OfNode y = sym at_h ∙ is in let bad : ⊥ = cc wrong in bad

  module _ (h : OnPrivates (run limits xs) (held_of limits xs)) where
    -- what was private before and is so still
    module _ (k : ℕ) (was : Operation) (runs : operation_of state (suc k) ≡ Some was) (r : Ref) (mine : Contains was.private r) (next_private : List Ref)
        (kept : (z : Ref) → Contains was.private z → Contains next_private z)
        (makes : (z : Ref) (node : Node) (action : Action) (a : Acting state s action) → MakesNode state node action → next_ref state.heap ≡ Some z → suc k ≡ a.actor → Contains next_private z)
        (publishes : (i q f : Ref) (a : Acting state s (act.Publish i q f)) → suc k ≡ a.actor → ⊥) where
      still : (y : Ref) → Has later (OfNode y) r → Contains next_private y
      still y has = by (OfNode y) refl (came state held (OfNode y) r s has)
        where
          by : (holder : Holder) → holder ≡ OfNode y → Comes state held s (change_of state held s) holder r → Contains next_private y
          by holder is (stood had stays) = kept y (h k was runs y r mine (subst (λ z. Has held z r) is had))
          by holder is (moved i f p told a v own at_f had names) =
              absurd (over_not_private limits ok xs s o m k was runs p (h k was runs p r mine had) i f p told a (was_pending limits ok xs s o after m refl i f p told a v) refl)
          by holder is (made node action z a makes_it drawn at_z names raised) = elim (cases_eq (suc k) a.actor) [
            | inl here ↦
                let holders : OfNode z ≡ OfNode y = sym at_z ∙ is in
                let same : z ≡ y = cc holders in
                subst (Contains next_private) same (makes z node action a makes_it drawn here)
            | inr apart ↦ absurd (acted.names_not limits ok xs s o after m refl node action a makes_it z drawn (suc k) was runs apart r names mine)
          ]
          by holder is (published i q f a hit at_i at_f) = elim (cases_eq (suc k) a.actor) [
            | inl here ↦ absurd (publishes i q f a here)
            | inr apart ↦ absurd (acted.wanted_not limits ok xs s o after m refl (act.Publish i q f) a (suc k) was runs apart r (2, omega arith, sym at_f) mine)
          ]
          by holder is (frozen offer main n a out none opens at_h at_root had) = let wrong : OfHandle n ≡ OfNode y = sym at_h ∙ is in let bad : ⊥ = cc wrong in absurd bad
          by holder is (first offer a plain at_h at_root) = let wrong = sym at_h ∙ is in let bad : ⊥ = cc in absurd bad
          by holder is (second offer n a plain opens at_root at_h) = let wrong : OfHandle n ≡ OfNode y = sym at_h ∙ is in let bad : ⊥ = cc wrong in absurd bad

    -- by its own step
    module _ (k : ℕ) (was : Operation) (is : s ≡ step.Go (suc k)) (runs : operation_of state (suc k) ≡ Some was) (r y : Ref) (has : Has later (OfNode y) r) where
      one : (action : Action) (a : Acting state s action) → action_of state was ≡ action
      one action a =
          let step_is : step.Go (suc k) ≡ step.Go a.actor = sym is ∙ a.is_step in
          let place : suc k ≡ a.actor = cc step_is in
          ap (action_of state) (same_Some was a.operation (sym runs ∙ ap (operation_of state) place ∙ a.runs)) ∙ a.acts

      abbrev next_is : Action → List Ref
      next_is action = private_after state was.private action

      -- an action that leaves what is private
      quiet : (action : Action) → action_of state was ≡ action → is_making action ≡ false → ((i q f : Ref) → act.Publish i q f ≡ action → ⊥) → next_is action ≡ was.private →
          Contains (next_is action) r → Contains (next_is action) y
      quiet action acts no_make no_publish same c =
          subst (λ ps. Contains ps y) (sym same)
          (still k was runs r (subst (λ ps. Contains ps r) same c) was.private (λ z d. d)
          (λ z node other a makes drawn here. absurd (true≢false (sym (making other makes) ∙ ap is_making (sym (one other a) ∙ acts) ∙ no_make)))
          (λ i q f a here. no_publish i q f (sym (one (act.Publish i q f) a) ∙ acts)) y has)

      by_make : (node : Node) (action : Action) → (acts : action_of state was ≡ action) → MakesNode state node action → ((i q f : Ref) → act.Publish i q f ≡ action → ⊥) → (next : Option Ref) →
          next_ref state.heap ≡ next → Contains (with_made was.private next) r → Contains (with_made was.private next) y
      by_make node action acts makes_it no_publish None drawn c = absurd (none_in r c)
      by_make node action acts makes_it no_publish (Some x) drawn c = elim (Contains-push_cases was.private x r c) [
        | inl before ↦
            still k was runs r before (was.private ++ x ∷ []) (λ z d. Contains-append_left was.private (x ∷ []) z d)
            (λ z n other a makes drawn_z here. subst (Contains (was.private ++ x ∷ [])) (same_Some x z (sym drawn ∙ drawn_z)) (Contains-push was.private x))
            (λ i q f a here. no_publish i q f (sym (one (act.Publish i q f) a) ∙ acts)) y has
        | inr same ↦
            absurd (new_unclaimed node action (record { actor = suc k; operation = was; is_step = is; runs = runs; acts = acts }) makes_it x drawn y (subst (Has later (OfNode y)) (sym same) has))
      ]

      by_action : (action : Action) → action_of state was ≡ action → Contains (next_is action) r → Contains (next_is action) y
      by_action (act.Make node) acts c = by_make node (act.Make node) acts a_node (λ i q f e. let bad : ⊥ = cc e in bad) (next_ref state.heap) refl c
      by_action (act.MakeRoot main) acts c =
          by_make (Indirection state.generations main) (act.MakeRoot main) acts (a_root main refl) (λ i q f e. let bad : ⊥ = cc e in bad) (next_ref state.heap) refl c
      by_action (act.Publish i q f) acts c = absurd (none_in r c)
      by_action (act.Offer offer) acts c = absurd (none_in r c)
      by_action act.ReadRoot acts c = quiet act.ReadRoot acts refl (λ i q f e. let bad : ⊥ = cc e in bad) refl c
      by_action (act.Abort offer) acts c = quiet (act.Abort offer) acts refl (λ i q f e. let bad : ⊥ = cc e in bad) refl c
      by_action (act.Complete offer main) acts c = quiet (act.Complete offer main) acts refl (λ i q f e. let bad : ⊥ = cc e in bad) refl c
      by_action (act.ReadMain j) acts c = quiet (act.ReadMain j) acts refl (λ i q f e. let bad : ⊥ = cc e in bad) refl c
      by_action (act.Restore j p b) acts c = quiet (act.Restore j p b) acts refl (λ i q f e. let bad : ⊥ = cc e in bad) refl c
      by_action (act.ReadPrev main) acts c = quiet (act.ReadPrev main) acts refl (λ i q f e. let bad : ⊥ = cc e in bad) refl c
      by_action (act.Decide j b p told) acts c = quiet (act.Decide j b p told) acts refl (λ i q f e. let bad : ⊥ = cc e in bad) refl c
      by_action (act.Look at) acts c = quiet (act.Look at) acts refl (λ i q f e. let bad : ⊥ = cc e in bad) refl c
      by_action (act.End answer) acts c = quiet (act.End answer) acts refl (λ i q f e. let bad : ⊥ = cc e in bad) refl c

    by_came : (k : ℕ) (found : Operation) → (y r : Ref) → Contains found.private r → Has later (OfNode y) r → CameFrom state s k found → Contains found.private y
    by_came k found y r c has (began call number is denial it) = absurd (none_in r (subst (λ (q : Operation). Contains q.private r) it c))
    by_came k found y r c has (gave was answer is at_k may it) = absurd (none_in r (subst (λ (q : Operation). Contains q.private r) it c))
    by_came k found y r c has (rested was at_k it other) =
        let private_is : found.private ≡ was.private = ap (λ (q : Operation). q.private) (it ∙ mark_only (marks_in state s) was) in
        let apart = λ (action : Action) (a : Acting state s action) (here : suc k ≡ a.actor). other (subst (λ n. IsOf n s) (sym here) (subst (IsOf a.actor) (sym a.is_step) refl)) in
        subst (λ ps. Contains ps y) (sym private_is)
        (still k was at_k r (subst (λ ps. Contains ps r) private_is c) was.private (λ z d. d) (λ z node action a makes drawn here. absurd (apart action a here))
        (λ i q f a here. apart (act.Publish i q f) a here) y has)
    by_came k found y r c has (went was is at_k g it) =
        let private_is = ap (λ (q : Operation). q.private) (it ∙ mark_only (marks_in state s) (operation_after state was)) in
        subst (λ ps. Contains ps y) (sym private_is) (by_action k was is at_k r y has (action_of state was) refl (subst (λ ps. Contains ps r) private_is c))

    pub privates_then : OnPrivates after later
    privates_then k found runs_now y r c has = by_came k found y r c has (comes_from state s o after m k found runs_now)

-- ---- after every list of steps

module _ (limits : Bounds) (ok : AreBounds limits) where
  abbrev Hold : List Step → Type 0
  Hold xs = OnPrivates (run limits xs) (held_of limits xs)

  none_runs : (k : ℕ) (operation : Operation) → operation_of (run limits []) (suc k) ≡ Some operation → ⊥
  unfolding first_state run_from
  none_runs k operation e = none_found limits.actors k operation e

  by_answer : (xs : List Step) (s : Step) → KeysFit xs → Hold xs → (a : Answer) → next (run limits xs) s ≡ a → MovesIfTaken (run limits xs) s a →
      OnPrivates (run limits (xs ++ s ∷ [])) (cond (is_taken_step a) (held_after (change_of (run limits xs) (held_of limits xs) s) (held_of limits xs)) (held_of limits xs))
  by_answer xs s keys h (Ok done) e mv =
      let is : done.1 ≡ run limits (xs ++ s ∷ []) = sym (run_push (first_state limits) xs s ∙ ap (state_after (run limits xs)) e) in
      privates_then limits ok xs s done.0 (subst (λ (z : State). Moves (run limits xs) s done.0 z) is mv) (claims_fit limits ok xs keys).made h
  by_answer xs s keys h (Err refusal) e mv =
      subst (λ (z : State). OnPrivates z (held_of limits xs)) (sym (run_push (first_state limits) xs s ∙ ap (state_after (run limits xs)) e)) h

  pub on_privates : (xs : List Step) → KeysFit xs → Hold xs
  on_privates xs keys =
      by_last (λ xs. KeysFit xs → Hold xs) (λ keys k operation runs y r c has. absurd (none_runs k operation runs))
      (λ xs s h keys.
      let fit = keys_before xs (s ∷ []) keys in
      subst (λ held. OnPrivates (run limits (xs ++ s ∷ [])) held) (sym (held_push limits xs s)) (by_answer xs s fit (h fit) (next (run limits xs) s) refl (moves (run limits xs) s))) xs keys
