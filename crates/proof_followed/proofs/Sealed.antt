-- What an operation is to bring no root leads to, and no other operation, until its offer is carried out.
use Rattle.std.proofs.Common.{◌≡◌, ℕ, suc, true, false, cond, List, Some, None, Ok, Err, refl, sym, ap, ◌∙◌, subst, inl, inr}
use Rattle.std.proofs.lemmas.Bool.{cases_eq}
use Rattle.std.proofs.lemmas.Option.{none-some, same_Some}
use Rattle.proof_followed.specs.Beneath.slot_arena.specs.declared.refs.Ref.{Ref}
use Rattle.proof_followed.specs.Beneath.slot_arena.specs.declared.nodes.Node.TheVariants.{Single}
use Rattle.proof_followed.specs.Beneath.slot_arena.specs.Heaps.{next_ref}
use Rattle.proof_followed.specs.Beneath.machine_model.specs.declared.actions.Action.TheVariants as act
use Rattle.proof_followed.specs.Beneath.machine_model.specs.declared.operations.Operation.{Operation}
use Rattle.proof_followed.specs.Beneath.machine_model.specs.declared.roots.Descriptor.{Descriptor}
use Rattle.proof_followed.specs.Beneath.machine_model.specs.declared.roots.Root.{Root}
use Rattle.proof_followed.specs.Beneath.machine_model.specs.declared.roots.RootWord.TheVariants.{Offer}
use Rattle.proof_followed.specs.Beneath.machine_model.specs.declared.steps.Bounds.{Bounds}
use Rattle.proof_followed.specs.Beneath.machine_model.specs.declared.steps.Outcome.{Outcome}
use Rattle.proof_followed.specs.Beneath.machine_model.specs.declared.steps.Step.{Step}
use Rattle.proof_followed.specs.Beneath.machine_model.specs.declared.steps.Step.TheVariants as step
use Rattle.proof_followed.specs.Beneath.machine_model.specs.Acting.{gone}
use Rattle.proof_followed.specs.Beneath.machine_model.specs.Calls.{handle_of}
use Rattle.proof_followed.specs.Beneath.machine_model.specs.Counting.{settled}
use Rattle.proof_followed.specs.Beneath.machine_model.specs.Machine.{AreBounds, Answer, next, next_state, run, run_from, state_after}
use Rattle.proof_followed.specs.Beneath.machine_model.specs.Moves.{Moves, MovesIfTaken, GoesOn, Begins, Goes, Ends, Sweeps, GivesUp}
use Rattle.proof_followed.specs.Beneath.machine_model.specs.Operations.{action_of}
use Rattle.proof_followed.specs.Beneath.machine_model.specs.States.{State, first_state, operation_of, root_at, word_at}
use Rattle.proof_followed.specs.Beneath.machine_model.specs.Swapping.{is_carried_out, stands_in}
use Rattle.proof_followed.specs.Beneath.machine_model.proofs.Actors.{IsOf, is_of, marks_by, marks_in, marks_of, of_end}
use Rattle.proof_followed.specs.Beneath.machine_model.proofs.Along.{by_last, run_push}
use Rattle.proof_followed.specs.Beneath.machine_model.proofs.Fates.{place_of_actor}
use Rattle.proof_followed.specs.Beneath.machine_model.proofs.Found.{none_found}
use Rattle.proof_followed.specs.Beneath.machine_model.proofs.Moves.{moves}
use Rattle.proof_followed.specs.Beneath.proof_memory.specs.Laws.{IsInUse}
use Rattle.proof_followed.specs.Beneath.proof_memory.specs.Wants.{AllHold, action_wants}
use Rattle.proof_followed.specs.Beneath.proof_memory.proofs.Claims.Uses.{safe_of}
use Rattle.proof_followed.specs.Beneath.proof_memory.proofs.Heap.Under.{taken_all}
use Rattle.proof_followed.specs.Beneath.proof_memory.proofs.Safety.AtEachTime.{safe_along}
use Rattle.proof_followed.specs.Beneath.proof_memory.proofs.Safety.EachStep.{at_place}
use Rattle.proof_followed.specs.Beneath.proof_memory.proofs.Safety.Guards.{Safe}
use Rattle.proof_followed.specs.Beneath.proof_memory.proofs.Safety.States.{IsSafe}
use Rattle.proof_followed.specs.Beneath.proof_memory.proofs.Safety.Steps.{step_claims}
use Rattle.proof_followed.specs.Beneath.proof_generations.specs.Laws.Roots.{settles}
use Rattle.proof_followed.specs.Beneath.proof_generations.specs.Running.{Runs}
use Rattle.proof_followed.specs.Beneath.proof_generations.proofs.Offers.Same.{HasOffers, same_offer}
use Rattle.proof_followed.specs.Beneath.proof_generations.proofs.Offers.Standing.{StandsBy, own_numbers}
use Rattle.proof_followed.specs.Beneath.proof_generations.proofs.Roots.OfLists.{has_handles_along}
use Rattle.proof_followed.specs.Beneath.proof_generations.proofs.Roots.Own.{its_fresh}
use Rattle.proof_garbage.proofs.Kept.{IsSwapIn}
use Rattle.proof_garbage.proofs.Private.{Others}
use Rattle.proof_garbage.proofs.Restoring.{failed_over}
use Rattle.proof_followed.specs.Followed.{IsFollowed}
use Rattle.proof_followed.proofs.Bringing.{names_main}
use Rattle.proof_followed.proofs.Brought.{IsBrought, BroughtFrom, brought_then, is_made, brought_from, brought_followed, brought_none}
use Rattle.proof_followed.proofs.Carried.{Brings, IsNew, brings_roots, brings_below, owner, expects}
use Rattle.proof_followed.proofs.Hands.{WasFollowed, handle_open}
use Rattle.proof_followed.proofs.InUse.{followed_used}
use Rattle.proof_followed.proofs.Others.{other_followed}
use Rattle.proof_followed.proofs.Step.{rest_followed, counting_followed}

abbrev pub AllSealed : State → Type 0
AllSealed state = (k : ℕ) (operation : Operation) → Runs state k operation → operation.is_marked ≡ false → (y : Ref) → IsBrought state operation y → IsFollowed state (Others operation.id) y → ⊥

module _ (limits : Bounds) (ok : AreBounds limits) (steps : List Step) (so_far : AllSealed (run limits steps)) where
  abbrev state : State
  state = run limits steps

  abbrev I : IsSafe state
  I = safe_along limits ok steps

  abbrev H : HasOffers state
  H = (has_handles_along limits steps).0

  -- ---- what an offer brings that is carried out

  module _ (P : ℕ → Type 0) (actor : ℕ) (operation : Operation) (is : operation_of (run limits steps) actor ≡ Some operation) (its : Root)
      (is_open : root_at (run limits steps) (handle_of operation.call) ≡ Some its) (o : Outcome)
      (taken : next (run limits steps) (step.Go actor) ≡ Ok (o, settled (run limits steps) (gone (run limits steps) actor operation))) where
    abbrev New : Ref → Type 0
    New = Brings limits ok steps P actor operation is its is_open o taken

    module _ (offer : Descriptor) (main : Ref) (does : action_of (run limits steps) operation ≡ act.Complete offer main)
        (carried : is_carried_out (word_at (run limits steps) (handle_of operation.call)) offer main ≡ true) where
      abbrev by : StandsBy state (handle_of operation.call) offer
      by = owner limits ok steps P actor operation is its is_open o taken offer main (does, carried)

      -- it is what the operation is to bring that offered
      owners : (y : Ref) → IsNew limits ok steps P actor operation is its is_open o taken offer y → IsBrought state by.owner y
      owners y (inl (x, e)) = inl (x, its_fresh by.owner.line offer x y by.completes e)
      owners y (inr (x, q, e, c, other)) =
          let has = its_fresh by.owner.line offer x q by.completes e in
          inr (inl (
            x,
            q,
            has,
            sym (names_main limits ok steps by.k by.owner x q by.runs by.unmarked has y c),
            λ same. other (same ∙ expects limits ok steps P actor operation is its is_open o taken offer main (does, carried)),
          ))

      -- which is marked then
      marks : marks_in state (step.Go actor) ≡ Some by.owner.id
      marks =
          ap (marks_by state) is ∙ ap (marks_of state (handle_of operation.call)) does ∙ ap (λ b. cond b (Some offer.operation) None) carried
          ∙ ap Some (own_numbers by.owner offer (H.own by.k by.owner by.runs) by.completes).its

    -- so it is in use
    pub new_used : (y : Ref) → New y → IsInUse (run limits steps).heap y
    new_used y (offer, main, (does, carried), new) =
        let b = by offer main does carried in
        followed_used state I (λ id. Unit {0}) (brought_followed limits ok steps (λ id. Unit {0}) b.k b.owner b.runs b.unmarked tt y (owners offer main does carried y new))

    -- and not what another operation is to bring
    pub new_another : (k : ℕ) (was : Operation) → Runs (run limits steps) k was → was.is_marked ≡ false → (marks_in (run limits steps) (step.Go actor) ≡ Some was.id → ⊥) → (y : Ref) →
        IsBrought (run limits steps) was y → New y → ⊥
    new_another k was runs unmarked not_marked y brought (offer, main, (does, carried), new) =
        let b = by offer main does carried in
        elim (cases_eq was.id b.owner.id) [
          | inl same ↦ not_marked (marks offer main does carried ∙ ap Some (sym same))
          | inr other ↦
              so_far b.k b.owner b.runs b.unmarked y (owners offer main does carried y new) (brought_followed limits ok steps (Others b.owner.id) k was runs unmarked other y brought)
        ]

  -- ---- one step

  module _ (s : Step) (o : Outcome) (after : State) (m : Moves (run limits steps) s o after) (taken : next (run limits steps) s ≡ Ok (o, after)) (k : ℕ) (found : Operation)
      (now : Runs after k found) (unmarked : found.is_marked ≡ false) (y : Ref) where
    abbrev P : ℕ → Type 0
    P = Others found.id

    not_standing : next_ref state.heap ≡ Some y → IsInUse state.heap y → ⊥
    not_standing n used = none-some used.0 (sym (taken_all state.limits.slots state.heap (I.sound.heap) (Single 0 0) y n).1 ∙ used.1)

    no_known : BroughtFrom limits ok steps s o after m taken k found y → IsFollowed state (Others found.id) y → ⊥
    no_known (brought_then ran b) known = so_far k ran.was ran.at_k (ran.unmarked unmarked) y b (subst (λ i. IsFollowed state (Others i) y) ran.id known)
    no_known (is_made ran go n none) known = not_standing n (followed_used state I P known)

    -- its own step, in which it swaps nothing in
    no_swap : BroughtFrom limits ok steps s o after m taken k found y → (operation : Operation) → Runs state k operation → IsSwapIn (action_of state operation) → ⊥
    no_swap (brought_then ran b) operation runs swap =
        brought_none state ran.was y b (subst (λ (x : Operation). IsSwapIn (action_of state x)) (same_Some _ _ (sym runs ∙ ran.at_k)) swap)
    no_swap (is_made ran go n none) operation runs swap = none (subst (λ (x : Operation). IsSwapIn (action_of state x)) (same_Some _ _ (sym runs ∙ ran.at_k)) swap)

    its_id : BroughtFrom limits ok steps s o after m taken k found y → (operation : Operation) → Runs state k operation → operation.id ≡ found.id
    its_id (brought_then ran b) operation runs = ap (λ (x : Operation). x.id) (same_Some _ _ (sym runs ∙ ran.at_k)) ∙ sym ran.id
    its_id (is_made ran go n none) operation runs = ap (λ (x : Operation). x.id) (same_Some _ _ (sym runs ∙ ran.at_k)) ∙ sym ran.id

    its_place : BroughtFrom limits ok steps s o after m taken k found y → (j : ℕ) (operation : Operation) → Runs state j operation → operation.id ≡ found.id → j ≡ k
    its_place (brought_then ran b) j operation runs same = H.ids.distinct j k operation ran.was runs ran.at_k (same ∙ ran.id)
    its_place (is_made ran go n none) j operation runs same = H.ids.distinct j k operation ran.was runs ran.at_k (same ∙ ran.id)

    -- what a step of nobody's, or one that ends, leaves
    at_rest : BroughtFrom limits ok steps s o after m taken k found y → WasFollowed state I (Others found.id) y → (s ≡ step.Go (suc k) → ⊥) → ⊥
    at_rest from (inl known) other = no_known from known
    at_rest (brought_then ran b) (inr none) other =
        let used = followed_used state I (λ id. Unit {0}) (brought_followed limits ok steps (λ id. Unit {0}) k ran.was ran.at_k (ran.unmarked unmarked) tt y b) in none-some used.0 (sym none ∙ used.1)
    at_rest (is_made ran go n none) (inr nothing) other = other go

    no_new : BroughtFrom limits ok steps s o after m taken k found y → (actor : ℕ) (operation : Operation) (is : operation_of state actor ≡ Some operation) (its : Root)
        (is_open : root_at state (handle_of operation.call) ≡ Some its) (go : s ≡ step.Go actor)
        (went : next state (step.Go actor) ≡ Ok (o, settled state (gone state actor operation))) → Brings limits ok steps P actor operation is its is_open o went y → ⊥
    no_new (brought_then ran b) actor operation is its is_open go went new =
        new_another P actor operation is its is_open o went k ran.was ran.at_k (ran.unmarked unmarked) (λ marked. ran.not_marked unmarked (ap (marks_in state) go ∙ marked)) y b new
    no_new (is_made ran made n none) actor operation is its is_open go went new = not_standing n (new_used P actor operation is its is_open o went y new)

  module _ (k : ℕ) (found : Operation) (y : Ref) where
    sealed_by : (s : Step) (o : Outcome) (after : State) (m : Moves (run limits steps) s o after) (taken : next (run limits steps) s ≡ Ok (o, after)) → Runs after k found →
        (unmarked : found.is_marked ≡ false) → BroughtFrom limits ok steps s o after m taken k found y → IsFollowed after (Others found.id) y → ⊥
    sealed_by s o after (Begins d) taken now unmarked from followed =
        at_rest s o after (Begins d) taken k found now unmarked y from (rest_followed state I (Others found.id) s o after (Begins d) tt followed) (λ go. let wrong : ⊥ = cc go in wrong)
    sealed_by s o after (Sweeps spent) taken now unmarked from followed =
        at_rest s o after (Sweeps spent) taken k found now unmarked y from (rest_followed state I (Others found.id) s o after (Sweeps spent) tt followed) (λ go. let wrong : ⊥ = cc go in wrong)
    sealed_by s o after (GivesUp d is a) taken now unmarked from followed =
        at_rest s o after (GivesUp d is a) taken k found now unmarked y from (rest_followed state I (Others found.id) s o after (GivesUp d is a) tt followed) (λ go. let wrong : ⊥ = cc go in wrong)
    sealed_by s o after (Ends {actor} d is a) taken now unmarked from followed =
        at_rest s o after (Ends d is a) taken k found now unmarked y from (rest_followed state I (Others found.id) s o after (Ends d is a) tt followed)
        (λ go. of_end state actor k (cc go) found now)
    sealed_by s o after (Goes {actor} {operation} {action} d is a g) taken now unmarked from followed = by (is_of (suc k) (step.Go actor))
      where
        going : GoesOn (action_of state operation)
        going = subst GoesOn (sym a) g

        offers : (offer : Descriptor) → settles (action_of state operation) ≡ Some offer → stands_in (word_at state (handle_of operation.call)) offer ≡ true →
            word_at state (handle_of operation.call) ≡ Offer offer
        offers offer settled stands = same_offer state H actor operation offer is settled (handle_of operation.call) stands

        by : Dec (IsOf (suc k) (step.Go actor)) → ⊥
        by (yes own) =
            let runs = at_place state actor k operation own is in
            let (its, is_open) = handle_open state I (λ id. Unit {0}) actor k operation is runs tt going in
            elim (other_followed state I (Others found.id) actor k operation is runs own
            (λ other. other (its_id s o after (Goes d is a g) taken k found now unmarked y from operation runs)) its is_open
            (no_swap s o after (Goes d is a g) taken k found now unmarked y from operation runs) (Brings limits ok steps (Others found.id) actor operation is its is_open o taken) offers
            (λ i main previous e. failed_over limits steps ok actor operation i main previous is e
            (safe_of (subst (λ x. AllHold (Safe state operation.epoch) state.heap (action_wants x)) e (step_claims state I k operation runs)).1.0).used)
            (λ offer main does carried.
            let new = brings_roots limits ok steps (Others found.id) actor operation is its is_open o taken offer main does carried in (inr new.0, λ q e. inr (new.1 q e)))
            (brings_below limits ok steps (Others found.id) actor operation is its is_open o taken) o (Goes d is a g) followed) [
              | inl known ↦ no_known s o after (Goes d is a g) taken k found now unmarked y from known
              | inr new ↦ no_new s o after (Goes d is a g) taken k found now unmarked y from actor operation is its is_open refl taken new
            ]
        by (no apart) =
            let (j, place, runs) = place_of_actor state actor operation is in
            let counts : Others found.id operation.id =
            λ same. apart (place ∙ ap suc (its_place s o after (Goes d is a g) taken k found now unmarked y from j operation runs same)) in
            let (its, is_open) = handle_open state I (λ id. Unit {0}) actor j operation is runs tt going in
            elim (counting_followed state I (Others found.id) actor j operation is runs counts going (Brings limits ok steps (Others found.id) actor operation is its is_open o taken) offers
            (λ offer main does carried.
            let new = brings_roots limits ok steps (Others found.id) actor operation is its is_open o taken offer main does carried in (inr new.0, λ q e. inr (new.1 q e)))
            (λ q slot new stands z c. elim (brings_below limits ok steps (Others found.id) actor operation is its is_open o taken q slot new stands z c) [
              | inl known ↦ inl (inl known)
              | inr more ↦ inr more
            ]) o (Goes d is a g) followed) [
              | inl was ↦ at_rest s o after (Goes d is a g) taken k found now unmarked y from was (λ go. apart (cc go))
              | inr new ↦ no_new s o after (Goes d is a g) taken k found now unmarked y from actor operation is its is_open refl taken new
            ]

  pub sealed_next : (s : Step) → AllSealed (next_state (run limits steps) s)
  sealed_next s = by_answer (next state s) refl (moves state s)
    where
      by_answer : (answer : Answer) → next state s ≡ answer → MovesIfTaken state s answer → AllSealed (state_after state answer)
      by_answer (Ok done) e m k found now unmarked y b followed =
          sealed_by k found y s done.0 done.1 m e now unmarked (brought_from limits ok steps s done.0 done.1 m e k found now unmarked y b) followed
      by_answer (Err why) e m k found now unmarked y b followed = so_far k found now unmarked y b followed

sealed_at_first : (limits : Bounds) → AllSealed (first_state limits)
unfolding first_state
sealed_at_first limits k operation runs unmarked y b followed = none_found limits.actors k operation runs

pub sealed_along : (limits : Bounds) → AreBounds limits → (steps : List Step) → AllSealed (run limits steps)
unfolding run_from
sealed_along limits ok =
    by_last (λ xs. AllSealed (run limits xs)) (sealed_at_first limits) (λ xs s h. subst AllSealed (sym (run_push (first_state limits) xs s)) (sealed_next limits ok xs h s))
