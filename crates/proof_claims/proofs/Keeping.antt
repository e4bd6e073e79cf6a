-- After every list of steps what a copy has made for its offer is private to it, or some handle holds it, until the offer is carried out or the copy finds that it was taken back.
use Rattle.std.proofs.Common.{◌≡◌, inl, inr, ℕ, suc, ◌+◌, ◌||◌, Bool, true, false, List, [], ◌∷◌, ◌++◌, Contains, Option, Some, None, Ok, Err, cond, is_some, refl, sym, ap, subst, ◌∙◌, arith}
use Rattle.std.proofs.lemmas.List.Elements.{Contains-append_left, Contains-push}
use Rattle.std.proofs.lemmas.Option.{none-some, same_Some}
use Rattle.proof_claims.specs.Beneath.history.specs.declared.calls.Call.{Call}
use Rattle.proof_claims.specs.Beneath.history.specs.declared.calls.Call.TheVariants.{Snapshot}
use Rattle.proof_claims.specs.Beneath.history.proofs.Places.{option_tested}
use Rattle.proof_claims.specs.Beneath.slot_arena.specs.declared.refs.Ref.{Ref}
use Rattle.proof_claims.specs.Beneath.slot_arena.specs.Heaps.{next_ref}
use Rattle.proof_claims.specs.Beneath.machine_model.specs.declared.actions.Action.TheVariants as act
use Rattle.proof_claims.specs.Beneath.machine_model.specs.declared.copying.CopyLine.TheVariants as copy
use Rattle.proof_claims.specs.Beneath.machine_model.specs.declared.lines.Line.{Line}
use Rattle.proof_claims.specs.Beneath.machine_model.specs.declared.lines.Line.TheVariants as line
use Rattle.proof_claims.specs.Beneath.machine_model.specs.declared.operations.Operation.{Operation}
use Rattle.proof_claims.specs.Beneath.machine_model.specs.declared.reading.After.{After}
use Rattle.proof_claims.specs.Beneath.machine_model.specs.declared.reading.After.TheVariants.{Goes as Continues, Gives}
use Rattle.proof_claims.specs.Beneath.machine_model.specs.declared.roots.Complete.{Complete}
use Rattle.proof_claims.specs.Beneath.machine_model.specs.declared.roots.RootLine.{RootLine}
use Rattle.proof_claims.specs.Beneath.machine_model.specs.declared.roots.Descriptor.{Descriptor}
use Rattle.proof_claims.specs.Beneath.machine_model.specs.declared.steps.Bounds.{Bounds}
use Rattle.proof_claims.specs.Beneath.machine_model.specs.declared.steps.Outcome.{Outcome}
use Rattle.proof_claims.specs.Beneath.machine_model.specs.declared.steps.Step.{Step}
use Rattle.proof_claims.specs.Beneath.machine_model.specs.declared.steps.Step.TheVariants as step
use Rattle.proof_claims.specs.Beneath.machine_model.specs.Acting.{mark_after, operation_after, private_after, with_made}
use Rattle.proof_claims.specs.Beneath.machine_model.specs.Calls.{handle_of, opens_handle}
use Rattle.proof_claims.specs.Beneath.machine_model.specs.Copying.{after_offer, copied_reply, copy_after_complete, copy_if_made}
use Rattle.proof_claims.specs.Beneath.machine_model.specs.Lines.{new_try}
use Rattle.proof_claims.specs.Beneath.machine_model.specs.Machine.{Answer, AreBounds, is_taken_step, next, next_state, number_for, run, run_from, state_after}
use Rattle.proof_claims.specs.Beneath.machine_model.specs.Moves.{Moves, MovesIfTaken}
use Rattle.proof_claims.specs.Beneath.machine_model.specs.Operations.{action_of, after_root, from_root, line_action, line_after}
use Rattle.proof_claims.specs.Beneath.machine_model.specs.States.{State, first_state, operation_of, word_at}
use Rattle.proof_claims.specs.Beneath.machine_model.specs.Swapping.{complete_action, complete_after, is_plain, root_after}
use Rattle.proof_claims.specs.Beneath.machine_model.proofs.Actors.{IsOf, mark_one, mark_only, marks_in, not_own_go}
use Rattle.proof_claims.specs.Beneath.machine_model.proofs.Along.{by_last, run_push}
use Rattle.proof_claims.specs.Beneath.machine_model.proofs.Fates.{Comes, began, comes, gave, rested, went}
use Rattle.proof_claims.specs.Beneath.machine_model.proofs.Found.{none_found}
use Rattle.proof_claims.specs.Beneath.machine_model.proofs.Moves.{moves}
use Rattle.proof_claims.specs.Beneath.proof_garbage.proofs.Swaps.{complete_leaves}
use Rattle.proof_claims.specs.Beneath.proof_generations.specs.Running.{Runs}
use Rattle.proof_claims.specs.Beneath.proof_generations.proofs.Lines.Copy.{HasOwn, IsOwn, second_fits}
use Rattle.proof_claims.specs.Beneath.proof_generations.proofs.Offers.Marks.{complete_mark, unmarked_before}
use Rattle.proof_claims.specs.Beneath.proof_generations.proofs.Roots.Kept.{FreshFrom, fresh_from, fresh_in, fresh_of, had, new}
use Rattle.proof_claims.specs.Beneath.proof_generations.proofs.Roots.OfLists.{has_handles_along}
use Rattle.proof_claims.specs.Beneath.proof_generations.proofs.Roots.Own.{first_none}
use Rattle.proof_claims.specs.Beneath.proof_order.proofs.Openings.Branches.{IsCleared}
use Rattle.proof_claims.specs.Beneath.proof_followed.proofs.Cleared.{cleared_made, first_uncleared}
use Rattle.proof_claims.specs.Held.{Held, OfHandle, first_held, held_after}
use Rattle.proof_claims.specs.Changes.{change_by, change_going, change_of, offers, second_claims}
use Rattle.proof_claims.specs.Claims.{Has, held_from, held_of}
use Rattle.proof_claims.proofs.Along.{comes as is_added, held_push}
use Rattle.proof_claims.proofs.HandleClaims.{IsWithHandle, HandleLetsGo, closes, finds_carried, finds_taken_back, with_handle_after}
use Rattle.proof_claims.proofs.MadeRoots.{AllKeep, IsKeeping, IsKept, lets_go_own}

-- ---- lines

-- where a clear is about to make its root the branch was just made
root_not : (call : Call) (r b : Ref) → IsCleared (from_root call r) b → ⊥
root_not call r b is = grind arith

module _ (state : State) (operation : Operation) (b : Ref) where
  root_uncleared : (l : RootLine) → IsCleared (line_after state operation (line.Root l)) b → ⊥
  root_uncleared l is = by (root_after state.heap operation.access (word_at state (handle_of operation.call)) l) is
    where
      by : (a : After RootLine Ref) → IsCleared (after_root operation a) b → ⊥
      by (Continues next) is = is
      by (Gives r) is = root_not operation.call r b is

-- who goes on completing an offer isn't at the step that carries it out
goes_on_not : (state : State) (operation : Operation) (c next : Complete) (offer : Descriptor) (main : Ref) →
    complete_after state.heap operation.access (word_at state (handle_of operation.call)) c ≡ Continues next → complete_action c ≡ act.Complete offer main → ⊥
goes_on_not state operation c next offer main goes acts = grind arith

ended_none : (operation : Operation) (b : Bool) (x : Bool) (q : Ref) → fresh_in x (cond b (line.End (copied_reply operation.call operation.opens)) new_try) ≡ Some q → ⊥
ended_none operation true x q e = none-some q e
ended_none operation false x q e = none-some q e

-- a second root is a snapshot's
pub second_opens : (call : Call) (second : Option Ref) (q : Ref) → second_fits call second ≡ true → second ≡ Some q → opens_handle call ≡ true
second_opens (Snapshot h) second q fits e = refl
second_opens call None q fits e = absurd (none-some q e)
second_opens call (Some t) q fits e = grind arith

-- what a step of an operation lets go it lets go where it is to carry its offer out
own_completes : (state : State) (q : Ref) (s : Step) (actor : ℕ) (was : Operation) → HandleLetsGo state q s → s ≡ step.Go actor → operation_of state actor ≡ Some was →
    (offer : Descriptor) × (main : Ref) × (action_of state was ≡ act.Complete offer main)
own_completes state q s actor was (closes a handle number same) e runs = let bad : ⊥ = cc e in absurd bad
own_completes state q s actor was (finds_carried a operation offer main c runs_now acts on done same) e runs =
    let place : a ≡ actor = cc e in
    let one : was ≡ operation = same_Some was operation (sym runs ∙ ap (operation_of state) (sym place) ∙ runs_now) in
    (offer, main, ap (action_of state) one ∙ acts)
own_completes state q s actor was (finds_taken_back a operation offer main c x runs_now acts on unmarked is) e runs =
    let place : a ≡ actor = cc e in
    let one : was ≡ operation = same_Some was operation (sym runs ∙ ap (operation_of state) (sym place) ∙ runs_now) in
    (offer, main, ap (action_of state) one ∙ acts)

module _ (limits : Bounds) (ok : AreBounds limits) (xs : List Step) (so_far : AllKeep (run limits xs) (held_of limits xs)) (s : Step) (o : Outcome) (after : State)
    (m : Moves (run limits xs) s o after) where
  abbrev state : State
  state = run limits xs

  abbrev held : Held
  held = held_of limits xs

  abbrev later : Held
  later = held_after (change_of state held s) held

  -- ---- an operation that rests

  module _ (k : ℕ) (was : Operation) (runs : Runs (run limits xs) k was) where
    handle_rests : was.is_marked ≡ false → (IsOf (suc k) s → ⊥) → (x : Bool) (q : Ref) → fresh_in x was.line ≡ Some q → IsWithHandle held q → IsWithHandle later q
    handle_rests unmarked other x q e has = elim (with_handle_after state held q s has) [
      | inl still ↦ still
      | inr lets ↦ absurd (not_own_go (suc k) s other (lets_go_own limits ok xs k was runs unmarked x q e s o after m lets))
    ]

    rests : (found : Operation) → found ≡ mark_one (marks_in state s) was → (IsOf (suc k) s → ⊥) → IsKeeping found later
    rests found it other =
        let same = it ∙ mark_only (marks_in state s) was in
        let its = so_far k was runs in
        let line_is = ap (λ (x : Operation). x.line) same in
        let private_is = ap (λ (x : Operation). x.private) same in
        record {
          roots = λ unmarked x q e.
              let unmarked_then = unmarked_before (marks_in state s) was (sym (ap (λ (x : Operation). x.is_marked) it) ∙ unmarked) in
              let has = ap (fresh_in x) (sym line_is) ∙ e in
              subst (λ rs. IsKept rs later q) (sym private_is)
              (elim (its.roots unmarked_then x q has) [ inl private ↦ inl private | inr handle ↦ inr (handle_rests unmarked_then other x q has handle) ]);
          branch = λ b is. subst (λ rs. Contains rs b) (sym private_is) (its.branch b (subst (λ l. IsCleared l b) line_is is));
          number = ap (λ (x : Operation). is_some x.opens) same ∙ its.number ∙ ap (λ (x : Operation). opens_handle x.call) (sym same);
        }

    -- ---- an operation that goes on

    module _ (is : s ≡ step.Go (suc k)) where
      its : IsKeeping was held
      its = so_far k was runs

      abbrev next_private : List Ref
      next_private = private_after state was.private (action_of state was)

      handle_stays : (q : Ref) → ((offer : Descriptor) (main : Ref) → action_of state was ≡ act.Complete offer main → ⊥) → IsWithHandle held q → IsWithHandle later q
      handle_stays q other has = elim (with_handle_after state held q s has) [
        | inl still ↦ still
        | inr lets ↦ let (offer, main, acts) = own_completes state q s (suc k) was lets is runs in absurd (other offer main acts)
      ]

      -- what is made now is private
      made_private : (q : Ref) → next_ref state.heap ≡ Some q → Contains (with_made was.private (next_ref state.heap)) q
      made_private q n = subst (λ r. Contains (with_made was.private r) q) (sym n) (Contains-push was.private q)

      branch_private : (b : Ref) (l : Line) → IsCleared (line_after state was l) b → Contains (private_after state was.private (line_action state was l)) b
      branch_private b (line.Copy (copy.Empty root main)) cleared = made_private b (cleared_made state was b (line.Copy (copy.Empty root main)) cleared)
      branch_private b (line.Copy (copy.Successor root main)) cleared = made_private b (cleared_made state was b (line.Copy (copy.Successor root main)) cleared)
      branch_private b (line.Copy (copy.Second root main successor)) cleared = made_private b (cleared_made state was b (line.Copy (copy.Second root main successor)) cleared)
      branch_private b (line.Copy (copy.Cleared root main branch)) cleared = made_private b (cleared_made state was b (line.Copy (copy.Cleared root main branch)) cleared)
      branch_private b (line.Copy l) cleared = absurd (grind arith)
      branch_private b (line.Root l) cleared = absurd (root_uncleared state was b l cleared)
      branch_private b l cleared = absurd (grind arith)

      module _ (x : Bool) (q : Ref) where
        -- a root that is made before another one
        by_second : (root main successor : Ref) → was.line ≡ line.Copy (copy.Second root main successor) → was.is_marked ≡ false → fresh_in x was.line ≡ Some q →
            fresh_in x (line_after state was (line.Copy (copy.Second root main successor))) ≡ Some q → IsKept next_private later q
        by_second root main successor on unmarked f e = by (next_ref state.heap) refl
          where
            acts : action_of state was ≡ act.MakeRoot main
            acts = ap (line_action state was) on

            by : (made : Option Ref) → next_ref state.heap ≡ made → IsKept next_private later q
            by None n = absurd (none-some q (sym (ap (λ r. fresh_in x (copy_if_made was (copy.Second root main successor) r)) n) ∙ e))
            by (Some made) n =
                let private_is : next_private ≡ was.private ++ made ∷ [] = ap (private_after state was.private) acts ∙ ap (with_made was.private) n in
                elim (its.roots unmarked x q f) [
                  | inl private ↦ inl (subst (λ rs. Contains rs q) (sym private_is) (Contains-append_left was.private (made ∷ []) q private))
                  | inr has ↦ inr (handle_stays q (λ offer old e. let bad : ⊥ = (let both : act.MakeRoot main ≡ act.Complete offer old = sym acts ∙ e in cc both) in bad) has)
                ]

        -- one that is offered
        by_offer : (offer : Descriptor) → was.line ≡ line.Copy (copy.Offer offer) → fresh_of x offer ≡ Some q →
            fresh_in x (line_after state was (line.Copy (copy.Offer offer))) ≡ Some q → IsKept next_private later q
        by_offer offer on f e = by (is_plain (word_at state (handle_of was.call)) offer.root) refl
          where
            acts : action_of state was ≡ act.Offer offer
            acts = ap (line_action state was) on

            own : IsOwn was.call was.id was.opens (was.attempt + 1) offer
            own = subst (λ l. HasOwn (record was { line = l })) on ((has_handles_along limits xs).0.own k was runs)

            stands : is_plain (word_at state (handle_of was.call)) offer.root ≡ true → later ≡ held_after (offers true was.private (handle_of was.call) offer) held
            stands p =
                ap (λ c. held_after c held)
                (ap (change_of state held) is ∙ ap (change_going state held) runs ∙ ap (change_by state held was) acts ∙ ap (λ b. offers b was.private (handle_of was.call) offer) p)

            second_there : (opens second : _) (n : ℕ) → opens ≡ Some n → second ≡ Some q →
                Contains (record { by = OfHandle (handle_of was.call); on = offer.successor } ∷ second_claims opens second) (record { by = OfHandle n; on = q })
            second_there (Some n') (Some t) n is_n is_t =
                subst (λ z. Contains (record { by = OfHandle (handle_of was.call); on = offer.successor } ∷ second_claims (Some n') (Some t)) (record { by = OfHandle z; on = q })) (same_Some _ _ is_n)
                (subst (λ z. Contains (record { by = OfHandle (handle_of was.call); on = offer.successor } ∷ second_claims (Some n') (Some t)) (record { by = OfHandle n'; on = z }))
                (same_Some _ _ is_t) (1, omega arith, refl))
            second_there None second n is_n is_t = absurd (none-some n is_n)
            second_there (Some n') None n is_n is_t = absurd (none-some q is_t)

            by_side : (x : Bool) → fresh_of x offer ≡ Some q → IsWithHandle (held_after (offers true was.private (handle_of was.call) offer) held) q
            by_side true f = (
              handle_of was.call,
              subst (Has (held_after (offers true was.private (handle_of was.call) offer) held) (OfHandle (handle_of was.call))) (same_Some _ _ f)
                  (is_added (offers true was.private (handle_of was.call) offer) held (OfHandle (handle_of was.call)) offer.successor (0, omega arith, refl)),
            )
            by_side false f =
                let (n, opens) = option_tested was.opens (its.number ∙ second_opens was.call offer.second q own.second f) in
                (n, is_added (offers true was.private (handle_of was.call) offer) held (OfHandle n) q (second_there offer.opens offer.second n (own.number ∙ opens) f))

            by : (b : Bool) → is_plain (word_at state (handle_of was.call)) offer.root ≡ b → IsKept next_private later q
            by true p = inr (subst (λ h. IsWithHandle h q) (sym (stands p)) (by_side x f))
            by false p = absurd (none-some q (sym (ap (λ b. fresh_in x (after_offer offer b)) p) ∙ e))

        -- one whose offer is to be carried out
        by_complete : (c : Complete) → was.line ≡ line.Copy (copy.Complete c) → was.is_marked ≡ false → fresh_in x was.line ≡ Some q →
            fresh_in x (line_after state was (line.Copy (copy.Complete c))) ≡ Some q → IsKept next_private later q
        by_complete c on unmarked f e = by (complete_after state.heap was.access (word_at state (handle_of was.call)) c) refl e
          where
            acts : action_of state was ≡ complete_action c
            acts = ap (line_action state was) on

            by : (a : After Complete Bool) → complete_after state.heap was.access (word_at state (handle_of was.call)) c ≡ a → fresh_in x (copy_after_complete was a) ≡ Some q →
                IsKept next_private later q
            by (Gives done) goes e = absurd (ended_none was (done || was.is_marked) x q e)
            by (Continues onward) goes e = elim (its.roots unmarked x q f) [
              | inl private ↦ inl (subst (λ rs. Contains rs q) (sym (ap (private_after state was.private) acts ∙ complete_leaves state was.private c.offer c.line)) private)
              | inr has ↦ inr (handle_stays q (λ offer main e. goes_on_not state was c onward offer main goes (sym acts ∙ e)) has)
            ]

        -- by the line where it was before
        by_line : (l : Line) → was.line ≡ l → mark_after was.is_marked (line_action state was l) ≡ false → fresh_in x l ≡ Some q → fresh_in x (line_after state was l) ≡ Some q →
            IsKept next_private later q
        by_line (line.Copy (copy.Second root main successor)) on unmarked f e = by_second root main successor on unmarked (ap (fresh_in x) on ∙ f) e
        by_line (line.Copy (copy.Offer offer)) on unmarked f e = by_offer offer on f e
        by_line (line.Copy (copy.Complete c)) on unmarked f e = by_complete c on (sym (complete_mark was.is_marked c) ∙ unmarked) (ap (fresh_in x) on ∙ f) e
        by_line l on unmarked f e = absurd (none-some q f)

        root_kept : mark_after was.is_marked (action_of state was) ≡ false → fresh_in x (line_after state was was.line) ≡ Some q → IsKept next_private later q
        root_kept unmarked e = by (fresh_from state was was.line x q e)
          where
            by : FreshFrom state was was.line x q → IsKept next_private later q
            by (had f) = by_line was.line refl unmarked f e
            by (new main a n side) = inl (subst (λ d. Contains (private_after state was.private d) q) (sym a) (made_private q n))

      goes : (found : Operation) → found ≡ mark_one (marks_in state s) (operation_after state was) → IsKeeping found later
      goes found it =
          let same = it ∙ mark_only (marks_in state s) (operation_after state was) in
          let line_is = ap (λ (x : Operation). x.line) same in
          let private_is = ap (λ (x : Operation). x.private) same in
          record {
            roots = λ unmarked x q e.
                subst (λ rs. IsKept rs later q) (sym private_is)
                (root_kept x q (unmarked_before (marks_in state s) (operation_after state was) (sym (ap (λ (x : Operation). x.is_marked) it) ∙ unmarked)) (ap (fresh_in x) (sym line_is) ∙ e));
            branch = λ b cleared. subst (λ rs. Contains rs b) (sym private_is) (branch_private b was.line (subst (λ l. IsCleared l b) line_is cleared));
            number = ap (λ (x : Operation). is_some x.opens) same ∙ its.number ∙ ap (λ (x : Operation). opens_handle x.call) (sym same);
          }

  -- ---- each operation after the step

  numbered : (b : Bool) (n : ℕ) → is_some (cond b (Some n) None) ≡ b
  numbered true n = refl
  numbered false n = refl

  by_comes : (k : ℕ) (found : Operation) → Comes state s k found → IsKeeping found later
  by_comes k found (began call number is d it) = subst (λ (x : Operation). IsKeeping x later) (sym it) (record {
    roots = λ unmarked x q e. absurd (first_none call x q e);
    branch = λ b cleared. absurd (first_uncleared call b cleared);
    number = numbered (opens_handle call) (number_for state number);
  })
  by_comes k found (gave was answer is at_k may it) = subst (λ (x : Operation). IsKeeping x later) (sym it) (record {
    roots = λ unmarked x q e. absurd (none-some q e);
    branch = λ b cleared. absurd cleared;
    number = (so_far k was at_k).number;
  })
  by_comes k found (rested was at_k it other) = rests k was at_k found it other
  by_comes k found (went was is at_k g it) = goes k was at_k is found it

  pub keeps_after : AllKeep after later
  keeps_after k found at_k = by_comes k found (comes state s o after m k found at_k)

module _ (limits : Bounds) (ok : AreBounds limits) where
  first_keeps : AllKeep (first_state limits) first_held
  unfolding first_state
  first_keeps k operation at_k = absurd (none_found limits.actors k operation at_k)

  by_answer : (xs : List Step) (s : Step) → AllKeep (run limits xs) (held_of limits xs) → (a : Answer) → MovesIfTaken (run limits xs) s a →
      AllKeep (state_after (run limits xs) a) (cond (is_taken_step a) (held_after (change_of (run limits xs) (held_of limits xs) s) (held_of limits xs)) (held_of limits xs))
  by_answer xs s h (Ok done) m = keeps_after limits ok xs h s done.0 done.1 m
  by_answer xs s h (Err refusal) m = h

  one_more : (xs : List Step) (s : Step) → AllKeep (run limits xs) (held_of limits xs) → AllKeep (run limits (xs ++ s ∷ [])) (held_of limits (xs ++ s ∷ []))
  one_more xs s h =
      subst (λ (state : State). AllKeep state (held_of limits (xs ++ s ∷ []))) (sym (run_push (first_state limits) xs s))
      (subst (λ (held : Held). AllKeep (next_state (run limits xs) s) held) (sym (held_push limits xs s)) (by_answer xs s h (next (run limits xs) s) (moves (run limits xs) s)))

  pub keeping : (xs : List Step) → AllKeep (run limits xs) (held_of limits xs)
  unfolding run_from held_from
  keeping xs = by_last (λ xs. AllKeep (run limits xs) (held_of limits xs)) first_keeps one_more xs
