-- Who offered finds that its offer wasn't carried out: what it made for it is garbage, holds nothing any more, and no handle holds it.
use Rattle.std.proofs.Common.{◌≡◌, ◌⊎◌, inl, inr, ℕ, suc, ◌||◌, Bool, true, false, List, [], ◌∷◌, ◌++◌, Contains, Option, Some, None, cond, refl, sym, ap, subst, ◌∙◌, append-nil, arith}
use Rattle.std.proofs.lemmas.Bool.{true≢false}
use Rattle.std.proofs.lemmas.List.Elements.{All-head, Contains-append_cases, Contains-append_right}
use Rattle.std.proofs.lemmas.Option.{none-some, same_Some}
use Rattle.proof_claims.specs.Beneath.slot_arena.specs.declared.refs.Ref.{Ref}
use Rattle.proof_claims.specs.Beneath.slot_arena.specs.Heaps.{node_at, refs_of_option, refs_of_slot, stored}
use Rattle.proof_claims.specs.Beneath.machine_model.specs.declared.actions.Action.TheVariants as act
use Rattle.proof_claims.specs.Beneath.machine_model.specs.declared.copying.CopyLine.TheVariants as copy
use Rattle.proof_claims.specs.Beneath.machine_model.specs.declared.lines.Line.TheVariants as line
use Rattle.proof_claims.specs.Beneath.machine_model.specs.declared.lines.Purpose.{Purpose}
use Rattle.proof_claims.specs.Beneath.machine_model.specs.declared.operations.Operation.{Operation}
use Rattle.proof_claims.specs.Beneath.machine_model.specs.declared.roots.Complete.{Complete}
use Rattle.proof_claims.specs.Beneath.machine_model.specs.declared.roots.CompleteLine.{CompleteLine}
use Rattle.proof_claims.specs.Beneath.machine_model.specs.declared.roots.CompleteLine.TheVariants as complete
use Rattle.proof_claims.specs.Beneath.machine_model.specs.declared.roots.Descriptor.{Descriptor}
use Rattle.proof_claims.specs.Beneath.machine_model.specs.declared.roots.Root.{Root}
use Rattle.proof_claims.specs.Beneath.machine_model.specs.declared.roots.RootWord.TheVariants.{Offer}
use Rattle.proof_claims.specs.Beneath.machine_model.specs.declared.steps.Bounds.{Bounds}
use Rattle.proof_claims.specs.Beneath.machine_model.specs.declared.steps.Outcome.{Outcome}
use Rattle.proof_claims.specs.Beneath.machine_model.specs.declared.steps.Step.{Step}
use Rattle.proof_claims.specs.Beneath.machine_model.specs.declared.steps.Step.TheVariants as step
use Rattle.proof_claims.specs.Beneath.machine_model.specs.Acting.{gone, operation_after, private_after}
use Rattle.proof_claims.specs.Beneath.machine_model.specs.Calls.{handle_of}
use Rattle.proof_claims.specs.Beneath.machine_model.specs.Copying.{copied_reply}
use Rattle.proof_claims.specs.Beneath.machine_model.specs.Counting.{settled}
use Rattle.proof_claims.specs.Beneath.machine_model.specs.Lines.{new_try}
use Rattle.proof_claims.specs.Beneath.machine_model.specs.Machine.{AreBounds, is_taken_step, run}
use Rattle.proof_claims.specs.Beneath.machine_model.specs.Moves.{Moves}
use Rattle.proof_claims.specs.Beneath.machine_model.specs.Operations.{action_of, line_action, line_after}
use Rattle.proof_claims.specs.Beneath.machine_model.specs.States.{State, operation_of, root_at, root_of, word_at, word_of}
use Rattle.proof_claims.specs.Beneath.machine_model.specs.Swapping.{complete_action, is_carried_out, stands_in, swapping}
use Rattle.proof_claims.specs.Beneath.machine_model.specs.Times.{last_of}
use Rattle.proof_claims.specs.Beneath.machine_model.proofs.Frames.{limits_kept}
use Rattle.proof_claims.specs.Beneath.machine_model.proofs.Actors.{mark_only, marks_in}
use Rattle.proof_claims.specs.Beneath.machine_model.proofs.Fates.{Comes, began, comes, gave, one_at, place_of_actor, rested, went}
use Rattle.proof_claims.specs.Beneath.machine_model.proofs.Times.{run_ends, run_is}
use Rattle.proof_claims.specs.Beneath.proof_commits.specs.Runs.{HasIndirection}
use Rattle.proof_claims.specs.Beneath.proof_followed.specs.Followed.{IsFollowed, IsFollowedByAny, IsFollowedByRoots, followed_by, followed_claims, followed_wants, from_operation, from_root, from_slot}
use Rattle.proof_claims.specs.Beneath.proof_followed.specs.Grace.{IsToBring, NobodyBrings, expected_by, made_for_offer}
use Rattle.proof_claims.specs.Beneath.proof_followed.proofs.Brought.{brought_followed}
use Rattle.proof_claims.specs.Beneath.proof_followed.proofs.NeverBrought.{offered_unknown}
use Rattle.proof_claims.specs.Beneath.proof_fresh.specs.Grace.{IsPrivateToNone}
use Rattle.proof_claims.specs.Beneath.proof_fresh.proofs.At.{has_at}
use Rattle.proof_claims.specs.Beneath.proof_fresh.proofs.Lines.{LineHas}
use Rattle.proof_claims.specs.Beneath.proof_garbage.specs.Live.{refs_of_claims}
use Rattle.proof_claims.specs.Beneath.proof_garbage.proofs.Claims.{none_in, one_in}
use Rattle.proof_claims.specs.Beneath.proof_garbage.proofs.Private.{Others}
use Rattle.proof_claims.specs.Beneath.proof_generations.specs.Running.{Runs}
use Rattle.proof_claims.specs.Beneath.proof_generations.proofs.Handles.Footings.{ActionCarriesOut, RootFrom, newly, stood, swapped}
use Rattle.proof_claims.specs.Beneath.proof_generations.proofs.Offers.Marks.{unmarked_before}
use Rattle.proof_claims.specs.Beneath.proof_generations.proofs.Offers.Standing.{own_offer, try_itself}
use Rattle.proof_claims.specs.Beneath.proof_generations.proofs.Roots.Along.{ordered_along}
use Rattle.proof_claims.specs.Beneath.proof_generations.proofs.Roots.Kept.{fresh_in, fresh_of}
use Rattle.proof_claims.specs.Beneath.proof_generations.proofs.Roots.OfLists.{has_handles_along}
use Rattle.proof_claims.specs.Beneath.proof_generations.proofs.Roots.Own.{to_offer}
use Rattle.proof_claims.specs.Beneath.proof_memory.specs.Laws.{IsInUse}
use Rattle.proof_claims.specs.Beneath.proof_memory.specs.Wants.{AllHold, AnIndirection, Each, Holds, action_wants, is_indirection}
use Rattle.proof_claims.specs.Beneath.proof_memory.proofs.Claims.Uses.{Meets, all_of, meets_of, safe_of}
use Rattle.proof_claims.specs.Beneath.proof_memory.proofs.Safety.AtEachTime.{safe_along}
use Rattle.proof_claims.specs.Beneath.proof_memory.proofs.Safety.AtTimes.{action_finds}
use Rattle.proof_claims.specs.Beneath.proof_reuse.specs.Laws.{IsGarbage}
use Rattle.proof_claims.specs.Beneath.proof_shape.proofs.Runs.RunOf.{comes_to}
use Rattle.proof_claims.specs.Held.{Change, Given, Held, OfHandle, OfNode, Stays, held_after, is_in, is_kept}
use Rattle.proof_claims.specs.Changes.{change_of, completes, fate_taken_back, finds, no_change, outcome_at}
use Rattle.proof_claims.specs.Claims.{Has, held_of}
use Rattle.proof_claims.specs.Clauses.{EachIsHeld}
use Rattle.proof_claims.specs.Dropped.{IsLetGo, WasDropped, untaken}
use Rattle.proof_claims.proofs.Acts.{change_is}
use Rattle.proof_claims.proofs.Along.{dropped_later, own_still, stays}
use Rattle.proof_claims.proofs.Frame.{still_publishes}
use Rattle.proof_claims.proofs.Lists.{among, found_in}
use Rattle.proof_claims.proofs.Others.{not_swapping}
use Rattle.proof_claims.proofs.Quiet.{quiet_before, quiet_nodes}
use Rattle.proof_claims.proofs.Rooting.{offer_then, root_then, unsettled}
use Rattle.proof_claims.proofs.Rooting as rooting
use Rattle.proof_claims.proofs.Spine.{Each as EachHere, EachAfter}

-- what is made for an offer is its first or its second root
pub made_by : (offer : Descriptor) (r : Ref) → Contains (offer.successor ∷ refs_of_option offer.second) r → (x : Bool) × (fresh_of x offer ≡ Some r)
made_by offer r c = elim (Contains-append_cases (offer.successor ∷ []) (refs_of_option offer.second) r c) [
  | inl first ↦ (true, ap Some (one_in (λ z. offer.successor ≡ z) offer.successor refl r first))
  | inr rest ↦ (false, by offer.second rest)
]
  where
    by : (second : Option Ref) → Contains (refs_of_option second) r → second ≡ Some r
    by None c = none_in r c
    by (Some z) c = ap Some (one_in (λ y. z ≡ y) z refl r c)

-- who is to carry this offer out with this main node
pub its_line : (c : Complete) (offer : Descriptor) (main : Ref) → complete_action c ≡ act.Complete offer main → (c.offer ≡ offer) × (c.line ≡ complete.Swap main)
its_line c offer main e = by c.line refl
  where
    by : (l : CompleteLine) → c.line ≡ l → (c.offer ≡ offer) × (c.line ≡ complete.Swap main)
    by (complete.Swap other) is =
        let e' : act.Complete c.offer other ≡ act.Complete offer main = ap (λ x. complete_action (record c { line = x })) (sym is) ∙ e in
        (cc e', is ∙ ap complete.Swap (cc e'))
    by (complete.Reading l) is =
        let wrong : ⊥ = reads l (ap (λ x. complete_action (record c { line = x })) (sym is) ∙ e) in absurd wrong
      where
        reads : (l : _) → complete_action (record c { line = complete.Reading l }) ≡ act.Complete offer main → ⊥
        reads l e = grind arith

module _ (limits : Bounds) (ok : AreBounds limits) (xs : List Step) (h : EachHere limits xs) (actor : ℕ) (operation : Operation) (runs : operation_of (run limits xs) actor ≡ Some operation)
    (o : Outcome) (m : Moves (run limits xs) (step.Go actor) o (settled (run limits xs) (gone (run limits xs) actor operation)))
    (is_after : run limits (xs ++ step.Go actor ∷ []) ≡ settled (run limits xs) (gone (run limits xs) actor operation))
    (offer : Descriptor) (main : Ref) (acts : action_of (run limits xs) operation ≡ act.Complete offer main) (c : Complete) (on : operation.line ≡ line.Copy (copy.Complete c))
    (heap : (settled (run limits xs) (gone (run limits xs) actor operation)).heap ≡ (run limits xs).heap)
    (not_out : is_carried_out (word_at (run limits xs) (handle_of operation.call)) offer main ≡ false) (unmarked : operation.is_marked ≡ false) where
  abbrev state : State
  state = run limits xs

  abbrev held : Held
  held = held_of limits xs

  abbrev s : Step
  s = step.Go actor

  abbrev after : State
  after = settled state (gone state actor operation)

  abbrev at : ℕ
  at = handle_of operation.call

  abbrev put : State
  put = rooting.put limits ok xs h actor operation runs o m is_after (act.Complete offer main) acts

  abbrev made : List Ref
  made = offer.successor ∷ refs_of_option offer.second

  abbrev change : Change
  change = record no_change { fate = fate_taken_back made }

  abbrev later : Held
  later = held_after change held

  abbrev Lost : Ref → Type 0
  Lost j = WasDropped limits (xs ++ s ∷ []) j

  place : (k : ℕ) × (actor ≡ suc k) × Runs state k operation
  place = place_of_actor state actor operation runs

  abbrev k : ℕ
  k = place.0

  its : (c.offer ≡ offer) × (c.line ≡ complete.Swap main)
  its = its_line c offer main (ap (line_action state operation) (sym on) ∙ acts)

  its_own : own_offer operation.line ≡ Some offer
  its_own = ap own_offer on ∙ ap Some its.0

  fresh : (r : Ref) → Contains made r → (x : Bool) × (fresh_in x operation.line ≡ Some r)
  fresh r d = let (x, e) = made_by offer r d in (x, ap (fresh_in x) on ∙ ap (fresh_of x) its.0 ∙ e)

  -- ---- others don't know it

  to_bring : (r : Ref) → Contains made r → IsToBring state operation r
  to_bring r d =
      inl (subst (λ l. Contains (made_for_offer l) r) (sym on) (subst (λ (x : Descriptor). Contains (x.successor ∷ refs_of_option x.second) r) (sym its.0) d))

  unknown : (r : Ref) → Contains made r → IsFollowed state (Others operation.id) r → ⊥
  unknown r d followed = offered_unknown limits ok xs k operation place.2 unmarked r (to_bring r d) followed

  another : (j : ℕ) (was : Operation) → Runs state j was → (j ≡ k → ⊥) → was.id ≡ operation.id → ⊥
  another j was runs_j apart same = apart ((has_handles_along limits xs).0.ids.distinct j k was operation runs_j place.2 same)

  -- ---- roots lead to it neither before nor after

  none_carried : (other : Descriptor) → ActionCarriesOut put at (act.Complete offer main) other → ⊥
  none_carried other d =
      let same : act.Complete other d.main ≡ act.Complete offer main = sym d.is_it in
      let one : other ≡ offer = cc same in
      let old : d.main ≡ main = cc same in
      true≢false (sym d.carried ∙ ap (λ x. is_carried_out (word_at state at) x d.main) one ∙ ap (is_carried_out (word_at state at) offer) old ∙ not_out)

  by_others : {r : Ref} → IsFollowedByRoots after r → IsFollowed state (Others operation.id) r
  by_others (from_root g root r e is) = by (root_then limits ok xs h actor operation runs o m is_after (act.Complete offer main) acts g root e)
    where
      by : RootFrom put at (act.Complete offer main) g root → IsFollowed state (Others operation.id) r
      by (stood was e access same free) = from_root g was r e (sym same ∙ is)
      by (swapped was other c here e is) = absurd (none_carried other c)
      by (newly other n c opens here is) = absurd (none_carried other c)
  by_others (from_operation actor operation r e never c) = absurd never
  by_others (from_slot q r k d) = from_slot q r (by_others k) (subst (λ x. Contains (refs_of_slot (stored x q)) r) heap d)

  unfollowed : (r : Ref) → Contains made r → IsFollowedByRoots after r → ⊥
  unfollowed r d followed = unknown r d (by_others followed)

  root_apart : (g : ℕ) (root : Root) → root_at state g ≡ Some root → Contains made (root_of root.word) → ⊥
  root_apart g root e d = unknown (root_of root.word) d (from_root g root (root_of root.word) e refl)

  -- ---- nor is it private, or brought by another one

  next_line : line_after state operation operation.line ≡ new_try
  next_line =
      ap (line_after state operation) on
      ∙ ap (λ (x : CompleteLine). line_after state operation (line.Copy (copy.Complete (record c { line = x })))) its.1
      ∙ ap (λ b. cond (b || operation.is_marked) (line.End (copied_reply operation.call operation.opens)) new_try)
      (ap (λ (x : Descriptor). is_carried_out (word_at state at) x main) its.0 ∙ not_out)
      ∙ ap (λ b. cond b (line.End (copied_reply operation.call operation.opens)) new_try) unmarked

  pub own_private : operation.private ≡ []
  own_private =
      subst (λ l. LineHas (run_is limits xs ok) (last_of limits xs) actor operation.id operation.generation operation.private l) on
      (has_at (run_is limits xs ok) (last_of limits xs) (omega arith) actor operation (ap (λ (x : State). operation_of x actor) (run_ends limits xs) ∙ runs))

  apart_by : (r : Ref) → Contains made r → (j : ℕ) (found : Operation) → Comes state s j found → Contains found.private r → ⊥
  apart_by r d j found (began call number is denial it) e = let bad : ⊥ = cc is in bad
  apart_by r d j found (gave was answer is at_j may it) e = let bad : ⊥ = cc is in bad
  apart_by r d j found (rested was at_j it other) e =
      unknown r d
      (from_operation (suc j) was r at_j (another j was at_j (λ same. other (place.1 ∙ ap suc (sym same))))
      (Contains-append_right (refs_of_claims (followed_claims state was)) was.private r (subst (λ (x : Operation). Contains x.private r) (it ∙ mark_only (marks_in state s) was) e)))
  apart_by r d j found (went was is at_j goes it) e =
      let here : actor ≡ suc j = cc is in
      let one : was ≡ operation = same_Some was operation (sym at_j ∙ ap (operation_of state) (sym here) ∙ runs) in
      none_in r (subst (λ xs. Contains xs r) (ap (λ (x : Operation). private_after state x.private (action_of state x)) one ∙ ap (private_after state operation.private) acts ∙ own_private)
      (subst (λ (x : Operation). Contains x.private r) (it ∙ mark_only (marks_in state s) (operation_after state was)) e))

  private_to_none : (r : Ref) → Contains made r → IsPrivateToNone after r
  private_to_none r d a found runs_a e =
      let (j, is, at_j) = place_of_actor after a found runs_a in apart_by r d j found (comes state s o after m j found at_j) e

  brings_before : (r : Ref) (found was : Operation) → found.line ≡ was.line → IsToBring after found r → IsToBring state was r
  brings_before r found was same (inl d) = inl (subst (λ l. Contains (made_for_offer l) r) same d)
  brings_before r found was same (inr (q, d, names, other)) =
      inr (q, subst (λ l. Contains (made_for_offer l) q) same d, subst (λ x. Contains (refs_of_slot (stored x q)) r) heap names, λ e. other (ap expected_by same ∙ e))

  brings_none : (r : Ref) (found : Operation) → found.line ≡ new_try → IsToBring after found r → ⊥
  brings_none r found is (inl d) = none_in r (subst (λ l. Contains (made_for_offer l) r) is d)
  brings_none r found is (inr (q, d, names, other)) = none_in q (subst (λ l. Contains (made_for_offer l) q) is d)

  unbrought_by : (r : Ref) → Contains made r → (j : ℕ) (found : Operation) → Comes state s j found → found.is_marked ≡ false → IsToBring after found r → ⊥
  unbrought_by r d j found (began call number is denial it) free b = let bad : ⊥ = cc is in bad
  unbrought_by r d j found (gave was answer is at_j may it) free b = let bad : ⊥ = cc is in bad
  unbrought_by r d j found (rested was at_j it other) free b =
      let unmarked_was = unmarked_before (marks_in state s) was (ap (λ (x : Operation). x.is_marked) (sym it) ∙ free) in
      offered_unknown limits ok xs j was at_j unmarked_was r (brings_before r found was (ap (λ (x : Operation). x.line) (it ∙ mark_only (marks_in state s) was)) b)
      (brought_followed limits ok xs (Others was.id) k operation place.2 unmarked (λ same. another j was at_j (λ e. other (place.1 ∙ ap suc (sym e))) (sym same)) r (inl (fresh r d)))
  unbrought_by r d j found (went was is at_j goes it) free b =
      let here : actor ≡ suc j = cc is in
      let one : was ≡ operation = same_Some was operation (sym at_j ∙ ap (operation_of state) (sym here) ∙ runs) in
      brings_none r found (ap (λ (x : Operation). x.line) (it ∙ mark_only (marks_in state s) (operation_after state was)) ∙ ap (λ (x : Operation). line_after state x x.line) one ∙ next_line) b

  unbrought : (r : Ref) → Contains made r → NobodyBrings after r
  unbrought r d a found runs_a free b =
      let (j, is, at_j) = place_of_actor after a found runs_a in unbrought_by r d j found (comes state s o after m j found at_j) free b

  -- ---- nobody follows it any more

  hand_by : (r : Ref) (j : ℕ) (found : Operation) → Comes state s j found → Contains (followed_by after found) r → IsFollowed state (Others operation.id) r
  hand_by r j found (began call number is denial it) e = let bad : ⊥ = cc is in absurd bad
  hand_by r j found (gave was answer is at_j may it) e = let bad : ⊥ = cc is in absurd bad
  hand_by r j found (rested was at_j it other) e =
      from_operation (suc j) was r at_j (another j was at_j (λ same. other (place.1 ∙ ap suc (sym same))))
      (subst (λ (l : Bounds). Contains (followed_by (record state { limits = l }) was) r) (limits_kept state s o after m)
      (subst (λ (x : Operation). Contains (followed_by after x) r) (it ∙ mark_only (marks_in state s) was) e))
  hand_by r j found (went was is at_j goes it) e =
      let here : actor ≡ suc j = cc is in
      let one : was ≡ operation = same_Some was operation (sym at_j ∙ ap (operation_of state) (sym here) ∙ runs) in
      let then : Contains (followed_by after (operation_after state operation)) r =
      subst (λ (x : Operation). Contains (followed_by after (operation_after state x)) r) one
      (subst (λ (x : Operation). Contains (followed_by after x) r) (it ∙ mark_only (marks_in state s) (operation_after state was)) e) in
      none_in r (subst (λ l. Contains (refs_of_claims (followed_wants after.limits.hash operation.call operation.access l) ++ []) r) next_line
      (subst (λ ps. Contains (refs_of_claims (followed_wants after.limits.hash operation.call operation.access (line_after state operation operation.line)) ++ ps) r)
      (ap (private_after state operation.private) acts ∙ own_private) then))

  any_others : {r : Ref} → IsFollowedByAny after r → IsFollowed state (Others operation.id) r
  any_others (from_root g root r e is) = by_others (from_root g root r e is)
  any_others (from_operation a found r e every c) = let (j, is, at_j) = place_of_actor after a found e in hand_by r j found (comes state s o after m j found at_j) c
  any_others (from_slot q r k d) = from_slot q r (any_others k) (subst (λ x. Contains (refs_of_slot (stored x q)) r) heap d)

  pub by_nobody : (r : Ref) → Contains made r → IsFollowedByAny after r → ⊥
  by_nobody r d followed = unknown r d (any_others followed)

  -- ---- so it is garbage, and dropped

  link_by : (r : Ref) → (x : Bool) → fresh_of x offer ≡ Some r → HasIndirection state r
  link_by r x e = by x e
    where
      wants : AllHold (IsInUse state.heap) state.heap (action_wants (act.Complete offer main))
      wants = subst (λ a. AllHold (IsInUse state.heap) state.heap (action_wants a)) acts (action_finds state (safe_along limits ok xs) actor operation runs)

      second_by : (second : Option Ref) → Holds (IsInUse state.heap) state.heap (Each (refs_of_option second) AnIndirection) → second ≡ Some r → HasIndirection state r
      second_by None h e = absurd (none-some r e)
      second_by (Some q) h e = subst (HasIndirection state) (same_Some q r e) (All-head (Meets (IsInUse state.heap) state.heap AnIndirection) q [] (all_of h))

      by : (x : Bool) → fresh_of x offer ≡ Some r → HasIndirection state r
      by true e = subst (HasIndirection state) (same_Some offer.successor r e) (safe_of wants.1.1.1.0, meets_of wants.1.1.1.0)
      by false e = second_by offer.second wants.1.1.1.1.0 e

  pub link : (r : Ref) → Contains made r → HasIndirection state r
  link r d = let (x, e) = made_by offer r d in link_by r x e

  pub garbage : (r : Ref) → Contains made r → IsGarbage after r
  garbage r d = record {
    in_use = subst (λ x. IsInUse x r) (sym heap) (link r d).0;
    unfollowed = unfollowed r d;
    private_to_none = private_to_none r d;
    unbrought = unbrought r d;
  }

  change_found : change_of state held s ≡ change
  change_found =
      change_is limits ok xs h actor operation runs o m is_after (act.Complete offer main) acts change
      (ap (λ b. completes b at offer operation) not_out ∙ ap (λ l. outcome_at at offer l operation.is_marked) on ∙ ap (finds at offer) unmarked)

  lets_go : (r : Ref) → Contains made r → IsLetGo limits xs s r
  lets_go r d = record {
    taken = ap is_taken_step (comes_to state s o after m);
    lets = λ k. ap (λ (a : Change). is_kept (a.fate (record { by = OfNode r; on = k }))) change_found ∙ ap (λ b. is_kept (cond b Given (Stays (OfNode r)))) (found_in made r d);
  }

  dropped : (r : Ref) → Contains made r → Lost r
  dropped r d =
      untaken xs s [] (sym (append-nil (xs ++ s ∷ []))) (lets_go r d)
      (subst (λ (x : State). HasIndirection x r) (sym is_after) (subst (λ x. IsInUse x r × (is_indirection (node_at x r) ≡ true)) (sym heap) (link r d)))
      (subst (λ (x : State). IsGarbage x r) (sym is_after) (garbage r d)) (λ followed. by_nobody r d (subst (λ (x : State). IsFollowedByAny x r) is_after followed))

  -- ---- handles

  offered_apart : (g : ℕ) (root : Root) (other : Descriptor) → root_at after g ≡ Some root → root.word ≡ Offer other → word_at state g ≡ Offer other → (x : Bool) (r : Ref) →
      fresh_of x other ≡ Some r → Contains made r → ⊥
  offered_apart g root other e w stands x r f d =
      let b = (has_handles_along limits xs).0.offers g other stands in
      let (y, own) = fresh r d in
      let same : b.k ≡ k =
      ((ordered_along limits ok xs).roots.fresh_apart b.k k x y r r (to_offer b x r f) (record { operation = operation; runs = place.2; unmarked = unmarked; its = own }) refl).0 in
      let one : b.owner ≡ operation = one_at state k b.owner operation (subst (λ j. Runs state j b.owner) same b.runs) place.2 in
      let here : g ≡ at = sym b.on_handle ∙ ap (λ (z : Operation). handle_of z.call) one in
      let its_offer : other ≡ offer = same_Some other offer (sym b.completes ∙ ap (λ (z : Operation). own_offer z.line) one ∙ its_own) in
      unsettled limits ok xs h actor operation runs o m is_after (act.Complete offer main) acts g root other offer e w refl here
      (ap (λ z. stands_in z offer) (ap (word_at state) (sym here) ∙ stands ∙ ap Offer its_offer) ∙ try_itself offer)

  stood_before : (g : ℕ) (root : Root) (other : Descriptor) → root_at after g ≡ Some root → root.word ≡ Offer other → (was : Root) × (root_at state g ≡ Some was) × (was.word ≡ Offer other)
  stood_before g root other e w = elim (offer_then limits ok xs h actor operation runs o m is_after (act.Complete offer main) acts g root other e w) [
    | inl was ↦ was
    | inr now ↦ let bad : ⊥ = cc now.0 in absurd bad
  ]

  handle_keeps : (g : ℕ) (r : Ref) → (Contains made r → ⊥) → Has held (OfHandle g) r → Has later (OfHandle g) r
  handle_keeps g r apart has = by (is_in made r) refl
    where
      by : (b : Bool) → is_in made r ≡ b → Has later (OfHandle g) r
      by true e = absurd (apart (among made r e))
      by false e = stays change held (OfHandle g) (OfHandle g) r has (rw e refl)

  node_keeps : (j k : Ref) → Has held (OfNode j) k → Has later (OfNode j) k ⊎ Lost j
  node_keeps j k has = by (is_in made j) refl
    where
      by : (b : Bool) → is_in made j ≡ b → Has later (OfNode j) k ⊎ Lost j
      by true e = inr (dropped j (among made j e))
      by false e = inl (stays change held (OfNode j) (OfNode j) k has (rw e refl))

  root_held : (g : ℕ) (root : Root) → RootFrom put at (act.Complete offer main) g root → Has later (OfHandle g) (root_of root.word)
  root_held g root (stood was e access same free) = subst (Has later (OfHandle g)) (sym same) (handle_keeps g (root_of was.word) (root_apart g was e) (h.roots g was e))
  root_held g root (swapped was other c here e is) = absurd (none_carried other c)
  root_held g root (newly other n c opens here is) = absurd (none_carried other c)

  own : (b : ℕ) (q : Operation) (because : Purpose) (j x g : Ref) → operation_of state b ≡ Some q → q.line ≡ line.Swap because (swapping j x g) → (s ≡ step.Go b) ⊎ (s ≡ step.GiveUp b) → Lost g
  own b q because j x g runs_b on by =
      not_swapping state actor operation runs (act.Complete offer main) acts (λ i p f e. let bad : ⊥ = cc e in bad) Lost b q because j x g runs_b on by

  each_kept : EachIsHeld after later Lost
  each_kept = record {
    roots = λ g root e. root_held g root (root_then limits ok xs h actor operation runs o m is_after (act.Complete offer main) acts g root e);
    successors = λ g root other e w.
        let (was, e_was, w_was) = stood_before g root other e w in
        handle_keeps g other.successor (offered_apart g root other e w (ap word_of e_was ∙ w_was) true other.successor refl) (h.successors g was other e_was w_was);
    seconds = λ g root other opens second e w is_opens is_second.
        let (was, e_was, w_was) = stood_before g root other e w in
        handle_keeps opens second (offered_apart g root other e w (ap word_of e_was ∙ w_was) false second is_second) (h.seconds g was other opens second e_was w_was is_opens is_second);
    nodes = quiet_nodes state after held later (λ j. WasDropped limits xs j) Lost h heap (λ j gone. dropped_later limits xs s j gone) (own_still change held) (λ j k u n has. node_keeps j k has)
        (still_publishes state s o after m Lost own);
    before = quiet_before state after held later (λ j. WasDropped limits xs j) Lost h heap (λ j gone. dropped_later limits xs s j gone) (own_still change held) (λ j k u n has. node_keeps j k has)
        (still_publishes state s o after m Lost own);
  }

  -- who offered finds that its offer wasn't carried out
  pub taken_back_keeps : EachAfter limits xs (step.Go actor) (settled (run limits xs) (gone (run limits xs) actor operation))
  taken_back_keeps =
      subst (λ x. EachIsHeld after (held_after x held) Lost) (sym change_found) each_kept
