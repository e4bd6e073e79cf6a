-- What is in use and followed by nobody stays so: what an offer brings when it is carried out, the operation that made it follows until then.
use Rattle.std.proofs.Common.{◌≡◌, ℕ, suc, ◌==◌, true, List, [], Option, Some, None, Ok, Err, sym, ap, ◌∙◌, subst, inl, inr}
use Rattle.std.proofs.lemmas.Bool.{and_parts}
use Rattle.std.proofs.lemmas.Option.{none-some, same_Some}
use Rattle.std.proofs.lemmas.List.Elements.{All-head}
use Rattle.proof_followed.specs.Beneath.slot_arena.specs.declared.refs.Ref.{Ref}
use Rattle.proof_followed.specs.Beneath.slot_arena.specs.Heaps.{Heap, refs_of_option}
use Rattle.proof_followed.specs.Beneath.machine_model.specs.declared.actions.Action.TheVariants as act
use Rattle.proof_followed.specs.Beneath.machine_model.specs.declared.copying.CopyLine.TheVariants as copy
use Rattle.proof_followed.specs.Beneath.machine_model.specs.declared.lines.Line.TheVariants as line
use Rattle.proof_followed.specs.Beneath.machine_model.specs.declared.operations.Operation.{Operation}
use Rattle.proof_followed.specs.Beneath.machine_model.specs.declared.roots.CompleteLine.{CompleteLine}
use Rattle.proof_followed.specs.Beneath.machine_model.specs.declared.roots.CompleteLine.TheVariants as complete
use Rattle.proof_followed.specs.Beneath.machine_model.specs.declared.roots.Descriptor.{Descriptor}
use Rattle.proof_followed.specs.Beneath.machine_model.specs.declared.roots.RootWord.TheVariants.{Offer}
use Rattle.proof_followed.specs.Beneath.machine_model.specs.declared.steps.Bounds.{Bounds}
use Rattle.proof_followed.specs.Beneath.machine_model.specs.declared.steps.Outcome.{Outcome}
use Rattle.proof_followed.specs.Beneath.machine_model.specs.declared.steps.Step.{Step}
use Rattle.proof_followed.specs.Beneath.machine_model.specs.Calls.{handle_of}
use Rattle.proof_followed.specs.Beneath.machine_model.specs.Machine.{AreBounds, Answer, run, next, next_state, state_after}
use Rattle.proof_followed.specs.Beneath.machine_model.specs.Moves.{Moves, MovesIfTaken, GoesOn, Begins, Goes, Ends, Sweeps, GivesUp}
use Rattle.proof_followed.specs.Beneath.machine_model.specs.Operations.{action_of}
use Rattle.proof_followed.specs.Beneath.machine_model.specs.States.{State, operation_of, word_at}
use Rattle.proof_followed.specs.Beneath.machine_model.specs.Swapping.{is_carried_out, stands_in}
use Rattle.proof_followed.specs.Beneath.machine_model.proofs.Fates.{place_of_actor}
use Rattle.proof_followed.specs.Beneath.machine_model.proofs.Moves.{moves}
use Rattle.proof_followed.specs.Beneath.history.specs.declared.calls.Access.{Access}
use Rattle.proof_followed.specs.Beneath.history.specs.declared.calls.Call.{Call}
use Rattle.proof_followed.specs.Beneath.ctrie_base.specs.declared.hashes.HashKind.{HashKind}
use Rattle.proof_followed.specs.Beneath.proof_memory.specs.Laws.{IsInUse}
use Rattle.proof_followed.specs.Beneath.proof_memory.specs.Wants.{AnIndirection, Each, Holds, AllHold, offer_wants}
use Rattle.proof_followed.specs.Beneath.proof_memory.proofs.Claims.Uses.{Meets, safe_of, all_of}
use Rattle.proof_followed.specs.Beneath.proof_memory.proofs.Safety.AtEachTime.{safe_along}
use Rattle.proof_followed.specs.Beneath.proof_memory.proofs.Safety.States.{IsSafe}
use Rattle.proof_followed.specs.Beneath.proof_generations.specs.Laws.Roots.{settles}
use Rattle.proof_followed.specs.Beneath.proof_generations.proofs.Offers.Same.{HasOffers, same_offer}
use Rattle.proof_followed.specs.Beneath.proof_generations.proofs.Offers.Standing.{completes_it}
use Rattle.proof_followed.specs.Beneath.proof_generations.proofs.Roots.OfLists.{has_handles_along}
use Rattle.proof_followed.specs.Followed.{IsFollowed, IsFollowedByAny, followed_wants}
use Rattle.proof_followed.proofs.InUse.{line_followed}
use Rattle.proof_followed.proofs.Hands.{WasFollowed}
use Rattle.proof_followed.proofs.Step.{rest_followed, counting_followed}

-- what a COMPLETE of the own offer follows of it
pub own_wants : (S : Ref → Type 0) (heap : Heap) (kind : HashKind) (call : Call) (access : Access) (offer : Descriptor) (l : CompleteLine) →
    AllHold S heap (followed_wants kind call access (line.Copy (copy.Complete (record { offer = offer; line = l })))) → AllHold S heap (offer_wants offer)
own_wants S heap kind call access offer (complete.Reading l) h = (h.0, (h.1.0, (h.1.1.0, (h.1.1.1.0, tt))))
own_wants S heap kind call access offer (complete.Swap main) h = (h.0, (h.1.0, (h.1.1.0, (h.1.1.1.0, tt))))

pub second_of : (S : Ref → Type 0) (heap : Heap) (second : Option Ref) → Holds S heap (Each (refs_of_option second) AnIndirection) → (q : Ref) → second ≡ Some q → S q
second_of S heap None h q e = absurd (none-some q e)
second_of S heap (Some x) h q e = subst S (same_Some _ _ e) ((All-head (Meets S heap AnIndirection) x [] (all_of h)).0)

-- what an offer that stands brings is followed by the operation that made it
pub offer_followed : (state : State) (I : IsSafe state) (P : ℕ → Type 0) → HasOffers state → ((k : ℕ) (owner : Operation) → operation_of state (suc k) ≡ Some owner → P owner.id) →
    (handle : ℕ) (offer : Descriptor) → word_at state handle ≡ Offer offer → IsFollowed state P offer.successor × ((q : Ref) → offer.second ≡ Some q → IsFollowed state P q)
offer_followed state I P H all handle offer word =
    let b = H.offers handle offer word in
    let (c, on, its) = completes_it b.owner.line offer b.completes in
    let F : Ref → Type 0 = IsFollowed state P in
    let h = own_wants F state.heap state.limits.hash b.owner.call b.owner.access c.offer c.line
    (subst (λ l. AllHold F state.heap (followed_wants state.limits.hash b.owner.call b.owner.access l)) on (line_followed state I P (suc b.k) b.owner b.runs (all b.k b.owner b.runs))) in
    (subst (λ (d : Descriptor). F d.successor) its (safe_of h.1.1.0), λ q e. second_of F state.heap c.offer.second h.1.1.1.0 q (ap (λ (d : Descriptor). d.second) its ∙ e))

-- who carries an offer out finds it in the root word
pub carried_word : (state : State) → HasOffers state → (actor : ℕ) (operation : Operation) → operation_of state actor ≡ Some operation → (offer : Descriptor) (main : Ref) →
    action_of state operation ≡ act.Complete offer main → is_carried_out (word_at state (handle_of operation.call)) offer main ≡ true → word_at state (handle_of operation.call) ≡ Offer offer
carried_word state H actor operation is offer main a carried =
    same_offer state H actor operation offer is (ap settles a) (handle_of operation.call) ((and_parts (stands_in (word_at state (handle_of operation.call)) offer) (main == offer.expected) carried).0)

module _ (limits : Bounds) (ok : AreBounds limits) (steps : List Step) (r : Ref) (used : IsInUse (run limits steps).heap r) where
  abbrev state : State
  state = run limits steps

  abbrev All : ℕ → Type 0
  All id = Unit {0}

  I : IsSafe state
  I = safe_along limits ok steps

  H : HasOffers state
  H = (has_handles_along limits steps).0

  by_was : WasFollowed state I All r → IsFollowed state All r
  by_was (inl known) = known
  by_was (inr none) = absurd (none-some used.0 (sym none ∙ used.1))

  by_move : (s : Step) (o : Outcome) (after : State) → Moves state s o after → IsFollowed after All r → IsFollowed state All r
  by_move s o after (Begins d) h = by_was (rest_followed state I All s o after (Begins d) tt h)
  by_move s o after (Ends d is a) h = by_was (rest_followed state I All s o after (Ends d is a) tt h)
  by_move s o after (GivesUp d is a) h = by_was (rest_followed state I All s o after (GivesUp d is a) tt h)
  by_move s o after (Sweeps spent) h = by_was (rest_followed state I All s o after (Sweeps spent) tt h)
  by_move s o after (Goes {actor} {operation} d is a g) h =
      let (k, own, found) = place_of_actor state actor operation is in
      elim (counting_followed state I All actor k operation is found tt (subst GoesOn (sym a) g) (λ x. ⊥)
      (λ offer settled stands. same_offer state H actor operation offer is settled (handle_of operation.call) stands)
      (λ offer main does carried.
      let both = offer_followed state I All H (λ j owner runs. tt) (handle_of operation.call) offer (carried_word state H actor operation is offer main does carried) in
      (inl (inl both.0), λ q e. inl (inl (both.1 q e))))
      (λ q slot b e x c. absurd b) o (Goes d is a g) h) [
        | inl was ↦ by_was was
        | inr b ↦ absurd b
      ]

  pub stays_unfollowed : (s : Step) → IsFollowedByAny (next_state state s) r → IsFollowedByAny state r
  stays_unfollowed s h = by_answer (next state s) (moves state s) h
    where
      by_answer : (answer : Answer) → MovesIfTaken state s answer → IsFollowed (state_after state answer) All r → IsFollowed state All r
      by_answer (Ok done) m h = by_move s done.0 done.1 m h
      by_answer (Err why) m h = h
