-- Who offered finds that another one has carried its offer out: a copy lets the old root go, which no handle is to hold for it any more.
use Rattle.std.proofs.Common.{◌≡◌, inl, inr, ℕ, Bool, true, false, List, [], ◌∷◌, ◌++◌, Option, Some, None, refl, sym, ap, subst, ◌∙◌, arith, ne_eqb, eq-eqb}
use Rattle.std.proofs.lemmas.Bool.{cases_eq, true≢false}
use Rattle.std.proofs.lemmas.Option.{none-some, same_Some}
use Rattle.proof_claims.specs.Beneath.slot_arena.specs.declared.refs.Ref.{Ref}
use Rattle.proof_claims.specs.Beneath.history.specs.declared.calls.Access.{Access}
use Rattle.proof_claims.specs.Beneath.history.specs.declared.calls.Access.TheVariants.{ReadOnly, Writable}
use Rattle.proof_claims.specs.Beneath.machine_model.specs.declared.actions.Action.TheVariants as act
use Rattle.proof_claims.specs.Beneath.machine_model.specs.declared.copying.CopyLine.TheVariants as copy
use Rattle.proof_claims.specs.Beneath.machine_model.specs.declared.lines.Line.TheVariants as line
use Rattle.proof_claims.specs.Beneath.machine_model.specs.declared.operations.Operation.{Operation}
use Rattle.proof_claims.specs.Beneath.machine_model.specs.declared.roots.Complete.{Complete}
use Rattle.proof_claims.specs.Beneath.machine_model.specs.declared.roots.Descriptor.{Descriptor}
use Rattle.proof_claims.specs.Beneath.machine_model.specs.declared.roots.Root.{Root}
use Rattle.proof_claims.specs.Beneath.machine_model.specs.declared.steps.Bounds.{Bounds}
use Rattle.proof_claims.specs.Beneath.machine_model.specs.declared.steps.Outcome.{Outcome}
use Rattle.proof_claims.specs.Beneath.machine_model.specs.declared.steps.Step.{Step}
use Rattle.proof_claims.specs.Beneath.machine_model.specs.declared.steps.Step.TheVariants as step
use Rattle.proof_claims.specs.Beneath.machine_model.specs.Acting.{gone}
use Rattle.proof_claims.specs.Beneath.machine_model.specs.Calls.{handle_of}
use Rattle.proof_claims.specs.Beneath.machine_model.specs.Counting.{settled}
use Rattle.proof_claims.specs.Beneath.machine_model.specs.Machine.{AreBounds, run}
use Rattle.proof_claims.specs.Beneath.machine_model.specs.Moves.{Moves}
use Rattle.proof_claims.specs.Beneath.machine_model.specs.Operations.{action_of, line_action}
use Rattle.proof_claims.specs.Beneath.machine_model.specs.States.{State, operation_of, root_at, word_at, word_of}
use Rattle.proof_claims.specs.Beneath.machine_model.specs.Swapping.{is_carried_out}
use Rattle.proof_claims.specs.Beneath.machine_model.specs.Times.{last_of, states_of}
use Rattle.proof_claims.specs.Beneath.machine_model.proofs.Fates.{place_of_actor}
use Rattle.proof_claims.specs.Beneath.machine_model.proofs.Times.{run_ends, run_is}
use Rattle.proof_claims.specs.Beneath.proof_memory.proofs.Safety.AtEachTime.{safe_along}
use Rattle.proof_claims.specs.Beneath.proof_generations.specs.Running.{Runs}
use Rattle.proof_claims.specs.Beneath.proof_generations.proofs.Offers.Standing.{own_numbers, own_offer}
use Rattle.proof_claims.specs.Beneath.proof_generations.proofs.Roots.OfLists.{has_handles_along}
use Rattle.proof_claims.specs.Beneath.proof_generations.proofs.Roots.Own.{writable_call}
use Rattle.proof_claims.specs.Held.{Held, OfHandle, OfNode, held_after}
use Rattle.proof_claims.specs.Changes.{carried, finds, lets_root_go, outcome_at}
use Rattle.proof_claims.specs.Claims.{Has, held_of}
use Rattle.proof_claims.proofs.Along.{stays}
use Rattle.proof_claims.proofs.Completing.{change_is, heap, none_carried, others_keep}
use Rattle.proof_claims.proofs.Marked.{WasSwapped, swapped_at}
use Rattle.proof_claims.proofs.OldRoot.{no_root, no_successor}
use Rattle.proof_claims.proofs.Rooting.{IsDue, as_root, as_second, as_successor, rooted}
use Rattle.proof_claims.proofs.Spine.{Each, EachAfter}
use Rattle.proof_claims.proofs.Swapping.{opens_unopened}
use Rattle.proof_claims.proofs.TakenBack.{its_line}

pub writable_by : (access : Access) {needs : Bool} → (access ≡ ReadOnly → needs ≡ false) → needs ≡ true → access ≡ Writable
writable_by Writable h e = refl
writable_by ReadOnly h e = absurd (true≢false (sym e ∙ h refl))

module _ (limits : Bounds) (ok : AreBounds limits) (xs : List Step) (actor : ℕ) (operation : Operation) (offer : Descriptor) (main : Ref)
    (runs : operation_of (run limits xs) actor ≡ Some operation) (acts : action_of (run limits xs) operation ≡ act.Complete offer main) (c : Complete)
    (on : operation.line ≡ line.Copy (copy.Complete c)) (marked : operation.is_marked ≡ true) where
  abbrev state : State
  state = run limits xs

  abbrev held : Held
  held = held_of limits xs

  abbrev at : ℕ
  at = handle_of operation.call

  own : own_offer operation.line ≡ Some offer
  own = ap own_offer on ∙ ap Some (its_line c offer main (ap (line_action state operation) (sym on) ∙ acts)).0

  -- its handle is open for ever, and writable
  its_handle : (root : Root) × (root_at state at ≡ Some root) × (root.access ≡ Writable)
  its_handle =
      let (k, place, at_k) = place_of_actor state actor operation runs in
      let (offers, handles) = has_handles_along limits xs in
      let mine = own_numbers operation offer (offers.own k operation at_k) own in
      let (no_close, needs) = writable_call operation.call offer.second mine.second in
      let (root, is_open, access) = handles.on_open k operation at_k no_close in
      (root, is_open, access ∙ writable_by operation.access ((safe_along limits ok xs).fits k operation at_k) needs)

  pub swapped : WasSwapped (run_is limits xs ok) (last_of limits xs) offer
  swapped =
      let (k, place, at_k) = place_of_actor state actor operation runs in
      swapped_at (run_is limits xs ok) (last_of limits xs) (omega arith) k operation offer (subst (λ (q : State). Runs q k operation) (sym (run_ends limits xs)) at_k) marked own

  at_end : (root : Root) → root_at state at ≡ Some root → root_at (states_of limits xs (last_of limits xs)) at ≡ Some root
  at_end root e = ap (λ (q : State). root_at q at) (run_ends limits xs) ∙ e

  -- its handle is not to hold the old root any more
  old_is_gone : IsDue state at offer.root → ⊥
  old_is_gone (as_root root e same) =
      no_root (run_is limits xs ok) offer swapped at root (at_end root e) (ap (λ (x : Root). x.access) (same_Some root its_handle.0 (sym e ∙ its_handle.1)) ∙ its_handle.2) same
  old_is_gone (as_successor root other e word same) = no_successor (run_is limits xs ok) offer swapped at root other (at_end root e) word same
  old_is_gone (as_second g root other e word opens same) = none-some its_handle.0 (sym (opens_unopened limits xs g other at (ap word_of e ∙ word) opens) ∙ its_handle.1)

  handles : (g : ℕ) (r : Ref) → IsDue state g r → Has held (OfHandle g) r → Has (held_after (lets_root_go at offer.root) held) (OfHandle g) r
  handles g r due has = stays (lets_root_go at offer.root) held (OfHandle g) (OfHandle g) r has (elim (cases_eq g at) [
    | inr apart ↦ rw (ne_eqb g at apart) refl
    | inl here ↦ elim (cases_eq r offer.root) [
      | inr apart ↦ rw (eq-eqb g at here) (rw (ne_eqb r offer.root apart) refl)
      | inl old ↦ absurd (old_is_gone (subst (λ x. IsDue state at x) old (subst (λ x. IsDue state x r) here due)))
    ]
  ])

  module _ (o : Outcome) (h : Each limits xs) (m : Moves (run limits xs) (step.Go actor) o (settled (run limits xs) (gone (run limits xs) actor operation)))
      (is_after : run limits (xs ++ step.Go actor ∷ []) ≡ settled (run limits xs) (gone (run limits xs) actor operation))
      (not_out : is_carried_out (word_at (run limits xs) (handle_of operation.call)) offer main ≡ false) where
    abbrev Kept : Type 0
    Kept = EachAfter limits xs (step.Go actor) (settled state (gone state actor operation))

    lets_go : outcome_at at offer operation.line operation.is_marked ≡ lets_root_go at offer.root → Kept
    lets_go is =
        change_is limits ok xs actor operation o offer main h runs m is_after acts false not_out (lets_root_go at offer.root) is
        (rooted limits ok xs h actor operation runs o m is_after (act.Complete offer main) acts (λ i p f e. let bad : ⊥ = cc e in bad) (lets_root_go at offer.root)
        (heap limits ok xs actor operation o offer main h runs m is_after acts) (none_carried limits ok xs actor operation o offer main h runs m is_after acts not_out) handles
        (λ j k u n has. inl (stays (lets_root_go at offer.root) held (OfNode j) (OfNode j) k has refl)) (λ other e. let bad : ⊥ = cc e in absurd bad)
        (λ other opens second e is_opens is_second. let bad : ⊥ = cc e in absurd bad))

    found : outcome_at at offer operation.line operation.is_marked ≡ carried at offer offer.second offer.opens
    found = ap (λ l. outcome_at at offer l operation.is_marked) on ∙ ap (finds at offer) marked

    by_offer : (second : Option Ref) (opens : Option ℕ) → offer.second ≡ second → offer.opens ≡ opens → Kept
    by_offer (Some q) opens is_second is_opens = lets_go (found ∙ ap (λ x. carried at offer x offer.opens) is_second)
    by_offer None None is_second is_opens = lets_go (found ∙ ap (λ x. carried at offer x offer.opens) is_second ∙ ap (λ x. carried at offer None x) is_opens)
    by_offer None (Some n) is_second is_opens =
        others_keep limits ok xs actor operation o offer main h runs m is_after acts not_out
        (found ∙ ap (λ x. carried at offer x offer.opens) is_second ∙ ap (λ x. carried at offer None x) is_opens)

    pub marked_keeps : Kept
    marked_keeps = by_offer offer.second offer.opens refl refl
