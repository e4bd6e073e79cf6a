-- An operation is to offer, or to take an offer back: new roots are held once the offer stands.
use Rattle.std.proofs.Common.{◌≡◌, inl, ℕ, Bool, true, false, List, [], ◌∷◌, ◌++◌, Contains, Option, Some, None, refl, sym, ap, subst, ◌∙◌, arith}
use Rattle.std.proofs.lemmas.Option.{none-some, same_Some}
use Rattle.proof_claims.specs.Beneath.slot_arena.specs.declared.refs.Ref.{Ref}
use Rattle.proof_claims.specs.Beneath.machine_model.specs.declared.actions.Action.TheVariants as act
use Rattle.proof_claims.specs.Beneath.machine_model.specs.declared.operations.Operation.{Operation}
use Rattle.proof_claims.specs.Beneath.machine_model.specs.declared.roots.Descriptor.{Descriptor}
use Rattle.proof_claims.specs.Beneath.machine_model.specs.declared.roots.RootWord.TheVariants.{Offer, Plain}
use Rattle.proof_claims.specs.Beneath.machine_model.specs.declared.steps.Bounds.{Bounds}
use Rattle.proof_claims.specs.Beneath.machine_model.specs.declared.steps.Outcome.{Outcome}
use Rattle.proof_claims.specs.Beneath.machine_model.specs.declared.steps.Step.{Step}
use Rattle.proof_claims.specs.Beneath.machine_model.specs.declared.steps.Step.TheVariants as step
use Rattle.proof_claims.specs.Beneath.machine_model.specs.Acting.{aborted, gone, if_changed, operation_after, private_after}
use Rattle.proof_claims.specs.Beneath.machine_model.specs.Calls.{handle_of}
use Rattle.proof_claims.specs.Beneath.machine_model.specs.Copying.{after_offer}
use Rattle.proof_claims.specs.Beneath.machine_model.specs.Counting.{settled}
use Rattle.proof_claims.specs.Beneath.machine_model.specs.Lines.{new_try}
use Rattle.proof_claims.specs.Beneath.machine_model.specs.Machine.{AreBounds, run}
use Rattle.proof_claims.specs.Beneath.machine_model.specs.Moves.{Moves}
use Rattle.proof_claims.specs.Beneath.machine_model.specs.Operations.{action_of, line_after}
use Rattle.proof_claims.specs.Beneath.machine_model.specs.States.{State, operation_of, with_word, word_at}
use Rattle.proof_claims.specs.Beneath.machine_model.specs.Swapping.{is_plain, stands_in}
use Rattle.proof_claims.specs.Beneath.proof_garbage.specs.Live.{IsLive, at_hand}
use Rattle.proof_claims.specs.Beneath.proof_generations.proofs.Offers.Standing.{offer_line}
use Rattle.proof_claims.specs.Held.{Change, Held, OfHandle, OfNode, held_after}
use Rattle.proof_claims.specs.Changes.{no_change, offers, second_claims}
use Rattle.proof_claims.specs.Claims.{Has, held_of}
use Rattle.proof_claims.proofs.Acts.{changed, dead_so, gives}
use Rattle.proof_claims.proofs.Acts as acting
use Rattle.proof_claims.proofs.Along.{comes, stays}
use Rattle.proof_claims.proofs.Frame.{same_has}
use Rattle.proof_claims.proofs.Rooting.{IsDue, rooted}
use Rattle.proof_claims.proofs.Spine.{Each, EachAfter}

module _ (limits : Bounds) (ok : AreBounds limits) (xs : List Step) (h : Each limits xs) (actor : ℕ) (operation : Operation) (runs : operation_of (run limits xs) actor ≡ Some operation) (o : Outcome)
    (m : Moves (run limits xs) (step.Go actor) o (settled (run limits xs) (gone (run limits xs) actor operation)))
    (is_after : run limits (xs ++ step.Go actor ∷ []) ≡ settled (run limits xs) (gone (run limits xs) actor operation)) where
  abbrev state : State
  state = run limits xs

  abbrev held : Held
  held = held_of limits xs

  abbrev at : ℕ
  at = handle_of operation.call

  abbrev put : State
  put = acting.put limits ok xs h actor operation runs o m is_after

  abbrev Kept : Type 0
  Kept = EachAfter limits xs (step.Go actor) (settled state (gone state actor operation))

  -- ---- an offer is taken back

  heap_aborted : (offer : Descriptor) (b : Bool) → stands_in (word_at state at) offer ≡ b → (aborted put at offer).heap ≡ state.heap
  heap_aborted offer true e = ap (λ b. (if_changed b (with_word put at (Plain offer.root)) put).heap) e
  heap_aborted offer false e = ap (λ b. (if_changed b (with_word put at (Plain offer.root)) put).heap) e

  pub aborts : (offer : Descriptor) → action_of state operation ≡ act.Abort offer → Kept
  aborts offer acts =
      changed limits ok xs h actor operation runs o m is_after (act.Abort offer) acts no_change refl
      (rooted limits ok xs h actor operation runs o m is_after (act.Abort offer) acts (λ i p f e. let bad : ⊥ = cc e in bad) no_change
      (ap (λ (a : State). a.heap) (acting.after_is limits ok xs h actor operation runs o m is_after (act.Abort offer) acts) ∙ heap_aborted offer _ refl)
      (λ other c. let bad : ⊥ = cc c.is_it in bad) (λ g r due has. same_has held (OfHandle g) r has) (λ j k u n has. inl (same_has held (OfNode j) k has))
      (λ other e. let bad : ⊥ = cc e in absurd bad) (λ other opens second e is_opens is_second. let bad : ⊥ = cc e in absurd bad))

  -- ---- an offer is made

  module _ (offer : Descriptor) (acts : action_of state operation ≡ act.Offer offer) where
    after_is : settled state (gone state actor operation) ≡ acting.done limits ok xs h actor operation runs o m is_after (act.Offer offer) acts
    after_is = acting.after_is limits ok xs h actor operation runs o m is_after (act.Offer offer) acts

    abbrev change : Change
    change = offers true operation.private at offer

    handles : (g : ℕ) (r : Ref) → IsDue state g r → Has held (OfHandle g) r → Has (held_after change held) (OfHandle g) r
    handles g r due has = stays change held (OfHandle g) (OfHandle g) r has refl

    nodes : (j k : Ref) → Has held (OfNode j) k → Has (held_after change held) (OfNode j) k
    nodes j k has = stays change held (OfNode j) (OfNode j) k has refl

    first : (other : Descriptor) → act.Offer offer ≡ act.Offer other → Has (held_after change held) (OfHandle at) other.successor
    first other e =
        let same : offer ≡ other = cc e in
        subst (λ (d : Descriptor). Has (held_after change held) (OfHandle at) d.successor) same (comes change held (OfHandle at) offer.successor (0, omega arith, refl))

    second_added : (opens : Option ℕ) (second : Option Ref) (n : ℕ) (r : Ref) → opens ≡ Some n → second ≡ Some r →
        Contains (record { by = OfHandle at; on = offer.successor } ∷ second_claims opens second) (record { by = OfHandle n; on = r })
    second_added (Some n') (Some r') n r is_n is_r =
        subst (λ k. Contains (record { by = OfHandle at; on = offer.successor } ∷ second_claims (Some n') (Some r')) (record { by = OfHandle k; on = r })) (same_Some _ _ is_n)
        (subst (λ k. Contains (record { by = OfHandle at; on = offer.successor } ∷ second_claims (Some n') (Some r')) (record { by = OfHandle n'; on = k }))
        (same_Some _ _ is_r) (1, omega arith, refl))
    second_added None second n r is_n is_r = absurd (none-some n is_n)
    second_added (Some n') None n r is_n is_r = absurd (none-some r is_r)

    second_held : (other : Descriptor) (opens : ℕ) (second : Ref) → act.Offer offer ≡ act.Offer other → other.opens ≡ Some opens → other.second ≡ Some second →
        Has (held_after change held) (OfHandle opens) second
    second_held other opens second e is_opens is_second =
        let same : other ≡ offer = cc e in
        comes change held (OfHandle opens) second
        (second_added offer.opens offer.second opens second (ap (λ (d : Descriptor). d.opens) (sym same) ∙ is_opens) (ap (λ (d : Descriptor). d.second) (sym same) ∙ is_second))

    nothing : is_plain (word_at state at) offer.root ≡ false → at_hand state (operation_after state operation) ≡ []
    nothing e =
        ap (λ l. at_hand state (record (operation_after state operation) { line = l })) next_line
        ∙ ap (λ rs. at_hand state (record (operation_after state operation) { line = new_try; private = rs })) (ap (private_after state operation.private) acts)
      where
        next_line : line_after state operation operation.line ≡ new_try
        next_line = ap (line_after state operation) (offer_line state operation operation.line offer acts) ∙ ap (after_offer offer) e

    by_word : (b : Bool) → is_plain (word_at state at) offer.root ≡ b → Kept
    by_word true e =
        changed limits ok xs h actor operation runs o m is_after (act.Offer offer) acts change (ap (λ b. offers b operation.private at offer) e)
        (rooted limits ok xs h actor operation runs o m is_after (act.Offer offer) acts (λ i p f e. let bad : ⊥ = cc e in bad) change
        (ap (λ (a : State). a.heap) after_is ∙ ap (λ b. (if_changed b (with_word put at (Offer offer)) put).heap) e) (λ other c. let bad : ⊥ = cc c.is_it in bad) handles
        (λ j k u n has. inl (nodes j k has)) first second_held)
    by_word false e =
        gives limits ok xs h actor operation runs o m is_after (act.Offer offer) acts (ap (λ b. (if_changed b (with_word put at (Offer offer)) put).actors) e)
        (ap (λ b. (if_changed b (with_word put at (Offer offer)) put).heap) e) (ap (λ b. (if_changed b (with_word put at (Offer offer)) put).roots) e)
        (ap (λ b. (if_changed b (with_word put at (Offer offer)) put).limits) e) (ap (λ b. offers b operation.private at offer) e) (nothing e)

    -- where another root stands there what it made is dead then
    pub unoffered_dead : is_plain (word_at state at) offer.root ≡ false → (x : Ref) → Contains operation.private x → IsLive (settled state (gone state actor operation)) x → ⊥
    unoffered_dead e =
        dead_so limits ok xs h actor operation runs o m is_after (act.Offer offer) acts (ap (λ b. (if_changed b (with_word put at (Offer offer)) put).actors) e)
        (ap (λ b. (if_changed b (with_word put at (Offer offer)) put).heap) e) (ap (λ b. (if_changed b (with_word put at (Offer offer)) put).roots) e)
        (ap (λ b. (if_changed b (with_word put at (Offer offer)) put).limits) e) (nothing e)

    pub offers_kept : Kept
    offers_kept = by_word (is_plain (word_at state at) offer.root) refl
