-- Offers and numbers in the state of an account: who has offered what stands, and what stood once never comes from a new try.
use Rattle.std.proofs.Common.{◌≡◌, ◌+◌, ◌++◌, ℕ, suc, Bool, true, false, length, List, [], ◌∷◌, refl, sym, ap, subst, ◌∙◌, append-nil}
use Rattle.std.proofs.lemmas.Bool.{false≢true}
use Rattle.history.specs.declared.calls.Access.TheVariants.{Writable}
use Rattle.machine_model.specs.declared.copying.CopyLine.TheVariants as copy
use Rattle.machine_model.specs.declared.lines.Line.TheVariants as line
use Rattle.machine_model.specs.declared.operations.Operation.{Operation}
use Rattle.machine_model.specs.declared.roots.Descriptor.{Descriptor}
use Rattle.machine_model.specs.declared.roots.RootWord.TheVariants.{Offer}
use Rattle.machine_model.specs.declared.steps.Step.{Step}
use Rattle.machine_model.specs.Machine.{AreBounds, run, run_from, next_state}
use Rattle.machine_model.specs.States.{State, root_at, word_at, word_of}
use Rattle.machine_model.proofs.Along.{run-append, kept_by_moves}
use Rattle.machine_model.proofs.Fates.{place_of_actor}
use Rattle.proof_garbage.specs.Beneath.proof_generations.proofs.Handles.Operations.{HasHandles}
use Rattle.proof_garbage.specs.Beneath.proof_generations.proofs.Offers.Marks.{is_done}
use Rattle.proof_garbage.specs.Beneath.proof_generations.proofs.Offers.Same.{HasOffers, IsKnown, known_kept, known_own}
use Rattle.proof_garbage.specs.Beneath.proof_generations.proofs.Offers.Standing.{own_numbers, completes_it}
use Rattle.proof_garbage.specs.Beneath.proof_generations.proofs.Roots.OfLists.{has_handles_along}
use Rattle.proof_waiting.specs.Beneath.proof_slots.specs.Lasting.{widened}
use Rattle.lock_free.specs.declared.accounts.Account.{Account}
use Rattle.lock_free.specs.declared.sizes.Sizes.{Sizes}
use Rattle.lock_free.specs.Accounts.{bounds_for, running, state_of, HasStood}
use Rattle.lock_free.specs.Offering.{HasOwner}
use Rattle.lock_free.specs.Roots.{open_with}
use Rattle.lock_free.proofs.OneStep.Longer.{run_longer, bounds_less}

unmarked_unless : (mark : Bool) → (mark ≡ true → ⊥) → mark ≡ false
unmarked_unless false h = refl
unmarked_unless true h = absurd (h refl)

-- what is known stays known
known_along : (steps : List Step) (state : State) (offer : Descriptor) → IsKnown state offer → IsKnown (run_from state steps) offer
unfolding run_from
known_along [] state offer h = h
known_along (s ∷ steps) state offer h = known_along steps (next_state state s) offer (kept_by_moves (λ after. IsKnown after offer) state s h (λ o after m. known_kept state s o after m offer h))

module _ (sizes : Sizes) (account : Account) (bounds : AreBounds (bounds_for sizes account.steps)) where
  abbrev state : State
  state = state_of sizes account

  pub has : HasOffers state × HasHandles state
  has = has_handles_along (bounds_for sizes account.steps) account.steps

  -- an actor and its place
  pub owner_of : (h : ℕ) (offer : Descriptor) → root_at state h ≡ open_with Writable (Offer offer) → HasOwner state offer
  owner_of h offer stood =
      let b = has.0.offers h offer (ap word_of stood) in
      let mine = own_numbers b.owner offer (has.0.own b.k b.owner b.runs) b.completes in
      let (c, at_line, its) = completes_it b.owner.line offer b.completes in
      record { actor = suc b.k; operation = b.owner; runs = b.runs; opens = sym mine.number; unmarked = b.unmarked; completing = c; completes = at_line }

  -- an operation that is about to offer isn't marked
  pub offering_unmarked : (actor : ℕ) (operation : Operation) → running sizes account actor operation → (offer : Descriptor) → operation.line ≡ line.Copy (copy.Offer offer) →
      operation.is_marked ≡ false
  offering_unmarked actor operation runs offer at_line =
      let place = place_of_actor state actor operation runs in
      unmarked_unless operation.is_marked (λ e. false≢true (ap is_done (sym at_line) ∙ has.1.done place.0 operation place.2 e))

  -- an offer that stood once is known
  pub known_once : (offer : Descriptor) → HasStood sizes account offer → IsKnown state offer
  known_once offer h =
      let limits = bounds_for sizes account.steps in
      let longer : bounds_for sizes (h.steps ++ h.more) ≡ limits = ap (bounds_for sizes) (sym h.goes_on) in
      let ok : AreBounds (bounds_for sizes h.steps) = bounds_less sizes h.steps h.more (subst (λ l. AreBounds (bounds_for sizes l)) h.goes_on bounds) in
      let wide : run limits h.steps ≡ widened (length h.more) (length (h.steps ++ h.more) + 1) (run (bounds_for sizes h.steps) h.steps) =
      ap (λ b. run b h.steps) (sym longer) ∙ run_longer sizes h.steps ok h.steps [] h.more (sym (append-nil h.steps)) in
      let word : word_at (run limits h.steps) h.handle ≡ Offer offer = ap (λ s. word_at s h.handle) wide ∙ h.stood in
      let then = has_handles_along limits h.steps in
      let b = then.0.offers h.handle offer word in
      let known = known_own (run limits h.steps) then.0.ids then.0.own b.k b.owner offer b.runs b.completes in
      subst (λ l. IsKnown (run limits l) offer) (sym h.goes_on) (subst (λ s. IsKnown s offer) (sym (run-append _ h.steps h.more)) (known_along h.more (run limits h.steps) offer known))
