-- Handles and their offers after a step of an operation that carries no offer out.
use Rattle.std.proofs.Common.{◌≡◌, ◌⊎◌, inl, inr, ℕ, true, List, [], ◌∷◌, ◌++◌, Option, Some, None, refl, sym, ap, subst, ◌∙◌}
use Rattle.std.proofs.lemmas.Option.{none-some}
use Rattle.proof_claims.specs.Beneath.slot_arena.specs.declared.refs.Ref.{Ref}
use Rattle.proof_claims.specs.Beneath.machine_model.specs.declared.actions.Action.{Action}
use Rattle.proof_claims.specs.Beneath.machine_model.specs.declared.actions.Action.TheVariants as act
use Rattle.proof_claims.specs.Beneath.machine_model.specs.declared.lines.Line.TheVariants as line
use Rattle.proof_claims.specs.Beneath.machine_model.specs.declared.lines.Purpose.{Purpose}
use Rattle.proof_claims.specs.Beneath.machine_model.specs.declared.operations.Operation.{Operation}
use Rattle.proof_claims.specs.Beneath.machine_model.specs.declared.roots.Descriptor.{Descriptor}
use Rattle.proof_claims.specs.Beneath.machine_model.specs.declared.roots.Root.{Root}
use Rattle.proof_claims.specs.Beneath.machine_model.specs.declared.roots.RootWord.TheVariants.{Offer}
use Rattle.proof_claims.specs.Beneath.machine_model.specs.declared.steps.Bounds.{Bounds}
use Rattle.proof_claims.specs.Beneath.machine_model.specs.declared.steps.Outcome.{Outcome}
use Rattle.proof_claims.specs.Beneath.machine_model.specs.declared.steps.Step.{Step}
use Rattle.proof_claims.specs.Beneath.machine_model.specs.declared.steps.Step.TheVariants as step
use Rattle.proof_claims.specs.Beneath.machine_model.specs.Acting.{gone}
use Rattle.proof_claims.specs.Beneath.machine_model.specs.Calls.{handle_of}
use Rattle.proof_claims.specs.Beneath.machine_model.specs.Counting.{settled}
use Rattle.proof_claims.specs.Beneath.machine_model.specs.Machine.{AreBounds, run}
use Rattle.proof_claims.specs.Beneath.machine_model.specs.Moves.{Moves}
use Rattle.proof_claims.specs.Beneath.machine_model.specs.Operations.{action_of}
use Rattle.proof_claims.specs.Beneath.machine_model.specs.States.{State, operation_of, root_at, root_of, word_at, word_of}
use Rattle.proof_claims.specs.Beneath.machine_model.specs.Swapping.{stands_in, swapping}
use Rattle.proof_claims.specs.Beneath.proof_generations.specs.Laws.Roots.{settles}
use Rattle.proof_claims.specs.Beneath.proof_generations.proofs.Handles.Footings.{ActionCarriesOut, RootFrom, newly, root_from, stood, swapped}
use Rattle.proof_claims.specs.Beneath.proof_generations.proofs.Offers.Same.{same_offer}
use Rattle.proof_claims.specs.Beneath.proof_generations.proofs.Offers.Standing.{OfferFrom, offer_from, put as put_now, stood as stood_before}
use Rattle.proof_claims.specs.Beneath.proof_generations.proofs.Roots.OfLists.{has_handles_along}
use Rattle.proof_claims.specs.Beneath.proof_memory.specs.Laws.{IsInUse}
use Rattle.proof_claims.specs.Held.{Change, Held, OfHandle, OfNode, held_after}
use Rattle.proof_claims.specs.Claims.{Has, held_of}
use Rattle.proof_claims.specs.Clauses.{EachIsHeld}
use Rattle.proof_claims.specs.Dropped.{WasDropped}
use Rattle.proof_claims.proofs.Acts as acting
use Rattle.proof_claims.proofs.Along.{dropped_later, own_still}
use Rattle.proof_claims.proofs.Frame.{still_publishes}
use Rattle.proof_claims.proofs.Others.{not_swapping}
use Rattle.proof_claims.proofs.Quiet.{Names, quiet_before, quiet_nodes}
use Rattle.proof_claims.proofs.Spine.{Each}

-- an offer stands on an open handle
pub offer_open : (r : Option Root) (offer : Descriptor) → word_of r ≡ Offer offer → (root : Root) × (r ≡ Some root) × (root.word ≡ Offer offer)
offer_open None offer e = let bad : ⊥ = cc e in absurd bad
offer_open (Some root) offer e = (root, refl, e)

-- what a handle is to hold: its root, and what an offer that stands is to bring it
pub data IsDue (state : State) (g : ℕ) (r : Ref) : Type 0 where
  as_root : (root : Root) → root_at state g ≡ Some root → root_of root.word ≡ r → IsDue state g r
  as_successor : (root : Root) (offer : Descriptor) → root_at state g ≡ Some root → root.word ≡ Offer offer → offer.successor ≡ r → IsDue state g r
  as_second : (other : ℕ) (root : Root) (offer : Descriptor) → root_at state other ≡ Some root → root.word ≡ Offer offer → offer.opens ≡ Some g → offer.second ≡ Some r → IsDue state g r

module _ (limits : Bounds) (ok : AreBounds limits) (xs : List Step) (h : Each limits xs) (actor : ℕ) (operation : Operation) (runs : operation_of (run limits xs) actor ≡ Some operation) (o : Outcome)
    (m : Moves (run limits xs) (step.Go actor) o (settled (run limits xs) (gone (run limits xs) actor operation)))
    (is_after : run limits (xs ++ step.Go actor ∷ []) ≡ settled (run limits xs) (gone (run limits xs) actor operation))
    (action : Action) (acts : action_of (run limits xs) operation ≡ action) where
  abbrev state : State
  state = run limits xs

  abbrev held : Held
  held = held_of limits xs

  abbrev s : Step
  s = step.Go actor

  abbrev after : State
  after = settled state (gone state actor operation)

  abbrev pub at : ℕ
  at = handle_of operation.call

  abbrev pub put : State
  put = acting.put limits ok xs h actor operation runs o m is_after

  abbrev Lost : Ref → Type 0
  Lost j = WasDropped limits (xs ++ s ∷ []) j

  after_is : after ≡ acting.done limits ok xs h actor operation runs o m is_after action acts
  after_is = acting.after_is limits ok xs h actor operation runs o m is_after action acts

  pub honest : (own : Descriptor) → settles action ≡ Some own → stands_in (word_at state at) own ≡ true → word_at state at ≡ Offer own
  honest own is e = same_offer state (has_handles_along limits xs).0 actor operation own runs (ap settles acts ∙ is) at e

  pub root_then : (g : ℕ) (root : Root) → root_at after g ≡ Some root → RootFrom put at action g root
  root_then g root e = root_from put at g root action honest (sym (ap (λ (a : State). root_at a g) after_is) ∙ e)

  pub offer_then : (g : ℕ) (root : Root) (offer : Descriptor) → root_at after g ≡ Some root → root.word ≡ Offer offer →
      ((was : Root) × (root_at state g ≡ Some was) × (was.word ≡ Offer offer)) ⊎ ((action ≡ act.Offer offer) × (g ≡ at))
  offer_then g root offer e w = by (offer_from put at g offer action (sym (ap (λ (a : State). word_at a g) after_is) ∙ ap word_of e ∙ w))
    where
      by : OfferFrom put.roots at action g offer → ((was : Root) × (root_at state g ≡ Some was) × (was.word ≡ Offer offer)) ⊎ ((action ≡ act.Offer offer) × (g ≡ at))
      by (stood_before is unsettled) = inl (offer_open (root_at state g) offer is)
      by (put_now is here plain) = inr (is, here)

  -- the one that is settled stands no more
  pub unsettled : (g : ℕ) (root : Root) (offer own : Descriptor) → root_at after g ≡ Some root → root.word ≡ Offer offer → settles action ≡ Some own → g ≡ at →
      stands_in (word_at state at) own ≡ true → ⊥
  unsettled g root offer own e w is here stands = by (offer_from put at g offer action (sym (ap (λ (a : State). word_at a g) after_is) ∙ ap word_of e ∙ w))
    where
      by : OfferFrom put.roots at action g offer → ⊥
      by (stood_before was other) = other own is here (ap (λ x. stands_in (word_at state x) own) here ∙ stands)
      by (put_now it there plain) = none-some own (sym (ap settles it) ∙ is)

  -- ---- where no offer is carried out, and each handle holds what it is to hold still

  module _ (apart : (i p f : Ref) → act.Publish i p f ≡ action → ⊥) (change : Change) (heap : after.heap ≡ state.heap) (none : (offer : Descriptor) → ActionCarriesOut put at action offer → ⊥)
      (handles : (g : ℕ) (r : Ref) → IsDue state g r → Has held (OfHandle g) r → Has (held_after change held) (OfHandle g) r)
      (nodes : (j k : Ref) → IsInUse state.heap j → Names state.heap j k → Has held (OfNode j) k → Has (held_after change held) (OfNode j) k ⊎ Lost j)
      (first : (offer : Descriptor) → action ≡ act.Offer offer → Has (held_after change held) (OfHandle at) offer.successor)
      (other : (offer : Descriptor) (opens : ℕ) (second : Ref) → action ≡ act.Offer offer → offer.opens ≡ Some opens → offer.second ≡ Some second →
      Has (held_after change held) (OfHandle opens) second) where
    abbrev later : Held
    later = held_after change held

    own : (b : ℕ) (q : Operation) (because : Purpose) (j x g : Ref) → operation_of state b ≡ Some q → q.line ≡ line.Swap because (swapping j x g) → (s ≡ step.Go b) ⊎ (s ≡ step.GiveUp b) → Lost g
    own b q because j x g runs_b on by = not_swapping state actor operation runs action acts apart Lost b q because j x g runs_b on by

    lost : (j : Ref) → WasDropped limits xs j → Lost j
    lost j gone = dropped_later limits xs s j gone

    root_held : (g : ℕ) (root : Root) → RootFrom put at action g root → Has later (OfHandle g) (root_of root.word)
    root_held g root (stood was e access same free) = subst (Has later (OfHandle g)) (sym same) (handles g (root_of was.word) (as_root was e refl) (h.roots g was e))
    root_held g root (swapped was offer c here e is) = absurd (none offer c)
    root_held g root (newly offer n c opens here is) = absurd (none offer c)

    pub rooted : EachIsHeld after later Lost
    rooted = record {
      roots = λ g root e. root_held g root (root_then g root e);
      successors = λ g root offer e w. elim (offer_then g root offer e w) [
        | inl was ↦ handles g offer.successor (as_successor was.0 offer was.1 was.2 refl) (h.successors g was.0 offer was.1 was.2)
        | inr now ↦ subst (λ x. Has later (OfHandle x) offer.successor) (sym now.1) (first offer now.0)
      ];
      seconds = λ g root offer opens second e w is_opens is_second. elim (offer_then g root offer e w) [
        | inl was ↦ handles opens second (as_second g was.0 offer was.1 was.2 is_opens is_second) (h.seconds g was.0 offer opens second was.1 was.2 is_opens is_second)
        | inr now ↦ other offer opens second now.0 is_opens is_second
      ];
      nodes = quiet_nodes state after held later (λ j. WasDropped limits xs j) Lost h heap lost (own_still change held) nodes
          (still_publishes state s o after m Lost own);
      before = quiet_before state after held later (λ j. WasDropped limits xs j) Lost h heap lost (own_still change held) nodes
          (still_publishes state s o after m Lost own);
    }
