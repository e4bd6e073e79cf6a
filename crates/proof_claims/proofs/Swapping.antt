-- Handles after an offer was carried out: its root stands on its handle, and the other handle is open.
use Rattle.std.proofs.Common.{◌≡◌, ◌⊎◌, inl, inr, ℕ, ◌==◌, true, List, [], ◌∷◌, ◌++◌, Option, Some, None, refl, sym, ap, subst, ◌∙◌}
use Rattle.std.proofs.lemmas.Option.{none-some}
use Rattle.proof_claims.specs.Beneath.slot_arena.specs.declared.refs.Ref.{Ref}
use Rattle.proof_claims.specs.Beneath.machine_model.specs.declared.actions.Action.TheVariants as act
use Rattle.proof_claims.specs.Beneath.machine_model.specs.declared.lines.Line.TheVariants as line
use Rattle.proof_claims.specs.Beneath.machine_model.specs.declared.lines.Purpose.{Purpose}
use Rattle.proof_claims.specs.Beneath.machine_model.specs.declared.operations.Operation.{Operation}
use Rattle.proof_claims.specs.Beneath.machine_model.specs.declared.roots.Descriptor.{Descriptor}
use Rattle.proof_claims.specs.Beneath.machine_model.specs.declared.roots.Root.{Root}
use Rattle.proof_claims.specs.Beneath.machine_model.specs.declared.roots.RootWord.TheVariants.{Offer}
use Rattle.proof_claims.specs.Beneath.machine_model.specs.declared.steps.Bounds.{Bounds}
use Rattle.proof_claims.specs.Beneath.machine_model.specs.declared.steps.Outcome.{Outcome}
use Rattle.proof_claims.specs.Beneath.machine_model.specs.declared.steps.Step.{Step}
use Rattle.proof_claims.specs.Beneath.machine_model.specs.declared.steps.Step.TheVariants as step
use Rattle.proof_claims.specs.Beneath.machine_model.specs.Acting.{gone, opened_root}
use Rattle.proof_claims.specs.Beneath.machine_model.specs.Calls.{handle_of}
use Rattle.proof_claims.specs.Beneath.machine_model.specs.Counting.{settled}
use Rattle.proof_claims.specs.Beneath.machine_model.specs.Machine.{AreBounds, run}
use Rattle.proof_claims.specs.Beneath.machine_model.specs.Moves.{Moves}
use Rattle.proof_claims.specs.Beneath.machine_model.specs.Operations.{action_of}
use Rattle.proof_claims.specs.Beneath.machine_model.specs.States.{State, operation_of, root_at, root_of, word_at, word_of}
use Rattle.proof_claims.specs.Beneath.machine_model.specs.Swapping.{is_carried_out, stands_in, swapping}
use Rattle.proof_claims.specs.Beneath.proof_generations.proofs.Handles.Footings.{ActionCarriesOut, RootFrom, newly, one_carried, stood, swapped}
use Rattle.proof_claims.specs.Beneath.proof_generations.proofs.Offers.Standing.{own_numbers}
use Rattle.proof_claims.specs.Beneath.proof_generations.proofs.Roots.OfLists.{has_handles_along}
use Rattle.proof_claims.specs.Held.{Change, Held, OfHandle, OfNode, held_after}
use Rattle.proof_claims.specs.Claims.{Has, held_of}
use Rattle.proof_claims.specs.Clauses.{EachIsHeld}
use Rattle.proof_claims.specs.Dropped.{WasDropped}
use Rattle.proof_claims.proofs.Along.{dropped_later, own_still}
use Rattle.proof_claims.proofs.Frame.{still_publishes}
use Rattle.proof_claims.proofs.Lists.{both_true}
use Rattle.proof_claims.proofs.Others.{not_swapping}
use Rattle.proof_claims.proofs.Quiet.{quiet_before, quiet_nodes}
use Rattle.proof_claims.proofs.Rooting.{honest, offer_open, offer_then, root_then, unsettled}
use Rattle.proof_claims.proofs.Rooting as rooting
use Rattle.proof_claims.proofs.Spine.{Each}

-- an offer that stands is to open no open handle
pub opens_unopened : (limits : Bounds) (xs : List Step) (g : ℕ) (offer : Descriptor) (opens : ℕ) → word_at (run limits xs) g ≡ Offer offer → offer.opens ≡ Some opens →
    root_at (run limits xs) opens ≡ None
opens_unopened limits xs g offer opens stands is =
    let (offers, handles) = has_handles_along limits xs in
    let by = offers.offers g offer stands in
    let its = own_numbers by.owner offer (offers.own by.k by.owner by.runs) by.completes in
    handles.unopened by.k opens by.owner by.runs by.unmarked (sym its.number ∙ is)

module _ (limits : Bounds) (ok : AreBounds limits) (xs : List Step) (h : Each limits xs) (actor : ℕ) (operation : Operation) (runs : operation_of (run limits xs) actor ≡ Some operation) (o : Outcome)
    (m : Moves (run limits xs) (step.Go actor) o (settled (run limits xs) (gone (run limits xs) actor operation)))
    (is_after : run limits (xs ++ step.Go actor ∷ []) ≡ settled (run limits xs) (gone (run limits xs) actor operation))
    (offer : Descriptor) (main : Ref) (acts : action_of (run limits xs) operation ≡ act.Complete offer main)
    (out : is_carried_out (word_at (run limits xs) (handle_of operation.call)) offer main ≡ true) (change : Change)
    (heap : (settled (run limits xs) (gone (run limits xs) actor operation)).heap ≡ (run limits xs).heap) where
  abbrev state : State
  state = run limits xs

  abbrev held : Held
  held = held_of limits xs

  abbrev later : Held
  later = held_after change held

  abbrev s : Step
  s = step.Go actor

  abbrev after : State
  after = settled state (gone state actor operation)

  abbrev at : ℕ
  at = handle_of operation.call

  abbrev put : State
  put = rooting.put limits ok xs h actor operation runs o m is_after (act.Complete offer main) acts

  abbrev Lost : Ref → Type 0
  Lost j = WasDropped limits (xs ++ s ∷ []) j

  stands_now : stands_in (word_at state at) offer ≡ true
  stands_now = (both_true (stands_in (word_at state at) offer) (main == offer.expected) out).0

  pub word_is : word_at state at ≡ Offer offer
  word_is = honest limits ok xs h actor operation runs o m is_after (act.Complete offer main) acts offer refl stands_now

  pub its_root : (root : Root) × (root_at state at ≡ Some root) × (root.word ≡ Offer offer)
  its_root = offer_open (root_at state at) offer word_is

  carries : ActionCarriesOut put at (act.Complete offer main) offer
  carries = record { main = main; is_it = refl; carried = out }

  -- another handle is to be opened
  apart : (g : ℕ) (other : Descriptor) (opens : ℕ) → word_at state g ≡ Offer other → other.opens ≡ Some opens → opens ≡ at → ⊥
  apart g other opens stands is same = none-some its_root.0 (sym (opens_unopened limits xs g other opens stands is) ∙ ap (root_at state) same ∙ its_root.1)

  module _ (others : (g : ℕ) (r : Ref) → (g ≡ at → ⊥) → Has held (OfHandle g) r → Has later (OfHandle g) r) (nodes : (j k : Ref) → Has held (OfNode j) k → Has later (OfNode j) k)
      (successor : Has later (OfHandle at) offer.successor) (frozen : (n : ℕ) → offer.opens ≡ Some n → offer.second ≡ None → Has later (OfHandle n) offer.root) where
    own : (b : ℕ) (q : Operation) (because : Purpose) (j x g : Ref) → operation_of state b ≡ Some q → q.line ≡ line.Swap because (swapping j x g) → (s ≡ step.Go b) ⊎ (s ≡ step.GiveUp b) → Lost g
    own b q because j x g runs_b on by =
        not_swapping state actor operation runs (act.Complete offer main) acts (λ i p f e. let bad : ⊥ = cc e in bad) Lost b q because j x g runs_b on by

    opened_by : (n : ℕ) → offer.opens ≡ Some n → (second : Option Ref) → offer.second ≡ second → Has later (OfHandle n) (root_of (opened_root offer second).word)
    opened_by n is None none = frozen n is none
    opened_by n is (Some q) some = others n q (apart at offer n word_is is) (h.seconds at its_root.0 offer n q its_root.1 its_root.2 is some)

    root_held : (g : ℕ) (root : Root) → RootFrom put at (act.Complete offer main) g root → Has later (OfHandle g) (root_of root.word)
    root_held g root (stood was e access same free) = subst (Has later (OfHandle g)) (sym same) (others g (root_of was.word) (free offer carries) (h.roots g was e))
    root_held g root (swapped was other c here e is) =
        let one = one_carried put at (act.Complete offer main) offer other carries c in
        subst (λ (x : Root). Has later (OfHandle g) (root_of x.word)) (sym is)
        (subst (λ (d : Descriptor). Has later (OfHandle g) d.successor) (sym one) (subst (λ n. Has later (OfHandle n) offer.successor) (sym here) successor))
    root_held g root (newly other n c opens here is) =
        let one = one_carried put at (act.Complete offer main) offer other carries c in
        let its = ap (λ (d : Descriptor). d.opens) (sym one) ∙ opens in
        subst (λ (x : Root). Has later (OfHandle g) (root_of x.word)) (sym is)
        (subst (λ (d : Descriptor). Has later (OfHandle g) (root_of (opened_root d d.second).word)) (sym one)
        (subst (λ k. Has later (OfHandle k) (root_of (opened_root offer offer.second).word)) (sym here) (opened_by n its offer.second refl)))

    offer_before : (g : ℕ) (root : Root) (other : Descriptor) → root_at after g ≡ Some root → root.word ≡ Offer other →
        ((was : Root) × (root_at state g ≡ Some was) × (was.word ≡ Offer other)) × (g ≡ at → ⊥)
    offer_before g root other e w =
        let away : g ≡ at → ⊥ = λ here. unsettled limits ok xs h actor operation runs o m is_after (act.Complete offer main) acts g root other offer e w refl here stands_now in
        elim (offer_then limits ok xs h actor operation runs o m is_after (act.Complete offer main) acts g root other e w) [
          | inl was ↦ (was, away)
          | inr now ↦ let bad : ⊥ = cc now.0 in absurd bad
        ]

    pub carried_kept : EachIsHeld after later Lost
    carried_kept = record {
      roots = λ g root e. root_held g root (root_then limits ok xs h actor operation runs o m is_after (act.Complete offer main) acts g root e);
      successors = λ g root other e w.
          let (was, away) = offer_before g root other e w in
          others g other.successor away (h.successors g was.0 other was.1 was.2);
      seconds = λ g root other opens second e w is_opens is_second.
          let (was, away) = offer_before g root other e w in
          others opens second (apart g other opens (ap word_of was.1 ∙ was.2) is_opens) (h.seconds g was.0 other opens second was.1 was.2 is_opens is_second);
      nodes = quiet_nodes state after held later (λ j. WasDropped limits xs j) Lost h heap (λ j gone. dropped_later limits xs s j gone) (own_still change held)
          (λ j k u n has. inl (nodes j k has)) (still_publishes state s o after m Lost own);
      before = quiet_before state after held later (λ j. WasDropped limits xs j) Lost h heap (λ j gone. dropped_later limits xs s j gone) (own_still change held)
          (λ j k u n has. inl (nodes j k has)) (still_publishes state s o after m Lost own);
    }
