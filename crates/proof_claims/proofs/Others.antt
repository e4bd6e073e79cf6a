-- Steps that are no action of an operation: begins, ends, the sweep, and giving up.
use Rattle.std.proofs.Common.{◌≡◌, ◌⊎◌, inl, inr, ℕ, zero, suc, ◌-◌, List, [], ◌∷◌, ◌++◌, Contains, Option, Some, None, get_or, set, map, refl, sym, ap, subst, ◌∙◌, arith, get_or-set_same, is_some}
use Rattle.std.proofs.lemmas.Bool.{true≢false}
use Rattle.std.proofs.lemmas.Option.{none-some, same_Some}
use Rattle.proof_claims.specs.Beneath.history.specs.declared.calls.Call.{Call}
use Rattle.proof_claims.specs.Beneath.history.specs.declared.calls.Call.TheVariants.{Close}
use Rattle.proof_claims.specs.Beneath.history.specs.declared.replies.Reply.{Reply}
use Rattle.proof_claims.specs.Beneath.slot_arena.specs.declared.refs.Ref.{Ref}
use Rattle.proof_claims.specs.Beneath.machine_model.specs.declared.actions.Action.{Action}
use Rattle.proof_claims.specs.Beneath.machine_model.specs.declared.actions.Action.TheVariants as act
use Rattle.proof_claims.specs.Beneath.machine_model.specs.declared.lines.Line.TheVariants as line
use Rattle.proof_claims.specs.Beneath.machine_model.specs.declared.lines.Purpose.{Purpose}
use Rattle.proof_claims.specs.Beneath.machine_model.specs.declared.operations.Operation.{Operation}
use Rattle.proof_claims.specs.Beneath.machine_model.specs.declared.roots.Descriptor.{Descriptor}
use Rattle.proof_claims.specs.Beneath.machine_model.specs.declared.roots.Root.{Root}
use Rattle.proof_claims.specs.Beneath.machine_model.specs.declared.roots.RootWord.TheVariants.{Offer}
use Rattle.proof_claims.specs.Beneath.machine_model.specs.declared.steps.Bounds.{Bounds}
use Rattle.proof_claims.specs.Beneath.machine_model.specs.declared.steps.Outcome.{Outcome}
use Rattle.proof_claims.specs.Beneath.machine_model.specs.declared.steps.Step.{Step}
use Rattle.proof_claims.specs.Beneath.machine_model.specs.declared.steps.Step.TheVariants as step
use Rattle.proof_claims.specs.Beneath.machine_model.specs.Calls.{handle_of}
use Rattle.proof_claims.specs.Beneath.machine_model.specs.Counting.{settled}
use Rattle.proof_claims.specs.Beneath.machine_model.specs.GivingUp.{gave_up}
use Rattle.proof_claims.specs.Beneath.machine_model.specs.Acting.{ended}
use Rattle.proof_claims.specs.Beneath.machine_model.specs.Grown.{standing}
use Rattle.proof_claims.specs.Beneath.machine_model.specs.Machine.{AreBounds, begin_denial, handle_closed, pin_of, run, swept, with_begin}
use Rattle.proof_claims.specs.Beneath.machine_model.specs.Moves.{Moves, begun_operation}
use Rattle.proof_claims.specs.Beneath.machine_model.specs.Operations.{action_of}
use Rattle.proof_claims.specs.Beneath.machine_model.specs.States.{State, operation_of, root_at, root_of, with_operation, word_at, word_of}
use Rattle.proof_claims.specs.Beneath.machine_model.specs.Swapping.{swapping}
use Rattle.proof_claims.specs.Beneath.machine_model.proofs.Fates.{place_of_actor}
use Rattle.proof_claims.specs.Beneath.machine_model.proofs.Found.{found_elsewhere, found_here, found_within}
use Rattle.proof_claims.specs.Beneath.machine_model.proofs.HeapMoves.{begin_heap}
use Rattle.proof_claims.specs.Beneath.machine_model.proofs.InUse.{InUse}
use Rattle.proof_claims.specs.Beneath.machine_model.proofs.Slots.{ripe_in_use}
use Rattle.proof_claims.specs.Beneath.proof_memory.specs.Laws.{IsInUse}
use Rattle.proof_claims.specs.Beneath.proof_memory.specs.Vocabulary.{ripe}
use Rattle.proof_claims.specs.Beneath.proof_memory.proofs.Heap.Moves.{sweep_goes}
use Rattle.proof_claims.specs.Beneath.proof_memory.proofs.Safety.AtEachTime.{safe_along}
use Rattle.proof_claims.specs.Beneath.proof_memory.proofs.Safety.Base.{handle_given}
use Rattle.proof_claims.specs.Beneath.proof_memory.proofs.Safety.States.{stands_in_use}
use Rattle.proof_claims.specs.Beneath.proof_generations.proofs.Offers.Standing.{own_numbers}
use Rattle.proof_claims.specs.Beneath.proof_generations.proofs.Roots.OfLists.{has_handles_along}
use Rattle.proof_claims.specs.Beneath.proof_garbage.specs.Live.{IsLive, at_hand}
use Rattle.proof_claims.specs.Beneath.proof_garbage.proofs.Claims.{none_in}
use Rattle.proof_claims.specs.Beneath.proof_garbage.proofs.GivenUp.{SameElsewhere, dead_with_nothing}
use Rattle.proof_claims.specs.Held.{Held, held_after}
use Rattle.proof_claims.specs.Changes.{change_by, change_giving_up, change_going, change_of, no_change}
use Rattle.proof_claims.specs.Claims.{held_of}
use Rattle.proof_claims.specs.Clauses.{EachIsHeld}
use Rattle.proof_claims.specs.Dropped.{WasDropped}
use Rattle.proof_claims.proofs.Along.{dropped_later}
use Rattle.proof_claims.proofs.Beginning.{lets_go}
use Rattle.proof_claims.proofs.Frame.{publishes_then}
use Rattle.proof_claims.proofs.GivenUp.{gives_up}
use Rattle.proof_claims.proofs.Spine.{Each, EachAfter}
use Rattle.proof_claims.proofs.Still.{still}
use Rattle.proof_claims.proofs.Sweeping.{sweeps}

-- who is about to do this isn't about to swap in
pub not_swapping : (state : State) (actor : ℕ) (operation : Operation) → operation_of state actor ≡ Some operation → (action : Action) → action_of state operation ≡ action →
    ((i p f : Ref) → act.Publish i p f ≡ action → ⊥) → (Lost : Ref → Type 0) (b : ℕ) (other : Operation) (why : Purpose) (i p f : Ref) → operation_of state b ≡ Some other →
    other.line ≡ line.Swap why (swapping i p f) → (step.Go actor ≡ step.Go b) ⊎ (step.Go actor ≡ step.GiveUp b) → Lost f
not_swapping state actor operation runs action acts apart Lost b other why i p f runs_b on (inl same) =
    let place : actor ≡ b = cc same in
    let one : other ≡ operation = same_Some other operation (sym runs_b ∙ ap (operation_of state) (sym place) ∙ runs) in
    absurd (apart i p f (sym (publishes_then state other why i p f on) ∙ ap (action_of state) one ∙ acts))
not_swapping state actor operation runs action acts apart Lost b other why i p f runs_b on (inr same) = let bad : ⊥ = cc same in absurd bad

module _ (limits : Bounds) (ok : AreBounds limits) (xs : List Step) (h : Each limits xs) where
  abbrev state : State
  state = run limits xs

  abbrev held : Held
  held = held_of limits xs

  abbrev Lost : Step → Ref → Type 0
  Lost s j = WasDropped limits (xs ++ s ∷ []) j

  -- ---- begins

  none_opens : (actor : ℕ) (call : Call) (number : Option ℕ) → begin_denial state actor call number ≡ None → (g : ℕ) (r : Root) (offer : Descriptor) (opens : ℕ) → root_at state g ≡ Some r →
      r.word ≡ Offer offer → offer.opens ≡ Some opens → opens ≡ handle_of call → ⊥
  none_opens actor call number d g r offer opens e w is_opens same =
      let (offers, handles) = has_handles_along limits xs in
      let by = offers.offers g offer (ap word_of e ∙ w) in
      let its = own_numbers by.owner offer (offers.own by.k by.owner by.runs) by.completes in
      let none = handles.unopened by.k opens by.owner by.runs by.unmarked (sym its.number ∙ is_opens) in
      true≢false (sym (handle_given state actor call number d) ∙ ap (λ n. is_some (root_at state n)) (sym same) ∙ ap is_some none)

  module _ (actor : ℕ) (call : Call) (number : Option ℕ) (d : begin_denial state actor call number ≡ None) (o : Outcome)
      (m : Moves state (step.Begin actor call number) o (settled state (with_begin state actor call (begun_operation state call number)))) where
    abbrev began : State
    began = settled state (with_begin state actor call (begun_operation state call number))

    apart : (b : ℕ) (other : Operation) (why : Purpose) (i p f : Ref) → operation_of state b ≡ Some other → other.line ≡ line.Swap why (swapping i p f) →
        (step.Begin actor call number ≡ step.Go b) ⊎ (step.Begin actor call number ≡ step.GiveUp b) → Lost (step.Begin actor call number) f
    apart b other why i p f runs_b on (inl same) = let bad : ⊥ = cc same in absurd bad
    apart b other why i p f runs_b on (inr same) = let bad : ⊥ = cc same in absurd bad

    gone_then : (closed : ℕ) → call ≡ Close closed → root_at began closed ≡ None
    gone_then closed is = subst (λ c. root_at (settled state (with_begin state actor c (begun_operation state call number))) closed ≡ None) (sym is) (by _ refl)
      where
        by : (r : Option Root) → get_or (set state.roots closed None) closed None ≡ r → get_or (set state.roots closed None) closed None ≡ None
        by None e = e
        by (Some root) e = absurd (none-some root (found_here state.roots closed None root e))

    others_then : (closed : ℕ) → call ≡ Close closed → (g : ℕ) → (g ≡ closed → ⊥) → root_at began g ≡ root_at state g
    others_then closed is g other =
        subst (λ c. root_at (settled state (with_begin state actor c (begun_operation state call number))) g ≡ root_at state g) (sym is) (found_elsewhere state.roots closed g None other)

    still_roots : handle_closed state call ≡ state → began.roots ≡ state.roots
    still_roots e = ap (λ (s : State). s.roots) e

    quiet_begin : change_of state held (step.Begin actor call number) ≡ no_change → began.roots ≡ state.roots → EachAfter limits xs (step.Begin actor call number) began
    quiet_begin none same =
        subst (λ c. EachIsHeld began (held_after c held) (Lost (step.Begin actor call number))) (sym none)
        (still state (step.Begin actor call number) o began m held (λ j. WasDropped limits xs j) (Lost (step.Begin actor call number)) h
        (λ j gone. dropped_later limits xs (step.Begin actor call number) j gone) apart (begin_heap state actor call (begun_operation state call number)) same)

    by_call : (c : Call) → call ≡ c → EachAfter limits xs (step.Begin actor call number) began
    by_call (Close closed) is =
        subst (λ c. EachIsHeld began (held_after c held) (Lost (step.Begin actor call number))) (ap (λ c. change_of state held (step.Begin actor c number)) (sym is))
        (lets_go state (step.Begin actor call number) o began m held (λ j. WasDropped limits xs j) (Lost (step.Begin actor call number)) h
        (λ j gone. dropped_later limits xs (step.Begin actor call number) j gone) apart (begin_heap state actor call (begun_operation state call number)) closed (gone_then closed is)
        (others_then closed is) (root_of (word_at state closed))
        (λ g r offer opens e w is_opens same. none_opens actor call number d g r offer opens e w is_opens (same ∙ sym (ap handle_of is))))
    by_call c is = quiet_begin (ap (λ c. change_of state held (step.Begin actor c number)) is) (ap (λ c. (with_begin state actor c (begun_operation state call number)).roots) is)

    pub begins : EachAfter limits xs (step.Begin actor call number) began
    begins = by_call call refl

  -- ---- ends

  pub ends : (actor : ℕ) (operation : Operation) (answer : Reply) → operation_of state actor ≡ Some operation → action_of state operation ≡ act.End answer → (o : Outcome) →
      Moves state (step.Go actor) o (settled state (ended state actor)) → EachAfter limits xs (step.Go actor) (settled state (ended state actor))
  ends actor operation answer runs acts o m =
      subst (λ c. EachIsHeld (settled state (ended state actor)) (held_after c held) (Lost (step.Go actor))) (sym (ap (change_going state held) runs ∙ ap (change_by state held operation) acts))
      (still state (step.Go actor) o (settled state (ended state actor)) m held (λ j. WasDropped limits xs j) (Lost (step.Go actor)) h
      (λ j gone. dropped_later limits xs (step.Go actor) j gone)
      (not_swapping state actor operation runs (act.End answer) acts (λ i p f e. let bad : ⊥ = cc e in bad) (Lost (step.Go actor))) refl refl)

  -- ---- the sweep

  used_stays : (r : Ref) → IsInUse (settled state (swept state).1).heap r → standing (settled state (swept state).1).heap r ≡ standing state.heap r
  used_stays r (slot, is) =
      elim (sweep_goes state (safe_along limits ok xs) (map pin_of state.actors) (ripe state.epoch state.limbo)
      (λ q due. stands_in_use state.heap q (ripe_in_use (InUse state.heap) state.epoch state.limbo ((safe_along limits ok xs).sound.limbo) q due)) r) [
        | inl same ↦ same
        | inr none ↦ absurd (none-some slot (sym none ∙ is))
      ]

  pub sweep_keeps : (o : Outcome) → Moves state step.Sweep o (settled state (swept state).1) → run limits (xs ++ step.Sweep ∷ []) ≡ settled state (swept state).1 →
      EachAfter limits xs step.Sweep (settled state (swept state).1)
  sweep_keeps o m is =
      subst (λ (after : State). EachIsHeld after (held_after no_change held) (Lost step.Sweep)) is
      (sweeps limits xs ok step.Sweep o (subst (λ (after : State). Moves state step.Sweep o after) (sym is) m) h refl (ap (λ (after : State). after.roots) is)
      (λ r u.
      subst (λ (after : State). standing after.heap r ≡ standing state.heap r) (sym is) (used_stays r (subst (λ (after : State). IsInUse after.heap r) is u))))

  -- ---- giving up

  module _ (actor : ℕ) (operation : Operation) (answer : Reply) (runs : operation_of state actor ≡ Some operation) (o : Outcome) where
    abbrev then : State
    then = settled state (with_operation state actor (Some (gave_up operation answer)))

    others : (a : ℕ) → (a ≡ actor → ⊥) → operation_of then a ≡ operation_of state a
    others zero other = refl
    others (suc j) other =
        let (k, its, at_k) = place_of_actor state actor operation runs in found_elsewhere state.actors (actor - 1) j _ (λ e. other (omega (arith, its, e)))

    own_then : operation_of then actor ≡ Some (gave_up operation answer)
    own_then =
        let (k, its, at_k) = place_of_actor state actor operation runs in
        let place : actor - 1 ≡ k = omega (arith, its) in
        ap (operation_of then) its ∙ ap (λ i. get_or (set state.actors i (Some (gave_up operation answer))) k None) place
        ∙ get_or-set_same state.actors k (Some (gave_up operation answer)) None (found_within state.actors k operation at_k)

    elsewhere : SameElsewhere limits xs ok actor operation runs then
    elsewhere = record { roots = refl; heap = refl; bounds = refl; others = others }

    nothing_left : (p : Operation) → operation_of then actor ≡ Some p → (r : Ref) → Contains (at_hand then p) r → ⊥
    nothing_left p e r c = none_in r (subst (λ x. Contains (at_hand then x) r) (same_Some p (gave_up operation answer) (sym e ∙ own_then)) c)

    -- what it made is dead then
    pub told_dead : (x : Ref) → Contains operation.private x → IsLive then x → ⊥
    told_dead x c live = dead_with_nothing limits xs ok actor operation runs then elsewhere nothing_left x c live

    pub give_up_keeps : Moves state (step.GiveUp actor) o then → run limits (xs ++ step.GiveUp actor ∷ []) ≡ then → EachAfter limits xs (step.GiveUp actor) then
    give_up_keeps m is =
        subst (λ c. EachIsHeld then (held_after c held) (Lost (step.GiveUp actor))) (sym (ap change_giving_up runs))
        (gives_up limits xs ok (step.GiveUp actor) o then m is h actor operation runs (inr refl) refl refl (ap change_giving_up runs) told_dead)
