-- Steps of an operation that go on, by their actions.
use Rattle.std.proofs.Common.{◌≡◌, inl, ℕ, zero, suc, ◌-◌, ◌==◌, ◌++◌, Bool, true, false, List, [], ◌∷◌, Contains, Some, None, get_or, set, refl, sym, ap, subst, ◌∙◌, arith, eqb-true, get_or-set_same}
use Rattle.std.proofs.lemmas.Option.{same_Some}
use Rattle.proof_claims.specs.Beneath.slot_arena.specs.declared.nodes.Prev.TheVariants as prev
use Rattle.proof_claims.specs.Beneath.slot_arena.specs.declared.refs.Ref.{Ref}
use Rattle.proof_claims.specs.Beneath.slot_arena.specs.Heaps.{main_at, prev_at, with_main, with_prev}
use Rattle.proof_claims.specs.Beneath.machine_model.specs.declared.actions.Action.{Action}
use Rattle.proof_claims.specs.Beneath.machine_model.specs.declared.actions.Action.TheVariants as act
use Rattle.proof_claims.specs.Beneath.machine_model.specs.declared.lines.Line.{Line}
use Rattle.proof_claims.specs.Beneath.machine_model.specs.declared.lines.Line.TheVariants as line
use Rattle.proof_claims.specs.Beneath.machine_model.specs.declared.lines.Purpose.{Purpose}
use Rattle.proof_claims.specs.Beneath.machine_model.specs.declared.operations.Operation.{Operation}
use Rattle.proof_claims.specs.Beneath.machine_model.specs.declared.reading.SwapLine.{SwapLine}
use Rattle.proof_claims.specs.Beneath.machine_model.specs.declared.reading.SwapLine.TheVariants as swap
use Rattle.proof_claims.specs.Beneath.machine_model.specs.declared.steps.Bounds.{Bounds}
use Rattle.proof_claims.specs.Beneath.machine_model.specs.declared.steps.Outcome.{Outcome}
use Rattle.proof_claims.specs.Beneath.machine_model.specs.declared.steps.Step.{Step}
use Rattle.proof_claims.specs.Beneath.machine_model.specs.declared.steps.Step.TheVariants as step
use Rattle.proof_claims.specs.Beneath.machine_model.specs.Acting.{acted, gone, if_changed, operation_after}
use Rattle.proof_claims.specs.Beneath.machine_model.specs.Calls.{handle_of}
use Rattle.proof_claims.specs.Beneath.machine_model.specs.Counting.{settled}
use Rattle.proof_claims.specs.Beneath.machine_model.specs.Machine.{AreBounds, run}
use Rattle.proof_claims.specs.Beneath.machine_model.specs.Moves.{Moves}
use Rattle.proof_claims.specs.Beneath.machine_model.specs.Operations.{action_of}
use Rattle.proof_claims.specs.Beneath.machine_model.specs.States.{State, operation_of, with_operation}
use Rattle.proof_claims.specs.Beneath.machine_model.proofs.Fates.{place_of_actor}
use Rattle.proof_claims.specs.Beneath.machine_model.proofs.Found.{found_elsewhere, found_within}
use Rattle.proof_claims.specs.Beneath.proof_fresh.proofs.Publishing.{publishing}
use Rattle.proof_claims.specs.Beneath.proof_garbage.specs.Live.{IsLive, at_hand}
use Rattle.proof_claims.specs.Beneath.proof_garbage.proofs.Claims.{none_in}
use Rattle.proof_claims.specs.Beneath.proof_garbage.proofs.GivenUp.{SameElsewhere, dead_where_missed, dead_with_nothing}
use Rattle.proof_claims.specs.Held.{Change, Held, held_after, is_owned}
use Rattle.proof_claims.specs.Changes.{change_by, change_going, change_of, checks, checks_at, given_up, no_change, publishes}
use Rattle.proof_claims.specs.Claims.{held_of}
use Rattle.proof_claims.specs.Clauses.{EachIsHeld}
use Rattle.proof_claims.specs.Dropped.{WasDropped}
use Rattle.proof_claims.proofs.Along.{dropped_later}
use Rattle.proof_claims.proofs.Checking.{checked}
use Rattle.proof_claims.proofs.GivenUp.{gives_up}
use Rattle.proof_claims.proofs.Others.{not_swapping}
use Rattle.proof_claims.proofs.Publishing.{swaps_in}
use Rattle.proof_claims.proofs.Restoring.{puts_back}
use Rattle.proof_claims.proofs.Spine.{Each, EachAfter}
use Rattle.proof_claims.proofs.Still.{still}

module _ (limits : Bounds) (ok : AreBounds limits) (xs : List Step) (h : Each limits xs) (actor : ℕ) (operation : Operation) (runs : operation_of (run limits xs) actor ≡ Some operation) (o : Outcome)
    (m : Moves (run limits xs) (step.Go actor) o (settled (run limits xs) (gone (run limits xs) actor operation)))
    (is_after : run limits (xs ++ step.Go actor ∷ []) ≡ settled (run limits xs) (gone (run limits xs) actor operation)) where
  abbrev pub state : State
  state = run limits xs

  abbrev pub after : State
  after = settled state (gone state actor operation)

  abbrev pub held : Held
  held = held_of limits xs

  abbrev pub s : Step
  s = step.Go actor

  abbrev pub Lost : Ref → Type 0
  Lost j = WasDropped limits (xs ++ s ∷ []) j

  abbrev pub put : State
  put = with_operation state actor (Some (operation_after state operation))

  abbrev pub Kept : Type 0
  Kept = EachAfter limits xs s after

  module _ (action : Action) (acts : action_of state operation ≡ action) where
    abbrev pub done : State
    done = settled state (acted put (handle_of operation.call) action)

    pub after_is : after ≡ done
    after_is = ap (λ a. settled state (acted put (handle_of operation.call) a)) acts

    -- by the change of this action
    pub change_is : (c : Change) → change_by state held operation action ≡ c → change_of state held s ≡ c
    change_is c is = ap (change_going state held) runs ∙ ap (change_by state held operation) acts ∙ is

    pub changed : (c : Change) → change_by state held operation action ≡ c → EachIsHeld after (held_after c held) Lost → Kept
    changed c is e = subst (λ c. EachIsHeld after (held_after c held) Lost) (sym (change_is c is)) e

    pub quiet : ((i p f : Ref) → act.Publish i p f ≡ action → ⊥) → change_by state held operation action ≡ no_change → done.heap ≡ state.heap → done.roots ≡ state.roots → Kept
    quiet apart none heap roots =
        changed no_change none
        (still state s o after m held (λ j. WasDropped limits xs j) Lost h (λ j gone. dropped_later limits xs s j gone) (not_swapping state actor operation runs action acts apart Lost)
        (ap (λ (x : State). x.heap) after_is ∙ heap) (ap (λ (x : State). x.roots) after_is ∙ roots))

    -- ---- where only the operation and the heap change

    module _ (same : done.actors ≡ put.actors) where
      actors_are : after.actors ≡ set state.actors (actor - 1) (Some (operation_after state operation))
      actors_are = ap (λ (x : State). x.actors) after_is ∙ same

      others : (a : ℕ) → (a ≡ actor → ⊥) → operation_of after a ≡ operation_of state a
      others zero apart = refl
      others (suc j) apart =
          let (k, own, at_k) = place_of_actor state actor operation runs in
          ap (λ ys. get_or ys j None) actors_are ∙ found_elsewhere state.actors (actor - 1) j _ (λ e. apart (omega (arith, own, e)))

      pub own_now : operation_of after actor ≡ Some (operation_after state operation)
      own_now =
          let (k, own, at_k) = place_of_actor state actor operation runs in
          let place : actor - 1 ≡ k = omega (arith, own) in
          ap (operation_of after) own ∙ ap (λ ys. get_or ys k None) actors_are ∙ ap (λ i. get_or (set state.actors i (Some (operation_after state operation))) k None) place
          ∙ get_or-set_same state.actors k (Some (operation_after state operation)) None (found_within state.actors k operation at_k)

      pub elsewhere : done.heap ≡ state.heap → done.roots ≡ state.roots → done.limits ≡ state.limits → SameElsewhere limits xs ok actor operation runs after
      elsewhere heap roots bounds = record {
        roots = ap (λ (x : State). x.roots) after_is ∙ roots;
        heap = ap (λ (x : State). x.heap) after_is ∙ heap;
        bounds = ap (λ (x : State). x.limits) after_is ∙ bounds;
        others = others;
      }

      -- what it made is dead then, where it has nothing at hand
      pub dead_so : done.heap ≡ state.heap → done.roots ≡ state.roots → done.limits ≡ state.limits → at_hand state (operation_after state operation) ≡ [] → (x : Ref) →
          Contains operation.private x → IsLive after x → ⊥
      dead_so heap roots bounds nothing x c live =
          dead_with_nothing limits xs ok actor operation runs after (elsewhere heap roots bounds)
          (λ p e r d. none_in r (subst (λ rs. Contains rs r) (hand_now p e) d)) x c live
        where
          hand_now : (p : Operation) → operation_of after actor ≡ Some p → at_hand after p ≡ []
          hand_now p e =
              ap (at_hand after) (same_Some p (operation_after state operation) (sym e ∙ own_now))
              ∙ ap (λ (l : Bounds). at_hand (record state { limits = l }) (operation_after state operation)) (ap (λ (x : State). x.limits) after_is ∙ bounds) ∙ nothing

      -- so it gives that up
      pub gives : done.heap ≡ state.heap → done.roots ≡ state.roots → done.limits ≡ state.limits → change_by state held operation action ≡ given_up operation.private →
          at_hand state (operation_after state operation) ≡ [] → Kept
      gives heap roots bounds is nothing =
          changed (given_up operation.private) is
          (gives_up limits xs ok s o after m is_after h actor operation runs (inl refl) (ap (λ (x : State). x.heap) after_is ∙ heap) (ap (λ (x : State). x.roots) after_is ∙ roots)
          (change_is (given_up operation.private) is) (dead_so heap roots bounds nothing))

  -- ---- a prev word is read

  by_swap_line : (main : Ref) (acts : action_of state operation ≡ act.ReadPrev main) (why : Purpose) (i a f : Ref) (l : SwapLine) →
      operation.line ≡ line.Swap why (record { indirection = i; replaced = a; fresh = f; line = l }) → Kept
  by_swap_line main acts why i a f swap.Check on =
      changed (act.ReadPrev main) acts (checks (is_owned held i a) (prev_at state.heap f) (record { indirection = i; replaced = a; fresh = f; line = swap.Check }))
      (ap (checks_at state held) on)
      (checked limits xs ok s o after m h actor operation runs refl (ap (λ (x : State). x.heap) (after_is (act.ReadPrev main) acts)) (ap (λ (x : State). x.roots) (after_is (act.ReadPrev main) acts))
      why i a f on)
  by_swap_line main acts why i a f swap.Publish on = quiet (act.ReadPrev main) acts (λ j p g e. let bad : ⊥ = cc e in bad) (ap (checks_at state held) on) refl refl
  by_swap_line main acts why i a f (swap.Deciding r) on = quiet (act.ReadPrev main) acts (λ j p g e. let bad : ⊥ = cc e in bad) (ap (checks_at state held) on) refl refl

  by_line : (main : Ref) (acts : action_of state operation ≡ act.ReadPrev main) (l : Line) → operation.line ≡ l → Kept
  by_line main acts (line.Swap why w) on = by_swap_line main acts why w.indirection w.replaced w.fresh w.line on
  by_line main acts l on = quiet (act.ReadPrev main) acts (λ j p g e. let bad : ⊥ = cc e in bad) (ap (checks_at state held) on) refl refl

  pub reads_prev : (main : Ref) → action_of state operation ≡ act.ReadPrev main → Kept
  reads_prev main acts = by_line main acts operation.line refl

  -- ---- a fresh node is swapped in

  missed_heap : (i a f : Ref) (acts : action_of state operation ≡ act.Publish i a f) → (main_at state.heap i == a) ≡ false → (done (act.Publish i a f) acts).heap ≡ state.heap
  missed_heap i a f acts e = ap (λ b. if_changed b (with_prev (with_main state.heap i f) f (prev.Pending a)) state.heap) e

  -- where another one stands there what it made is dead then
  pub missed_dead : (i a f : Ref) → action_of state operation ≡ act.Publish i a f → (main_at state.heap i == a) ≡ false → (x : Ref) → Contains operation.private x → IsLive after x → ⊥
  missed_dead i a f acts e x c live =
      let (why, on) = publishing state operation i a f acts in
      dead_where_missed limits xs ok actor operation runs i a f why on after (elsewhere (act.Publish i a f) acts refl (missed_heap i a f acts e) refl refl)
      (own_now (act.Publish i a f) acts refl) e x c live

  pub publishes_by : (i a f : Ref) → action_of state operation ≡ act.Publish i a f → (b : Bool) → (main_at state.heap i == a) ≡ b → Kept
  publishes_by i a f acts true e =
      let (why, on) = publishing state operation i a f acts in
      changed (act.Publish i a f) acts (publishes true operation.private i f) (ap (λ b. publishes b operation.private i f) e)
      (swaps_in limits xs ok s o after m h actor operation runs refl (ap (λ (x : State). x.roots) (after_is (act.Publish i a f) acts)) why i a f on (eqb-true (main_at state.heap i) a e)
      (ap (λ (x : State). x.heap) (after_is (act.Publish i a f) acts) ∙ ap (λ b. if_changed b (with_prev (with_main state.heap i f) f (prev.Pending a)) state.heap) e))
  publishes_by i a f acts false e =
      changed (act.Publish i a f) acts (given_up operation.private) (ap (λ b. publishes b operation.private i f) e)
      (gives_up limits xs ok s o after m is_after h actor operation runs (inl refl) (ap (λ (x : State). x.heap) (after_is (act.Publish i a f) acts) ∙ missed_heap i a f acts e)
      (ap (λ (x : State). x.roots) (after_is (act.Publish i a f) acts))
      (change_is (act.Publish i a f) acts (given_up operation.private) (ap (λ b. publishes b operation.private i f) e)) (missed_dead i a f acts e))

  -- ---- a main node is put back

  pub restores_by : (i q p : Ref) → action_of state operation ≡ act.Restore i q p → (b : Bool) → (main_at state.heap i == q) ≡ b → Kept
  restores_by i q p acts true e =
      changed (act.Restore i q p) acts no_change refl
      (puts_back limits xs ok s o after m h actor operation runs refl (ap (λ (x : State). x.roots) (after_is (act.Restore i q p) acts)) i q p acts (eqb-true (main_at state.heap i) q e)
      (ap (λ (x : State). x.heap) (after_is (act.Restore i q p) acts) ∙ ap (λ b. if_changed b (with_main state.heap i p) state.heap) e))
  restores_by i q p acts false e =
      quiet (act.Restore i q p) acts (λ j r g e. let bad : ⊥ = cc e in bad) refl (ap (λ b. if_changed b (with_main state.heap i p) state.heap) e) refl
