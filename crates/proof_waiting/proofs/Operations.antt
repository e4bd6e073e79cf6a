-- While others take steps an operation stays, but for its mark.
use Rattle.std.proofs.Common.{◌≡◌, ℕ, suc, Bool, List, [], ◌∷◌, ◌++◌, All, Some, refl, sym, ap, ◌∙◌, subst, append_assoc, append-nil}
use Rattle.std.proofs.lemmas.List.Elements.{All-head, All-tail}
use Rattle.machine_model.specs.declared.operations.Operation.{Operation}
use Rattle.machine_model.specs.declared.steps.Bounds.{Bounds}
use Rattle.machine_model.specs.declared.steps.Step.{Step}
use Rattle.machine_model.specs.declared.steps.Step.TheVariants as step
use Rattle.machine_model.specs.Machine.{AreBounds, run, next_state}
use Rattle.machine_model.specs.Operations.{action_of}
use Rattle.machine_model.specs.States.{State, Runs, first_state, operation_of}
use Rattle.machine_model.proofs.Actors.{mark_one, mark_only, marks_in}
use Rattle.machine_model.proofs.Along.{kept_by_moves, run_push, limits_along}
use Rattle.machine_model.proofs.Fates.{Follows, rests, steps as goes, ends, gives_up, follows, place_of_actor}
use Rattle.machine_model.proofs.Grown.{node_standing}
use Rattle.proof_memory.specs.Laws.{SameNode}
use Rattle.proof_memory.proofs.Safety.AtEachTime.{safe_along}
use Rattle.proof_memory.proofs.Safety.AtTimes.{line_finds}
use Rattle.proof_slots.specs.Unswept.{HasNoSweeps}
use Rattle.proof_slots.proofs.Unswept.Kept.{nothing_is_freed}
use Rattle.proof_waiting.specs.Laws.{NodesStay}
use Rattle.proof_waiting.specs.Waiting.{IsOfOther, OperationsWait}
use Rattle.proof_waiting.proofs.Actions.{action_waits}

pub no_sweeps : (actor : ℕ) (more : List Step) → All (IsOfOther actor) more → HasNoSweeps more
no_sweeps actor [] h = tt
no_sweeps actor (step.Begin other call number ∷ more) h = (tt, no_sweeps actor more (All-tail (IsOfOther actor) _ more h))
no_sweeps actor (step.Go other ∷ more) h = (tt, no_sweeps actor more (All-tail (IsOfOther actor) _ more h))
no_sweeps actor (step.GiveUp other ∷ more) h = (tt, no_sweeps actor more (All-tail (IsOfOther actor) _ more h))
no_sweeps actor (step.Sweep ∷ more) h = absurd (All-head (IsOfOther actor) step.Sweep more h)

-- the operation runs at this place, but for its mark
abbrev StaysAt : ℕ → Operation → State → Type 0
StaysAt k operation state = (mark : Bool) × Runs state k (record operation { is_marked = mark })

module _ (k : ℕ) (operation : Operation) where
  not_own : (s : Step) → IsOfOther (suc k) s → s ≡ step.Go (suc k) → ⊥
  not_own s other e = subst (IsOfOther (suc k)) e other refl

  not_given : (s : Step) → IsOfOther (suc k) s → s ≡ step.GiveUp (suc k) → ⊥
  not_given s other e = subst (IsOfOther (suc k)) e other refl

  stays_by : (state : State) (s : Step) (after : State) → IsOfOther (suc k) s → (mark : Bool) → Follows state s after k (record operation { is_marked = mark }) → StaysAt k operation after
  stays_by state s after other mark (rests apart at_k) =
      let m = marks_in state s in
      let was = record operation { is_marked = mark } in
      ((mark_one m was).is_marked, at_k ∙ ap Some (mark_only m was))
  stays_by state s after other mark (goes own g at_k) = absurd (not_own s other own)
  stays_by state s after other mark (ends answer own a) = absurd (not_own s other own)
  stays_by state s after other mark (gives_up answer own a at_k) = absurd (not_given s other own)

  stays_once : (state : State) (s : Step) → IsOfOther (suc k) s → StaysAt k operation state → StaysAt k operation (next_state state s)
  stays_once state s other h =
      kept_by_moves (StaysAt k operation) state s h (λ o after m. stays_by state s after other h.0 (follows state s o after m k (record operation { is_marked = h.0 }) h.1))

  stays_along : (limits : Bounds) (steps more : List Step) → All (IsOfOther (suc k)) more → StaysAt k operation (run limits steps) → StaysAt k operation (run limits (steps ++ more))
  stays_along limits steps [] others h = subst (λ l. StaysAt k operation (run limits l)) (sym (append-nil steps)) h
  stays_along limits steps (s ∷ more) others h =
      subst (λ l. StaysAt k operation (run limits l)) (append_assoc steps (s ∷ []) more)
      (stays_along limits (steps ++ s ∷ []) more (All-tail (IsOfOther (suc k)) s more others)
      (subst (StaysAt k operation) (sym (run_push (first_state limits) steps s)) (stays_once (run limits steps) s (All-head (IsOfOther (suc k)) s more others) h)))

pub nodes_stay : (limits : Bounds) (steps more : List Step) → AreBounds limits → HasNoSweeps more → NodesStay (run limits steps) (run limits (steps ++ more))
nodes_stay limits steps more ok quiet = record {
  hash = ap (λ (l : Bounds). l.hash) (limits_along limits (steps ++ more) ∙ sym (limits_along limits steps));
  same = λ r (was, found).
      let (now, later, same) = nothing_is_freed limits steps more r was ok quiet found in
      subst (λ n. SameNode n _) (sym (node_standing (run limits steps).heap r was found)) (subst (λ n. SameNode was.node n) (sym (node_standing (run limits (steps ++ more)).heap r now later)) same);
}

-- the mark changes nothing of what it does
unmarked : (state : State) (operation : Operation) (mark : Bool) → action_of state (record operation { is_marked = mark }) ≡ action_of state operation
unmarked state operation mark = refl

pub operations_wait : OperationsWait
operations_wait limits steps more actor operation ok others runs =
    let (k, own, at_k) = place_of_actor (run limits steps) actor operation runs in
    let (mark, later) = stays_along k operation limits steps more (subst (λ a. All (IsOfOther a) more) own others) (operation.is_marked, at_k) in
    record {
      mark = mark;
      runs = ap (operation_of (run limits (steps ++ more))) own ∙ later;
      acts = unmarked (run limits (steps ++ more)) operation mark
          ∙ action_waits (run limits steps) (run limits (steps ++ more)) (nodes_stay limits steps more ok (no_sweeps actor more others)) operation (line_finds (run limits steps)
          (safe_along limits ok steps) actor operation runs);
    }
