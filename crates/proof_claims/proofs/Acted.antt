-- What a step does: the state after an action, what stays in use with its node, and what is known to one operation alone.
use Rattle.std.proofs.Common.{◌≡◌, inl, inr, ℕ, ◌≤◌, ◌+◌, false, List, [], ◌∷◌, ◌++◌, Contains, Some, None, arith, refl, sym, ap, subst, ◌∙◌}
use Rattle.std.proofs.lemmas.Bool.{true≢false}
use Rattle.std.proofs.lemmas.List.Elements.{Contains-append_left}
use Rattle.std.proofs.lemmas.Option.{same_Some}
use Rattle.proof_claims.specs.Beneath.slot_arena.specs.declared.nodes.Node.{Node}
use Rattle.proof_claims.specs.Beneath.slot_arena.specs.declared.nodes.Node.TheVariants.{Indirection, Branch, Single, Tomb, List as Listed}
use Rattle.proof_claims.specs.Beneath.slot_arena.specs.declared.refs.Ref.{Ref}
use Rattle.proof_claims.specs.Beneath.slot_arena.specs.Heaps.{next_ref, node_at, refs_of_node, taken, with_main_word}
use Rattle.proof_claims.specs.Beneath.slot_arena.specs.Refs.{birth_of}
use Rattle.proof_claims.specs.Beneath.machine_model.specs.declared.actions.Action.{Action}
use Rattle.proof_claims.specs.Beneath.machine_model.specs.declared.actions.Action.TheVariants as act
use Rattle.proof_claims.specs.Beneath.machine_model.specs.declared.operations.Operation.{Operation}
use Rattle.proof_claims.specs.Beneath.machine_model.specs.declared.steps.Bounds.{Bounds}
use Rattle.proof_claims.specs.Beneath.machine_model.specs.declared.steps.Outcome.{Outcome}
use Rattle.proof_claims.specs.Beneath.machine_model.specs.declared.steps.Step.{Step}
use Rattle.proof_claims.specs.Beneath.machine_model.specs.declared.steps.Step.TheVariants as step
use Rattle.proof_claims.specs.Beneath.machine_model.specs.Acting.{acted, new_root_taken, operation_after}
use Rattle.proof_claims.specs.Beneath.machine_model.specs.Calls.{handle_of}
use Rattle.proof_claims.specs.Beneath.machine_model.specs.Counting.{settled}
use Rattle.proof_claims.specs.Beneath.machine_model.specs.Grown.{standing}
use Rattle.proof_claims.specs.Beneath.machine_model.specs.Machine.{AreBounds, run}
use Rattle.proof_claims.specs.Beneath.machine_model.specs.Moves.{Begins, Ends, GivesUp, Goes, GoesOn, Moves, Sweeps}
use Rattle.proof_claims.specs.Beneath.machine_model.specs.Operations.{action_of}
use Rattle.proof_claims.specs.Beneath.machine_model.specs.States.{State, operation_of, with_operation}
use Rattle.proof_claims.specs.Beneath.machine_model.proofs.Grown.{node_standing}
use Rattle.proof_claims.specs.Beneath.proof_commits.proofs.Words.OfRuns.{link_kept}
use Rattle.proof_claims.specs.Beneath.proof_garbage.proofs.Claims.{refs_held}
use Rattle.proof_claims.specs.Beneath.proof_garbage.proofs.GivenUp.{other_id, private_known}
use Rattle.proof_claims.specs.Beneath.proof_garbage.proofs.Known.{named_known}
use Rattle.proof_claims.specs.Beneath.proof_garbage.proofs.Private.{Others}
use Rattle.proof_claims.specs.Beneath.proof_garbage.specs.Live.{refs_of_claims}
use Rattle.proof_claims.specs.Beneath.proof_memory.proofs.Heap.Later.{one_node}
use Rattle.proof_claims.specs.Beneath.proof_memory.proofs.Heap.Under.{fresh_slot, taken_all}
use Rattle.proof_claims.specs.Beneath.proof_memory.proofs.Safety.AtEachTime.{safe_along}
use Rattle.proof_claims.specs.Beneath.proof_memory.proofs.Safety.AtTimes.{action_finds}
use Rattle.proof_claims.specs.Beneath.proof_memory.proofs.Safety.States.{IsSafe, births_grow, stood_or_made}
use Rattle.proof_claims.specs.Beneath.proof_memory.proofs.Safety.Steps.{step_effect}
use Rattle.proof_claims.specs.Beneath.proof_memory.specs.Laws.{IsInUse}
use Rattle.proof_claims.specs.Beneath.proof_memory.specs.Wants.{AllHold, action_wants, is_indirection, node_wants}
use Rattle.proof_claims.proofs.ChangeKinds.{Acting, MakesNode, a_node, a_root}

-- ---- the state after an action

pub acted_after : (state : State) (s : Step) (o : Outcome) (after : State) → Moves state s o after → (action : Action) → (a : Acting state s action) → GoesOn action →
    after ≡ settled state (acted (with_operation state a.actor (Some (operation_after state a.operation))) (handle_of a.operation.call) action)
acted_after state s o after m action a goes = by s o after m a.is_step
  where
    its : (actor : ℕ) (operation : Operation) → operation_of state actor ≡ Some operation → step.Go actor ≡ step.Go a.actor → (actor ≡ a.actor) × (operation ≡ a.operation)
    its actor operation runs e = let place : actor ≡ a.actor = cc e in (place, same_Some operation a.operation (sym runs ∙ ap (operation_of state) place ∙ a.runs))

    by : (s : Step) (o : Outcome) (after : State) → Moves state s o after → s ≡ step.Go a.actor →
        after ≡ settled state (acted (with_operation state a.actor (Some (operation_after state a.operation))) (handle_of a.operation.call) action)
    by s o after (Begins d) e = let bad : ⊥ = cc e in absurd bad
    by s o after (Sweeps spent) e = let bad : ⊥ = cc e in absurd bad
    by s o after (GivesUp d runs may) e = let bad : ⊥ = cc e in absurd bad
    by s o after (Ends {actor} {operation} {answer} d runs acts) e =
        let (place, same) = its actor operation runs e in
        absurd (subst GoesOn (sym a.acts ∙ ap (action_of state) (sym same) ∙ acts) goes)
    by s o after (Goes {actor} {operation} {action = other} d runs acts g) e =
        let (place, same) = its actor operation runs e in
        ap (λ n. settled state (acted (with_operation state n (Some (operation_after state operation))) (handle_of operation.call) (action_of state operation))) place
        ∙ ap (λ (q : Operation). settled state (acted (with_operation state a.actor (Some (operation_after state q))) (handle_of q.call) (action_of state q))) same
        ∙ ap (λ x. settled state (acted (with_operation state a.actor (Some (operation_after state a.operation))) (handle_of a.operation.call) x)) a.acts

-- ---- nodes

-- what a node names it wants
pub named_wanted : (n : Node) (k : Ref) → Contains (refs_of_node n) k → Contains (refs_of_claims (node_wants n)) k
named_wanted (Indirection generation main) k c = c
named_wanted (Branch bitmap entries) k c = Contains-append_left entries.items [] k c
named_wanted (Single key value) k c = c
named_wanted (Tomb single) k c = c
named_wanted (Listed singles) k c = Contains-append_left singles.items [] k c

main_word_else : (m : Ref) (n : Node) → is_indirection n ≡ false → with_main_word m n ≡ n
main_word_else m (Indirection generation main) e = absurd (true≢false e)
main_word_else m (Branch bitmap entries) e = refl
main_word_else m (Single key value) e = refl
main_word_else m (Tomb single) e = refl
main_word_else m (Listed singles) e = refl

module _ (limits : Bounds) (ok : AreBounds limits) (xs : List Step) (s : Step) (o : Outcome) (after : State) (m : Moves (run limits xs) s o after)
    (is_after : run limits (xs ++ s ∷ []) ≡ after) where
  abbrev state : State
  state = run limits xs

  safe : IsSafe state
  safe = safe_along limits ok xs

  pub births_more : state.heap.births ≤ after.heap.births
  births_more = births_grow _ _ _ _ _ _ ((step_effect state safe s o after m).3)

  -- what was made before and stands after the step
  pub record Still (j : Ref) : Type 0 where
    pub used : IsInUse state.heap j
    pub link : is_indirection (node_at after.heap j) ≡ is_indirection (node_at state.heap j)
    pub node : is_indirection (node_at state.heap j) ≡ false → node_at after.heap j ≡ node_at state.heap j

  pub still : (j : Ref) → birth_of j ≤ state.heap.births → IsInUse after.heap j → Still j
  still j made (now, stands) =
      let effect = (step_effect state safe s o after m).3 in
      elim (stood_or_made _ _ _ _ _ _ effect j now stands) [
        | inr new ↦ let birth = new.0 in absurd (omega (arith, birth, made))
        | inl stood ↦
            let (was, found) = stood in
            let (word, is) = one_node limits ok xs (s ∷ []) j was now found (ap (λ (z : State). standing z.heap j) is_after ∙ stands) in
            let before = node_standing state.heap j was found in
            let then = node_standing after.heap j now stands ∙ is ∙ ap (with_main_word word) (sym before) in
            record {
              used = (was, found);
              link = ap is_indirection then ∙ link_kept word (node_at state.heap j);
              node = λ no_link. then ∙ main_word_else word (node_at state.heap j) no_link;
            }
      ]

  -- what is in use was made
  pub used_made : (j : Ref) → IsInUse state.heap j → birth_of j ≤ state.heap.births
  used_made j (slot, stands) = safe.births j slot stands

  pub made_later : (j : Ref) → birth_of j ≤ state.heap.births → birth_of j ≤ after.heap.births
  made_later j made = let more = births_more in omega (arith, made, more)

  -- ---- what the acting operation names

  module _ (action : Action) (a : Acting state s action) where
    pub wants : AllHold (IsInUse state.heap) state.heap (action_wants action)
    wants = subst (λ x. AllHold (IsInUse state.heap) state.heap (action_wants x)) a.acts (action_finds state safe a.actor a.operation a.runs)

    pub wanted_used : (r : Ref) → Contains (refs_of_claims (action_wants action)) r → IsInUse state.heap r
    wanted_used r c = refs_held (IsInUse state.heap) state.heap (action_wants action) wants r c

    -- isn't private to another one
    pub wanted_not : (b : ℕ) (operation : Operation) → operation_of state b ≡ Some operation → (b ≡ a.actor → ⊥) → (r : Ref) → Contains (refs_of_claims (action_wants action)) r →
        Contains operation.private r → ⊥
    wanted_not b operation runs apart r c own =
        private_known limits xs ok b operation runs r own
        (named_known state safe (Others operation.id) a.actor a.operation a.runs (other_id limits xs ok b operation runs a.actor a.operation (λ e. apart (sym e)) a.runs) r
        (subst (λ x. Contains (refs_of_claims (action_wants x)) r) (sym a.acts) c))

  -- ---- a node is made

  module _ (node : Node) (action : Action) (a : Acting state s action) (makes_it : MakesNode state node action) (x : Ref) (drawn : next_ref state.heap ≡ Some x) where
    pub heap_taken : after.heap ≡ taken state.heap node
    heap_taken = by action a makes_it
      where
        by : (action : Action) → (a : Acting state s action) → MakesNode state node action → after.heap ≡ taken state.heap node
        by action a a_node = ap (λ (z : State). z.heap) (acted_after state s o after m (act.Make node) a tt)
        by action a (a_root main is) =
            ap (λ (z : State). z.heap) (acted_after state s o after m (act.MakeRoot main) a tt)
            ∙ ap (λ n. (new_root_taken (with_operation state a.actor (Some (operation_after state a.operation))) main n).heap) drawn ∙ ap (taken state.heap) (sym is)

    all_taken : (standing (taken state.heap node) x ≡ Some (fresh_slot state.heap node)) × (standing state.heap x ≡ None) × ((r : Ref) → (r ≡ x → ⊥) →
        standing (taken state.heap node) r ≡ standing state.heap r)
        × (birth_of x ≡ state.heap.births + 1)
    all_taken = taken_all state.limits.slots state.heap safe.sound.heap node x drawn

    pub made_stands : standing after.heap x ≡ Some (fresh_slot state.heap node)
    made_stands = ap (λ h. standing h x) heap_taken ∙ all_taken.0

    pub made_node : node_at after.heap x ≡ node
    made_node = node_standing after.heap x (fresh_slot state.heap node) made_stands

    pub made_new : birth_of x ≤ state.heap.births → ⊥
    made_new made = let birth = all_taken.3 in omega (arith, made, birth)

    pub names_used : (k : Ref) → Contains (refs_of_node node) k → IsInUse state.heap k
    names_used k c = by action a makes_it
      where
        by : (action : Action) → (a : Acting state s action) → MakesNode state node action → IsInUse state.heap k
        by action a a_node = refs_held (IsInUse state.heap) state.heap (node_wants node) (wants (act.Make node) a).1 k (named_wanted node k c)
        by action a (a_root main is) = wanted_used (act.MakeRoot main) a k (subst (λ n. Contains (refs_of_node n) k) is c)

    -- what is named isn't private to another one
    pub names_not : (b : ℕ) (operation : Operation) → operation_of state b ≡ Some operation → (b ≡ a.actor → ⊥) → (k : Ref) → Contains (refs_of_node node) k → Contains operation.private k → ⊥
    names_not b operation runs apart k c own = by action a makes_it apart
      where
        by : (action : Action) → (a : Acting state s action) → MakesNode state node action → (b ≡ a.actor → ⊥) → ⊥
        by action a a_node apart = wanted_not (act.Make node) a b operation runs apart k (named_wanted node k c) own
        by action a (a_root main is) apart = wanted_not (act.MakeRoot main) a b operation runs apart k (subst (λ n. Contains (refs_of_node n) k) is c) own
