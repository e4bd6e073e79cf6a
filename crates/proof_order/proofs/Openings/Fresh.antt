-- Where the fresh roots that an operation is to offer come from in a step: its line had them, or has just made them.
use Rattle.std.proofs.Common.{◌≡◌, ℕ, suc, Bool, inl, inr, Some, sym, ap, ◌∙◌}
use Rattle.std.proofs.lemmas.Option.{none-some, same_Some}
use Rattle.proof_order.specs.Vocabulary.{Ref, Node, Indirection, node_at, generation_at, next_ref, Operation, Outcome, Step, State, operation_of, action_of, line_after, Begins, Ends, Sweeps}
use Rattle.proof_order.specs.Vocabulary.{GivesUp, Moves, Record, made_node, IsInUse}
use Rattle.proof_order.specs.Beneath.machine_model.specs.declared.actions.Action.TheVariants as act
use Rattle.proof_order.specs.Beneath.machine_model.specs.declared.steps.Step.TheVariants as step
use Rattle.proof_order.specs.Beneath.machine_model.specs.Moves.{Goes}
use Rattle.proof_order.specs.Beneath.proof_memory.proofs.Safety.States.{IsSafe, used_of}
use Rattle.proof_order.specs.Beneath.proof_memory.proofs.Safety.Steps.{made_fresh}
use Rattle.proof_generations.proofs.Handles.Running.{comes}
use Rattle.proof_generations.specs.Running.{Runs}
use Rattle.proof_generations.proofs.Handles.Operations.{Ran, ran_or_began}
use Rattle.proof_generations.proofs.Roots.Kept.{fresh_in, fresh_from, FreshFrom, had, new, makes_first, fresh_kept}
use Rattle.proof_generations.proofs.Roots.Along.{IsOrdered}
use Rattle.proof_generations.proofs.Roots.Own.{first_none}

-- what a step makes stands behind it
pub stands_made : (state : State) (S : IsSafe state) (s : Step) (o : Outcome) (after : State) → Moves state s o after → (k : ℕ) (was : Operation) →
    s ≡ step.Go (suc k) → Runs state k was → (node : Node) (r : Ref) →
    made_node state (action_of state was) ≡ Some node → next_ref state.heap ≡ Some r → IsInUse after.heap r × (node_at after.heap r ≡ node)
stands_made state S s o after (Begins d) k was e at_k node r a n = let wrong : ⊥ = cc e in absurd wrong
stands_made state S s o after (Goes {actor} {operation} d is action g) k was e at_k node r a n =
    let place : actor ≡ suc k = cc e in
    let one : operation ≡ was = same_Some _ _ (sym is ∙ ap (operation_of state) place ∙ at_k) in
    let made = made_fresh state S actor k operation (at_k ∙ ap Some (sym one)) node r (ap (λ x. made_node state (action_of state x)) one ∙ a) n in
    (used_of _ operation.epoch r made.0, made.1)
stands_made state S s o after (Ends {actor} {operation} {answer} d is action) k was e at_k node r a n =
    let place : actor ≡ suc k = cc e in
    let one : operation ≡ was = same_Some _ _ (sym is ∙ ap (operation_of state) place ∙ at_k) in
    absurd (none-some node (ap (made_node state) (sym action ∙ ap (action_of state) one) ∙ a))
stands_made state S s o after (GivesUp d is action) k was e at_k node r a n = let wrong : ⊥ = cc e in absurd wrong
stands_made state S s o after (Sweeps spent) k was e at_k node r a n = let wrong : ⊥ = cc e in absurd wrong

module _ (state : State) (past : Record) (S : IsSafe state) (I : IsOrdered state past) (s : Step) (o : Outcome) (after : State) (m : Moves state s o after) where
  pub data FreshBehind (k : ℕ) (found : Operation) (x : Bool) (r : Ref) : Type 0 where
    -- its line had it
    stays : (ran : Ran state s k found) → fresh_in x ran.was.line ≡ Some r → generation_at after.heap r ≡ generation_at state.heap r → FreshBehind k found x r
    -- its own step made it, over this main node
    made : (ran : Ran state s k found) (main : Ref) → s ≡ step.Go (suc k) → action_of state ran.was ≡ act.MakeRoot main → next_ref state.heap ≡ Some r → x ≡ makes_first ran.was.line →
        found.line ≡ line_after state ran.was ran.was.line → IsInUse after.heap r → node_at after.heap r ≡ Indirection state.generations main → FreshBehind k found x r

  from_line : (k : ℕ) (found : Operation) (x : Bool) (r : Ref) (ran : Ran state s k found) → s ≡ step.Go (suc k) →
      found.line ≡ line_after state ran.was ran.was.line → FreshFrom state ran.was ran.was.line x r →
      FreshBehind k found x r
  from_line k found x r ran is goes (had e) = stays ran e (fresh_kept state S s o after m k ran.was x r ran.at_k e)
  from_line k found x r ran is goes (new main a n side) =
      let stands = stands_made state S s o after m k ran.was is ran.at_k (Indirection state.generations main) r (ap (made_node state) a) n in
      made ran main is a n side goes stands.0 stands.1

  pub fresh_behind : (k : ℕ) (found : Operation) → Runs after k found → (x : Bool) (r : Ref) → fresh_in x found.line ≡ Some r → FreshBehind k found x r
  fresh_behind k found at_k x r e = elim (ran_or_began state I.offers I.handles s k found (comes state s o after m k found at_k)) [
    | inl ran ↦ elim ran.line [
      | inl same ↦ stays ran (ap (fresh_in x) (sym same) ∙ e) (fresh_kept state S s o after m k ran.was x r ran.at_k (ap (fresh_in x) (sym same) ∙ e))
      | inr (inl goes) ↦ from_line k found x r ran goes.0 goes.1 (fresh_from state ran.was ran.was.line x r (ap (fresh_in x) (sym goes.1) ∙ e))
      | inr (inr ended) ↦ absurd (none-some r (sym (ap (fresh_in x) ended.1) ∙ e))
    ]
    | inr (call, number, is, d, it) ↦ absurd (first_none call x r (ap (λ (y : Operation). fresh_in x y.line) (sym it) ∙ e))
  ]
