-- A step does the same to claims in a state with more free slots and steps.
use Rattle.std.proofs.Common.{◌≡◌, ◌+◌, ◌<◌, ◌==◌, ℕ, Bool, true, false, List, [], ◌∷◌, Option, Some, None, Ok, Err, flat_map, if◌then◌else◌, refl, sym, ap, ◌∙◌, arith}
use Rattle.machine_model.specs.Beneath.slot_arena.specs.declared.refs.Ref.{Ref}
use Rattle.machine_model.specs.Beneath.slot_arena.specs.Heaps.{next_ref, node_at, refs_of_node}
use Rattle.machine_model.specs.declared.actions.Action.{Action}
use Rattle.machine_model.specs.declared.actions.Action.TheVariants as act
use Rattle.machine_model.specs.declared.lines.Line.{Line}
use Rattle.machine_model.specs.declared.lines.Line.TheVariants as line
use Rattle.machine_model.specs.declared.operations.Operation.{Operation}
use Rattle.machine_model.specs.declared.steps.Step.{Step}
use Rattle.machine_model.specs.declared.steps.Step.TheVariants as step
use Rattle.machine_model.specs.Lasting.{lasting}
use Rattle.machine_model.specs.Machine.{Answer, is_taken_step, next, next_state, state_after}
use Rattle.machine_model.specs.Moves.{MovesIfTaken}
use Rattle.machine_model.specs.Operations.{action_of}
use Rattle.machine_model.specs.Reading.{verdict}
use Rattle.machine_model.specs.States.{State, operation_of}
use Rattle.machine_model.proofs.Frames.{steps_counted}
use Rattle.machine_model.proofs.Lasting.{next_state_lasting}
use Rattle.machine_model.proofs.Moves.{moves}
use Rattle.history.specs.declared.calls.Call.{Call}
use Rattle.history.specs.declared.calls.Call.TheVariants.{Close}
use Rattle.proof_claims.specs.Changes.{at_check, change_beginning, change_by, change_going, change_of, checks, checks_at, claim_of_node, decides, goal_of, makes}
use Rattle.proof_claims.specs.Changes.{over_at, owned_at, publishes, same}
use Rattle.proof_claims.specs.Claims.{next_held}
use Rattle.proof_claims.specs.Held.{Held, held_after, is_owned}
use Rattle.proof_waiting.specs.Beneath.proof_slots.specs.Lasting.{widened}
use Rattle.proof_waiting.specs.Beneath.proof_slots.specs.Padding.{padded}
use Rattle.proof_waiting.specs.Beneath.proof_slots.proofs.Padded.Heaps.{HasFree, next_wide}
use Rattle.proof_waiting.specs.Beneath.proof_slots.proofs.Padded.Lines.{acts_wide}
use Rattle.proof_waiting.specs.Beneath.proof_slots.proofs.Padded.Reads.{verdict_wide}
use Rattle.proof_waiting.specs.Beneath.proof_slots.proofs.Padded.Steps.{next_state_padded}
use Rattle.lock_free.proofs.OneStep.LinksWide.{main_wide, node_wide, prev_wide}

-- ---- whether it is taken

counts_by : (state : State) (s : Step) (a : Answer) → MovesIfTaken state s a → (state_after state a).steps ≡ (if is_taken_step a then state.steps + 1 else state.steps)
counts_by state s (Ok done) m = steps_counted state s done.0 done.1 m
counts_by state s (Err why) m = refl

counts_so : (state : State) (s : Step) → (next_state state s).steps ≡ (if is_taken_step (next state s) then state.steps + 1 else state.steps)
counts_so state s = counts_by state s (next state s) (moves state s)

one_by : (a b : Bool) (n : ℕ) → (if a then n + 1 else n) ≡ (if b then n + 1 else n) → a ≡ b
one_by true true n e = refl
one_by true false n e = absurd (omega (arith, e))
one_by false true n e = absurd (omega (arith, e))
one_by false false n e = refl

module _ (more m : ℕ) (state : State) (free : HasFree state.heap) (m_left : state.steps < m) (left : state.steps < state.limits.steps) where
  abbrev pub wide : State
  wide = widened more m state

  next_same : (s : Step) → next_state wide s ≡ widened more m (next_state state s)
  next_same s = next_state_lasting m (padded more state) m_left left s ∙ ap (lasting m) (next_state_padded more state s free)

  pub taken_same : (s : Step) → is_taken_step (next wide s) ≡ is_taken_step (next state s)
  taken_same s = one_by (is_taken_step (next wide s)) (is_taken_step (next state s)) state.steps (sym (counts_so wide s) ∙ ap (λ (x : State). x.steps) (next_same s) ∙ counts_so state s)

  -- ---- what it does

  module _ (held : Held) where
    over_same : (goal : Option (Ref × Ref)) → over_at wide held goal ≡ over_at state held goal
    over_same None = refl
    over_same (Some goal) = ap (λ n. if is_owned held goal.0 goal.1 then refs_of_node n else []) (node_wide more m state goal.1)

    makes_same : (operation : Operation) (names : List Ref) (made : Option Ref) → makes wide held operation names made ≡ makes state held operation names made
    makes_same operation names None = refl
    makes_same operation names (Some x) =
        ap (λ over. record { fate = same; added = flat_map (claim_of_node over x) names; owned = owned_at operation.line x; made = x ∷ [] }) (over_same (goal_of operation.line))

    checks_same : (l : Line) → checks_at wide held l ≡ checks_at state held l
    checks_same (line.Swap why s) = ap (λ p. at_check s.line (checks (is_owned held s.indirection s.replaced) p s)) (prev_wide more m state s.fresh)
    checks_same l = refl

    made_by : (operation : Operation) (names : List Ref) → makes wide held operation names (next_ref wide.heap) ≡ makes state held operation names (next_ref state.heap)
    made_by operation names = ap (makes wide held operation names) (next_wide more state.limits.slots state.heap free) ∙ makes_same operation names (next_ref state.heap)

    by_same : (operation : Operation) (action : Action) → change_by wide held operation action ≡ change_by state held operation action
    by_same operation (act.Make node) = made_by operation (refs_of_node node)
    by_same operation (act.MakeRoot main) = made_by operation (main ∷ [])
    by_same operation (act.Publish i a f) = ap (λ r. publishes (r == a) operation.private i f) (main_wide more m state i)
    by_same operation (act.Decide i f p seen) =
        ap (λ v. decides (is_owned held i p) v (refs_of_node (node_at wide.heap f)) f p) (verdict_wide more state.limits.slots state.heap i f p seen)
        ∙ ap (λ n. decides (is_owned held i p) (verdict state.heap i f p seen) (refs_of_node n) f p) (node_wide more m state f)
    by_same operation (act.ReadPrev main) = checks_same operation.line
    by_same operation action = refl

    going_same : (found : Option Operation) → change_going wide held found ≡ change_going state held found
    going_same None = refl
    going_same (Some operation) = ap (change_by wide held operation) (acts_wide more state operation) ∙ by_same operation (action_of state operation)

    beginning_same : (call : Call) → change_beginning wide call ≡ change_beginning state call
    beginning_same (Close handle) = refl
    beginning_same call = refl

    pub change_same : (s : Step) → change_of wide held s ≡ change_of state held s
    change_same (step.Begin actor call number) = beginning_same call
    change_same (step.Go actor) = going_same (operation_of state actor)
    change_same step.Sweep = refl
    change_same (step.GiveUp actor) = refl

    pub held_wide : (s : Step) → next_held wide held s ≡ next_held state held s
    held_wide s =
        ap (λ b. if b then held_after (change_of wide held s) held else held) (taken_same s)
        ∙ ap (λ c. if is_taken_step (next state s) then held_after c held else held) (change_same s)
