-- The states of a run are those after lists of steps: so what holds after each list of steps holds at each time.
use Rattle.proof_shape.specs.Vocabulary.{GivesUp, Ref, node_at, list_depth, Action, Operation, Bounds, Outcome, kind_of, settled, gone, Node, Indirection, Branch, Single, Tomb, List as Listed, Step}
use Rattle.proof_shape.specs.Vocabulary.{State, first_state, operation_of, begin_unless, go_unless, go_on, step_by, settled_after, swept, run_from, run, next, next_state, state_after, depth_of}
use Rattle.proof_shape.specs.Vocabulary.{Begins, Ends, Sweeps, Moves, GoesOn, turns, IsRun, Turn, give_up_unless, give_up_on, give_up_by, IsInUse, meets, ABranch, PlaceLevel}
use Rattle.std.proofs.lemmas.Bool.{true≢false}
use Rattle.std.proofs.Common.{◌≡◌, ℕ, suc, ◌<◌, ◌≤◌, true, cond, List, [], ◌∷◌, ◌++◌, Some, Ok, Err, refl, sym, ◌∙◌, ap, subst, arith}
use Rattle.proof_shape.specs.Beneath.machine_model.specs.declared.actions.Action.TheVariants as act
use Rattle.proof_shape.specs.Beneath.machine_model.specs.declared.lines.Line.TheVariants as line
use Rattle.proof_shape.specs.Beneath.machine_model.specs.declared.steps.Outcome.TheVariants as outcome
use Rattle.proof_shape.specs.Beneath.ctrie_base.specs.declared.refusals.Refusal.TheVariants as refuse
use Rattle.proof_shape.specs.Beneath.proof_memory.proofs.Levels.States.{HasLevels}
use Rattle.proof_shape.specs.Beneath.proof_memory.proofs.Levels.Runs.{levels_of}
use Rattle.proof_shape.specs.Beneath.proof_memory.proofs.Levels.Shapes.{ShapeAt}
use Rattle.proof_shape.specs.Beneath.proof_memory.proofs.Levels.ShapeStates.{HasShapes, has_shapes, never_there}
use Rattle.proof_shape.specs.Beneath.machine_model.proofs.Along.{run_push}
use Rattle.proof_shape.specs.Beneath.machine_model.specs.Moves.{Goes}
use Rattle.proof_shape.specs.Beneath.machine_model.proofs.Times.{along_run}
use Rattle.proof_shape.specs.Beneath.machine_model.proofs.Grown.{node_standing}

-- ---- a move is what the step comes to

goes_by : (state : State) (actor : ℕ) (operation : Operation) (action : Action) → GoesOn action →
    step_by state actor operation action ≡ Ok (outcome.Went (kind_of action), settled state (gone state actor operation))
goes_by state actor operation (act.End answer) g = absurd g
goes_by state actor operation action g = refl

pub comes_to : (state : State) (s : Step) (o : Outcome) (after : State) → Moves state s o after → next state s ≡ Ok (o, after)
unfolding next
comes_to state s o after (Begins {actor} {call} {number} d) = ap (begin_unless state actor call number) d
comes_to state s o after (Goes {actor} {operation} {action} d is a g) =
    ap (go_unless state actor) d ∙ ap (go_on state actor) is ∙ ap (step_by state actor operation) a ∙ goes_by state actor operation action g
comes_to state s o after (Ends {actor} {operation} {answer} d is a) = ap (go_unless state actor) d ∙ ap (go_on state actor) is ∙ ap (step_by state actor operation) a
comes_to state s o after (GivesUp {actor} {operation} {answer} d is a) = ap (give_up_unless state actor) d ∙ ap (give_up_on state actor) is ∙ ap (give_up_by state actor operation) a
comes_to state s o after (Sweeps spent) = ap (λ b. cond b (Err refuse.Spent) (settled_after state (swept state))) spent

-- ---- each state of a run is that after a list of steps

abbrev pub IsAfter : Bounds → State → Type 0
IsAfter limits state = (steps : List Step) × (state ≡ run limits steps)

after_turn : (limits : Bounds) (before after : State) → IsAfter limits before → Turn before after → IsAfter limits after
after_turn limits before after (steps, is) (turns s o m) = (
  steps ++ s ∷ [],
  sym (ap (state_after before) (comes_to before s o after m)) ∙ ap (λ x. next_state x s) is ∙ sym (run_push (first_state limits) steps s),
)

pub run_of : {limits : Bounds} {states : ℕ → State} {last : ℕ} → IsRun limits states last → (t : ℕ) → t ≤ last → IsAfter limits (states t)
unfolding run_from
run_of {limits} {states} {last} r =
    along_run r (λ t. IsAfter limits (states t)) ([], r.first) (λ t h turn before. after_turn limits (states t) (states (suc t)) before turn)

-- ---- levels

-- the levels and shapes that a state has
pub record HasSites (state : State) : Type 0 where
  pub level : Ref → ℕ
  pub levels : HasLevels level state
  pub shapes : HasShapes level state

pub sites_at : {limits : Bounds} {states : ℕ → State} {last : ℕ} → IsRun limits states last → (t : ℕ) → t ≤ last → HasSites (states t)
sites_at {limits} {states} {last} r t h =
    let (steps, is) = run_of r t h in
    let both = has_shapes limits r.limits_ok steps in
    subst HasSites (sym is) (record { level = levels_of limits steps; levels = both.0; shapes = both.1 })

-- what an operation builds over a branch stands above the lists
pub branch_shallow : (state : State) (sites : HasSites state) (path : List Ref) (main : Ref) → PlaceLevel sites.level path main → IsInUse state.heap main →
    meets ABranch (node_at state.heap main) ≡ true → depth_of path < list_depth state.limits.hash
branch_shallow state sites path main place used is =
    by_node used.0.node (ap (meets ABranch) (sym (node_standing state.heap main used.0 used.1)) ∙ is) (sites.shapes.nodes main used.0 used.1)
  where
    by_node : (n : Node) → meets ABranch n ≡ true → ShapeAt (list_depth state.limits.hash) (sites.level main) n → depth_of path < list_depth state.limits.hash
    by_node (Branch bitmap entries) e shape = omega (arith, shape, place.1)
    by_node (Indirection g w) e shape = absurd (true≢false (sym e))
    by_node (Single k v) e shape = absurd (true≢false (sym e))
    by_node (Tomb s) e shape = absurd (true≢false (sym e))
    by_node (Listed ss) e shape = absurd (true≢false (sym e))

-- no operation comes to the impossible line
pub never_impossible : {limits : Bounds} {states : ℕ → State} {last : ℕ} → IsRun limits states last → (t : ℕ) → t ≤ last → (actor : ℕ) (operation : Operation) →
    operation_of (states t) actor ≡ Some operation → operation.line ≡ line.Impossible → ⊥
never_impossible {limits} {states} {last} r t h actor operation is =
    let (steps, same) = run_of r t h in
    never_there limits r.limits_ok steps actor operation (ap (λ (s : State). operation_of s actor) (sym same) ∙ is)
