-- Nodes in use are the newest of their slots.
use Rattle.std.proofs.Common.{◌≡◌, ℕ, ◌+◌, ◌≤◌, inl, inr, List, [], ◌++◌, All, Option, Some, None, refl, sym, subst, arith}
use Rattle.std.specs.Prelude.{option_to_list}
use Rattle.std.proofs.lemmas.Option.{none-some}
use Rattle.std.proofs.lemmas.List.Elements.{All-cons, All-nil, All-push, All-weaker}
use Rattle.proof_runs.specs.Vocabulary.{Ref, slot_of, birth_of, Heap, Line, Operation, SwapLine, Commit, Entrant, Publication, Bounds, Outcome, Step, State, first_state, operation_of, action_at}
use Rattle.proof_runs.specs.Vocabulary.{action_of, line_action, AreBounds, run, Moves, Begins, Ends, Sweeps, GivesUp, Record, commits_after, noted, record_of, changer_for, committed_now}
use Rattle.proof_runs.specs.Vocabulary.{published_at, published_by, told_in, Action, IsInUse, AllHold, action_wants}
use Rattle.proof_runs.specs.Beneath.slot_arena.proofs.Births.{rise_with_births}
use Rattle.proof_runs.specs.Beneath.slot_arena.proofs.Live.{one_live}
use Rattle.proof_runs.specs.Beneath.slot_arena.proofs.Reading.{live_seen}
use Rattle.proof_runs.specs.Beneath.machine_model.specs.declared.lines.Line.TheVariants as line
use Rattle.proof_runs.specs.Beneath.machine_model.specs.declared.reading.SwapLine.TheVariants as swap
use Rattle.proof_runs.specs.Beneath.machine_model.specs.Moves.{Goes}
use Rattle.proof_runs.specs.Beneath.machine_model.proofs.Notes.{noted_ending, noted_going}
use Rattle.proof_runs.specs.Beneath.machine_model.proofs.Recorded.{along_with}
use Rattle.proof_memory.proofs.Claims.Uses.{safe_of}
use Rattle.proof_runs.specs.Beneath.proof_memory.proofs.Claims.Named.{third_claim}
use Rattle.proof_memory.proofs.Holding.Lives.{in_use_lives}
use Rattle.proof_memory.proofs.Safety.States.{IsSafe, births_grow, stood_or_made}
use Rattle.proof_memory.proofs.Safety.Steps.{step_effect}
use Rattle.proof_memory.proofs.Safety.AtEachTime.{safe_along}
use Rattle.proof_memory.proofs.Safety.AtTimes.{action_finds}
use Rattle.proof_runs.specs.Beneath.proof_order.proofs.Phases.Commits.{line_decides}
use Rattle.proof_runs.specs.Laws.{CommittedAreNewest, PublishedAreNewest}
use Rattle.proof_runs.specs.Beneath.proof_order.proofs.Phases.Commits.{Decides}

-- the node is no newer than the one in use that stands in its slot
abbrev IsBehind : Ref → Ref → Type 0
IsBehind main told = slot_of told ≡ slot_of main → told ≤ main

-- what was told of main nodes, whichever of them, is behind those in use
record AreBehind {T : Type 0} (main_of : T → Ref) (state : State) (told : List T) : Type 0 where
  drawn : All (λ t. birth_of (main_of t) ≤ state.heap.births) told
  newest : (main : Ref) → IsInUse state.heap main → All (λ t. IsBehind main (main_of t)) told

abbrev committed_main : Commit → Ref
committed_main commit = commit.main

abbrev published_main : Publication → Ref
published_main p = p.main

record AreNewest (state : State) (past : Record) : Type 0 where
  commits : AreBehind committed_main state past.commits
  published : AreBehind published_main state past.published

-- what was drawn before is behind what is drawn now
older : (a b births : ℕ) → slot_of a ≡ slot_of b → birth_of a ≤ births → birth_of b ≡ births + 1 → a ≤ b
older a b births same low high = rise_with_births a b same (omega (arith, low, high))

-- nodes in use in one slot are one
pub same_slot : (heap : Heap) (a b : Ref) → IsInUse heap a → IsInUse heap b → slot_of a ≡ slot_of b → a ≡ b
same_slot heap a b at_a at_b same =
    one_live heap.slots a b (live_seen heap a (in_use_lives heap a at_a)) (live_seen heap b (in_use_lives heap b at_b)) same

none_behind : {T : Type 0} (main_of : T → Ref) (state : State) → AreBehind main_of state []
none_behind main_of state = record {
  drawn = All-nil (λ t. birth_of (main_of t) ≤ state.heap.births);
  newest = λ main at. All-nil (λ t. IsBehind main (main_of t));
}

module _ (state : State) (I : IsSafe state) (s : Step) (o : Outcome) (after : State) (m : Moves state s o after) where
  grows : state.heap.births ≤ after.heap.births
  grows = births_grow _ _ _ _ _ _ ((step_effect state I s o after m).3)

  -- what was told before
  still : {T : Type 0} (main_of : T → Ref) (told : List T) → AreBehind main_of state told → AreBehind main_of after told
  still main_of told h = record {
    drawn = All-weaker (λ t. birth_of (main_of t) ≤ state.heap.births) (λ t. birth_of (main_of t) ≤ after.heap.births) (λ t le. omega (arith, le, grows)) told h.drawn;
    newest = λ main used. elim (stood_or_made _ _ _ _ _ _ ((step_effect state I s o after m).3) main used.0 used.1) [
      | inl stood ↦ h.newest main stood
      | inr made ↦ All-weaker (λ t. birth_of (main_of t) ≤ state.heap.births) (λ t. IsBehind main (main_of t)) (λ t le same. older (main_of t) main state.heap.births same le made.0) told h.drawn
    ];
  }

  -- and what is told now of a node in use
  drawn_now : (fresh : Ref) → IsInUse state.heap fresh → birth_of fresh ≤ after.heap.births
  drawn_now fresh at = omega (arith, I.births fresh at.0 at.1, grows)

  behind_now : (fresh main : Ref) → IsInUse state.heap fresh → IsInUse after.heap main → IsBehind main fresh
  behind_now fresh main at used same = elim (stood_or_made _ _ _ _ _ _ ((step_effect state I s o after m).3) main used.0 used.1) [
    | inl stood ↦ omega (arith, same_slot state.heap fresh main at stood same)
    | inr made ↦ older fresh main state.heap.births same (I.births fresh at.0 at.1) made.0
  ]

  commits_now : (past : Record) (committed : Option Ref) → ((fresh : Ref) → committed ≡ Some fresh → IsInUse state.heap fresh) → AreBehind committed_main state past.commits →
      AreBehind committed_main after (commits_after past state.steps committed)
  commits_now past None used h = still committed_main past.commits h
  commits_now past (Some fresh) used h =
      let at = used fresh refl in
      let now : Commit = record { main = fresh; step = state.steps } in
      let before = still committed_main past.commits h in
      record {
        drawn = All-push (λ (c : Commit). birth_of c.main ≤ after.heap.births) past.commits now before.drawn (drawn_now fresh at);
        newest = λ main there. All-push (λ (c : Commit). IsBehind main c.main) past.commits now (before.newest main there) (behind_now fresh main at there);
      }

  published_now : (past : Record) (published : Option Publication) → ((p : Publication) → published ≡ Some p → IsInUse state.heap p.main) → AreBehind published_main state past.published →
      AreBehind published_main after (option_to_list published ++ past.published)
  published_now past None used h = still published_main past.published h
  published_now past (Some p) used h =
      let at = used p refl in
      let before = still published_main past.published h in
      record {
        drawn = All-cons (λ (q : Publication). birth_of q.main ≤ after.heap.births) p past.published (drawn_now p.main at) before.drawn;
        newest = λ main there. All-cons (λ (q : Publication). IsBehind main q.main) p past.published (behind_now p.main main at there) (before.newest main there);
      }

-- what a step decides is in use
decided_used : (state : State) (action : Action) (main : Ref) → Decides state.heap action main → AllHold (IsInUse state.heap) state.heap (action_wants action) → IsInUse state.heap main
decided_used state action main d wants = safe_of (subst (λ a. AllHold (IsInUse state.heap) state.heap (action_wants a)) d.is_it wants).1.0

-- a step commits what is in use
pub commits_used : (state : State) → IsSafe state → (actor : ℕ) (operation : Operation) (fresh : Ref) → operation_of state actor ≡ Some operation →
    committed_now state operation ≡ Some fresh → IsInUse state.heap fresh
commits_used state I actor operation fresh runs commits =
    decided_used state (action_of state operation) fresh (line_decides state operation fresh operation.line commits) (action_finds state I actor operation runs)

-- so it publishes
publishes_at : (state : State) (changer : Option Entrant) (indirection replaced fresh : Ref) (l : SwapLine) (p : Publication) → published_at changer fresh l ≡ Some p →
    AllHold (IsInUse state.heap) state.heap (action_wants (action_at indirection replaced fresh l)) → IsInUse state.heap p.main
publishes_at state changer indirection replaced fresh swap.Publish p is wants =
    let main : fresh ≡ p.main = cc in
    subst (IsInUse state.heap) main (safe_of (third_claim wants))
publishes_at state changer indirection replaced fresh (swap.Deciding l) p is wants = absurd (none-some p is)
publishes_at state changer indirection replaced fresh swap.Check p is wants = absurd (none-some p is)

pub publishes_used : (state : State) (operation : Operation) (l : Line) (p : Publication) → published_by operation l ≡ Some p →
    AllHold (IsInUse state.heap) state.heap (action_wants (line_action state operation l)) → IsInUse state.heap p.main
publishes_used state operation (line.Swap why s) p is wants = publishes_at state (changer_for operation why) s.indirection s.replaced s.fresh s.line p is wants
publishes_used state operation l p is wants = absurd (none-some p is)

newest_after : (state : State) → IsSafe state → (past : Record) (s : Step) (o : Outcome) (after : State) → Moves state s o after → AreNewest state past →
    AreNewest after (noted past state.steps (told_in state s))
newest_after state I past s o after (Goes {actor} {operation} {action} d is a g) h =
    subst (AreNewest _) (sym (noted_going state past actor operation action is a g)) (record {
      commits = commits_now state I _ _ _ (Goes d is a g) past (committed_now state operation) (λ fresh e. commits_used state I actor operation fresh is e) h.commits;
      published = published_now state I _ _ _ (Goes d is a g) past (published_by operation operation.line)
          (λ p e. publishes_used state operation operation.line p e (action_finds state I actor operation is)) h.published;
    })
newest_after state I past s o after (Begins {number = number} d) h = record {
  commits = still state I _ _ _ (Begins {number = number} d) committed_main past.commits h.commits;
  published = still state I _ _ _ (Begins {number = number} d) published_main past.published h.published;
}
newest_after state I past s o after (Ends {actor} {operation} {answer} d is a) h =
    subst (AreNewest _) (sym (noted_ending state past actor operation answer is a)) (record {
      commits = still state I _ _ _ (Ends d is a) committed_main past.commits h.commits;
      published = still state I _ _ _ (Ends d is a) published_main past.published h.published;
    })
newest_after state I past s o after (GivesUp d is a) h = record {
  commits = still state I _ _ _ (GivesUp d is a) committed_main past.commits h.commits;
  published = still state I _ _ _ (GivesUp d is a) published_main past.published h.published;
}
newest_after state I past s o after (Sweeps spent) h = record {
  commits = still state I _ _ _ (Sweeps spent) committed_main past.commits h.commits;
  published = still state I _ _ _ (Sweeps spent) published_main past.published h.published;
}

newest : (limits : Bounds) → AreBounds limits → (steps : List Step) → AreNewest (run limits steps) (record_of limits steps)
newest limits ok =
    along_with limits AreNewest (record { commits = none_behind committed_main (first_state limits); published = none_behind published_main (first_state limits) })
    (λ steps s o after m h. newest_after (run limits steps) (safe_along limits ok steps) (record_of limits steps) s o after m h)

pub committed_are_newest : CommittedAreNewest
committed_are_newest limits steps ok main used = (newest limits ok steps).commits.newest main used

pub published_are_newest : PublishedAreNewest
published_are_newest limits steps ok main used = (newest limits ok steps).published.newest main used
