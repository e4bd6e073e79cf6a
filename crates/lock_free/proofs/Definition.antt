-- What the proof on words asks of the definition: what a step that only reads leaves, and what stays while others take steps.
use Rattle.std.proofs.Common.{◌≡◌, ◌++◌, ℕ, Bool, true, [], ◌∷◌, Contains, Some, refl, sym, ap, ◌∙◌, subst, length, append-nil, arith}
use Rattle.std.proofs.lemmas.List.Elements.{Contains-get_or}
use Rattle.machine_model.specs.Beneath.slot_arena.specs.declared.refs.Ref.{Ref}
use Rattle.machine_model.specs.declared.actions.Action.{Action}
use Rattle.machine_model.specs.declared.actions.Action.TheVariants as act
use Rattle.machine_model.specs.declared.operations.Operation.{Operation}
use Rattle.machine_model.specs.Operations.{action_of}
use Rattle.machine_model.specs.Beneath.slot_arena.specs.Heaps.{node_at}
use Rattle.machine_model.specs.declared.lines.Line.{Line}
use Rattle.machine_model.specs.Acting.{acted, gone, operation_after, attempt_after, mark_after}
use Rattle.machine_model.specs.Calls.{handle_of}
use Rattle.machine_model.specs.Machine.{AreBounds, run}
use Rattle.machine_model.specs.Moves.{GoesOn}
use Rattle.machine_model.specs.Operations.{line_action}
use Rattle.machine_model.specs.States.{State, operation_of, with_operation}
use Rattle.proof_memory.specs.Laws.{IsInUse}
use Rattle.proof_memory.specs.Wants.{AMain, AllHold, meets, action_wants}
use Rattle.proof_memory.proofs.Claims.Uses.{safe_of, meets_of}
use Rattle.proof_memory.proofs.Safety.AtEachTime.{safe_along}
use Rattle.proof_memory.proofs.Safety.AtTimes.{action_finds}
use Rattle.proof_memory.proofs.Safety.States.{IsSafe}
use Rattle.proof_garbage.proofs.Known.{named_known}
use Rattle.proof_waiting.specs.Beneath.proof_slots.proofs.Padded.Lines.{acts_wide}
use Rattle.proof_waiting.proofs.Operations.{operations_wait}
use Rattle.lock_free.specs.declared.accounts.Account.{Account}
use Rattle.lock_free.specs.declared.sizes.Sizes.{Sizes}
use Rattle.lock_free.specs.Accounts.{bounds_for, state_of, HasWaited, running}
use Rattle.lock_free.specs.Live.{IsLive, refs_of_claims}
use Rattle.lock_free.specs.Making.{over_of}
use Rattle.lock_free.specs.Steps.{Reads, nothing}
use Rattle.lock_free.proofs.OneStep.Aheads.{ahead_of, over_makes, ahead_acts}
use Rattle.lock_free.proofs.OneStep.Doing.{CompletesNone}
use Rattle.lock_free.proofs.OneStep.Changing.{tries_stay}
use Rattle.lock_free.proofs.OneStep.Leading.{leads}
use Rattle.lock_free.specs.Trying.{as_before}
use Rattle.lock_free.proofs.OneStep.Longer.{run_longer, bounds_less}

-- the action changes no word
abbrev pub IsReading : Action → Type 0
IsReading act.ReadRoot = Unit {0}
IsReading (act.ReadMain i) = Unit {0}
IsReading (act.ReadPrev m) = Unit {0}
IsReading (act.Look r) = Unit {0}
IsReading action = ⊥

reading_acts : (state : State) (handle : ℕ) (action : Action) → IsReading action → acted state handle action ≡ state
reading_acts state handle act.ReadRoot h = refl
reading_acts state handle (act.ReadMain i) h = refl
reading_acts state handle (act.ReadPrev m) h = refl
reading_acts state handle (act.Look r) h = refl
reading_acts state handle action h = absurd h

reading_goes : (action : Action) → IsReading action → GoesOn action × CompletesNone action
reading_goes act.ReadRoot h = (tt, tt)
reading_goes (act.ReadMain i) h = (tt, tt)
reading_goes (act.ReadPrev m) h = (tt, tt)
reading_goes (act.Look r) h = (tt, tt)
reading_goes action h = absurd h

reading_tries : (attempt : ℕ) (mark : Bool) (action : Action) → IsReading action → (attempt_after attempt action ≡ attempt) × (mark_after mark action ≡ mark)
reading_tries attempt mark (act.Offer offer) h = absurd h
reading_tries attempt mark action h = (refl, refl)

module _ (sizes : Sizes) (account : Account) (bounds : AreBounds (bounds_for sizes account.steps)) (actor : ℕ) (operation : Operation) (runs : running sizes account actor operation) where
  abbrev state : State
  state = state_of sizes account

  safe : IsSafe state
  safe = safe_along (bounds_for sizes account.steps) bounds account.steps

  module _ (h : IsReading (action_of state operation)) where
    g : GoesOn (action_of state operation)
    g = (reading_goes (action_of state operation) h).0

    same : gone state actor operation ≡ with_operation state actor (Some (operation_after state operation))
    same = reading_acts (with_operation state actor (Some (operation_after state operation))) (handle_of operation.call) (action_of state operation) h

    makes_none : (l : Line) (i a : Ref) → IsReading (line_action state operation l) → over_of l ≡ Some (i, a) → ⊥
    makes_none l i a reads over = let (node, e) = over_makes state operation l (i, a) over in subst IsReading e reads

    publishes_none : (l : Line) (i a f : Ref) → IsReading (line_action state operation l) → ahead_of l ≡ Some (i, a, f) → ⊥
    publishes_none l i a f reads ahead = subst IsReading (ahead_acts state operation l (i, a, f) ahead) reads

    reads_then : Reads sizes account actor operation
    reads_then =
        let tries = reading_tries operation.attempt operation.is_marked (action_of state operation) h in
        leads sizes account bounds actor operation runs g (reading_goes (action_of state operation) h).1 same nothing (λ r k. refl) (λ r h. refl) (λ x h g. refl)
        (λ i a over. makes_none operation.line i a h over)
        (λ i a f ahead kept. publishes_none operation.line i a f h ahead)
        (as_before (tries_stay sizes account bounds actor operation runs g (reading_goes (action_of state operation) h).1 tries.0 tries.1))

  pub reads_of : IsReading (action_of (state_of sizes account) operation) → Reads sizes account actor operation
  reads_of h = reads_then h

  module _ (m : Ref) (h : action_of (state_of sizes account) operation ≡ act.ReadPrev m) where
    found : IsInUse state.heap m × (meets AMain (node_at state.heap m) ≡ true)
    found =
        let claims = subst (λ action. AllHold (IsInUse state.heap) state.heap (action_wants action)) h (action_finds state safe actor operation runs) in
        (safe_of claims.0, meets_of claims.0)

    named : IsLive state m
    named = named_known state safe (λ id. Unit {0}) actor operation runs tt m (subst (λ action. Contains (refs_of_claims (action_wants action)) m) (sym h) (Contains-get_or (m ∷ []) 0 m (omega arith)))

-- while others take steps the operation stays, but for its mark, and so does what it is to do
pub waits : (sizes : Sizes) (actor : ℕ) (before after : Account) → HasWaited actor before after → AreBounds (bounds_for sizes after.steps) → (operation : Operation) →
    running sizes before actor operation →
    (mark : Bool) × running sizes after actor (record operation { is_marked = mark })
    × (action_of (state_of sizes after) (record operation { is_marked = mark }) ≡ action_of (state_of sizes before) operation)
waits sizes actor before after w bounds operation runs =
    let steps = before.steps in
    let ok = subst (λ l. AreBounds (bounds_for sizes l)) w.goes_on bounds in
    let longer = run_longer sizes steps (bounds_less sizes steps w.steps ok) steps [] w.steps (sym (append-nil steps)) in
    let same = ap (λ s. operation_of s actor) longer ∙ runs in
    let stayed = operations_wait (bounds_for sizes (steps ++ w.steps)) steps w.steps actor operation ok w.others same in
    let acts = stayed.acts ∙ ap (λ s. action_of s operation) longer ∙ acts_wide (length w.steps) (state_of sizes before) operation in
    subst (λ l. (mark : Bool) × (operation_of (run (bounds_for sizes l) l) actor ≡ Some (record operation { is_marked = mark }))
    × (action_of (run (bounds_for sizes l) l) (record operation { is_marked = mark }) ≡ action_of (state_of sizes before) operation))
    (sym w.goes_on) (stayed.mark, stayed.runs, acts)

-- bounds that suffice later suffice before
pub bounds_before : (sizes : Sizes) (before after : Account) {actor : ℕ} → HasWaited actor before after → AreBounds (bounds_for sizes after.steps) → AreBounds (bounds_for sizes before.steps)
bounds_before sizes before after w h = bounds_less sizes before.steps w.steps (subst (λ l. AreBounds (bounds_for sizes l)) w.goes_on h)
