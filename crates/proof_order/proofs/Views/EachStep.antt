-- Each step by what it changes in the order, in the closed generations and in the handles.
use Rattle.std.proofs.Common.{◌≡◌, ℕ, Bool, true, false, [], ◌∷◌, ◌++◌, Option, Some, None, refl, sym, ap, ◌∙◌, append-nil, arith}
use Rattle.std.proofs.lemmas.List.{get_or-set_same}
use Rattle.proof_order.specs.Vocabulary.{Call, Close, Reply, Ref, generation_at, on_time, Operation, Action, Root, Offer, Descriptor, Outcome, Step, handle_of, State, root_at, word_at}
use Rattle.proof_order.specs.Vocabulary.{with_operation, operation_of, action_of, stands_in, is_carried_out, acted, carried_out, gone, operation_after, settled, begin_denial, with_begin, Begins}
use Rattle.proof_order.specs.Vocabulary.{Ends, Sweeps, GivesUp, Moves, begun_operation, committed_now, entrant_of, told_in, progress_of, carried_by, entered, entered_at_end, Record, noted}
use Rattle.proof_order.specs.Vocabulary.{noted_progress, moment_at, placed_by, closed_by, settles}
use Rattle.proof_order.specs.Beneath.machine_model.specs.declared.actions.Action.TheVariants as act
use Rattle.proof_order.specs.Beneath.machine_model.specs.declared.steps.Step.TheVariants as step
use Rattle.proof_order.specs.Beneath.machine_model.specs.Moves.{Goes}
use Rattle.proof_order.specs.Beneath.machine_model.proofs.Found.{found_within, found_elsewhere}
use Rattle.proof_order.specs.Facts.{committed_of, committed_by_step, entered_by_step, CarriesOut}
use Rattle.proof_order.proofs.Views.Changes.{footing_of, footing, carries, acted_footing, completed_is, roots_swapped}
use Rattle.proof_order.proofs.Views.Changes.{carried_roots, same_swapped, complete_commits, end_commits, carries_none, carries_some}
use Rattle.proof_order.specs.Beneath.machine_model.proofs.Notes.{noted_going, noted_ending}

-- offers are honest in each step from this state
abbrev pub HonestIn : State → Type 0
HonestIn state =
    (actor : ℕ) (operation : Operation) (offer : Descriptor) → operation_of state actor ≡ Some operation → settles (action_of state operation) ≡ Some offer →
    stands_in (word_at state (handle_of operation.call)) offer ≡ true → word_at state (handle_of operation.call) ≡ Offer offer

pub data Changes (state : State) (past : Record) (s : Step) (after : State) (now : Record) : Type 0 where
  -- it enters those alone whose own change it commits
  quiet : now.places ≡ past.places ++ entered_by_step past state s → now.closings ≡ past.closings → ((h : ℕ) → footing after h ≡ footing state h) → Changes state past s after now
  -- an operation ends
  ends : (actor : ℕ) (operation : Operation) (answer : Reply) → s ≡ step.Go actor → operation_of state actor ≡ Some operation → action_of state operation ≡ act.End answer →
      entered_by_step past state s ≡ [] → now.places ≡ past.places ++ entered_at_end past (entrant_of operation) (moment_at past actor).moment answer → now.closings ≡ past.closings →
      ((h : ℕ) → footing after h ≡ footing state h) → Changes state past s after now
  -- a close begins
  closes : (actor handle : ℕ) (number : Option ℕ) (root : Root) → s ≡ step.Begin actor (Close handle) number → root_at state handle ≡ Some root →
      entered_by_step past state s ≡ [] → now.places ≡ past.places ++ on_time state.steps false state.begun ∷ [] → now.closings ≡ past.closings →
      footing after handle ≡ None → ((h : ℕ) → (h ≡ handle → ⊥) → footing after h ≡ footing state h) → Changes state past s after now
  -- an offer is carried out
  swaps : (handle : ℕ) (offer : Descriptor) → CarriesOut state s handle offer →
      entered_by_step past state s ≡ [] → now.places ≡ past.places ++ on_time state.steps false offer.operation ∷ [] →
      now.closings ≡ past.closings ++ record { generation = generation_at state.heap offer.root; step = state.steps } ∷ [] →
      after.roots ≡ roots_swapped state handle offer offer.opens → after.heap ≡ state.heap → Changes state past s after now

-- ---- a begin

open_by : (state : State) (actor handle : ℕ) (number : Option ℕ) → begin_denial state actor (Close handle) number ≡ None → (o : Option Root) → root_at state handle ≡ o →
    (root : Root) × (root_at state handle ≡ Some root)
open_by state actor handle number d (Some root) e = (root, e)
open_by state actor handle number d None e = absurd (denied e)
  where
    denied : root_at state handle ≡ None → ⊥
    denied e = grind arith

begin_changes : (state : State) (past : Record) (actor : ℕ) (call : Call) (number : Option ℕ) → begin_denial state actor call number ≡ None →
    Changes state past (step.Begin actor call number) (settled state (with_begin state actor call (begun_operation state call number)))
    (noted past state.steps (told_in state (step.Begin actor call number)))
begin_changes state past actor (Close handle) number d =
    let (root, is) = open_by state actor handle number d (root_at state handle) refl in
    closes actor handle number root refl is refl refl refl
    (ap footing_of (get_or-set_same state.roots handle None None (found_within state.roots handle root is)))
    (λ h apart. ap footing_of (found_elsewhere state.roots handle h None apart))
begin_changes state past actor call number d = quiet refl refl (λ h. refl)

-- ---- a step of an operation

committed_is : (state : State) (actor : ℕ) (operation : Operation) → operation_of state actor ≡ Some operation → committed_by_step state (step.Go actor) ≡ committed_now state operation
committed_is state actor operation is = ap (committed_of state) is

entered_is : (state : State) (past : Record) (actor : ℕ) (operation : Operation) (committed : Option Ref) → operation_of state actor ≡ Some operation →
    committed_now state operation ≡ committed → entered_by_step past state (step.Go actor) ≡ entered past state.steps committed
entered_is state past actor operation committed is e = ap (entered past state.steps) (committed_is state actor operation is ∙ e)

-- the state in which its action takes place
acting : State → ℕ → Operation → State
acting state actor operation = with_operation state actor (Some (operation_after state operation))

quiet_changes : (state : State) (past now : Record) (actor : ℕ) (operation : Operation) → operation_of state actor ≡ Some operation → HonestIn state →
    now ≡ noted_progress past state.steps actor (progress_of state operation) → carries state (handle_of operation.call) (action_of state operation) ≡ false →
    Changes state past (step.Go actor) (settled state (gone state actor operation)) now
unfolding acting
quiet_changes state past now actor operation is honest notes e =
    let none = carries_none state (handle_of operation.call) (action_of state operation) e in
    quiet
    (ap (λ (r : Record). r.places) notes ∙ ap (λ c. (past.places ++ entered past state.steps (committed_now state operation)) ++ placed_by state.steps c) none
    ∙ append-nil (past.places ++ entered past state.steps (committed_now state operation))
    ∙ ap (λ l. past.places ++ l) (sym (entered_is state past actor operation (committed_now state operation) is refl)))
    (ap (λ (r : Record). r.closings) notes ∙ ap (λ c. past.closings ++ closed_by state.steps c) none ∙ append-nil past.closings)
    (acted_footing (acting state actor operation) (handle_of operation.call) (action_of state operation) e (λ offer settles stands. honest actor operation offer is settles stands))

carried_changes : (state : State) (past now : Record) (actor : ℕ) (operation : Operation) (offer : Descriptor) (main : Ref) → operation_of state actor ≡ Some operation →
    now ≡ noted_progress past state.steps actor (progress_of state operation) → action_of state operation ≡ act.Complete offer main →
    is_carried_out (word_at state (handle_of operation.call)) offer main ≡ true → Changes state past (step.Go actor) (settled state (gone state actor operation)) now
unfolding acting
carried_changes state past now actor operation offer main is notes does carried =
    let base = acting state actor operation in
    let nothing = complete_commits state operation operation.line offer main does in
    let handle = handle_of operation.call in
    let same : gone state actor operation ≡ carried_out base handle offer = ap (acted base handle) does ∙ completed_is base handle offer main carried in
    let (roots, heap) = carried_roots base handle offer offer.opens in
    let told : carried_by state handle (action_of state operation) ≡ Some (record { generation = generation_at state.heap offer.root; operation = offer.operation }) =
    ap (carried_by state handle) does ∙ carries_some state handle offer main carried in
    swaps handle offer (actor, operation, main, refl, is, does, refl, carried)
    (entered_is state past actor operation None is nothing)
    (ap (λ (r : Record). r.places) notes ∙ ap (λ c. (past.places ++ entered past state.steps c) ++ placed_by state.steps (carried_by state handle (action_of state operation))) nothing
    ∙ ap (λ l. l ++ placed_by state.steps (carried_by state handle (action_of state operation))) (append-nil past.places) ∙ ap (λ c. past.places ++ placed_by state.steps c) told)
    (ap (λ (r : Record). r.closings) notes ∙ ap (λ c. past.closings ++ closed_by state.steps c) told)
    (ap (λ (q : State). q.roots) same ∙ roots ∙ same_swapped base state handle offer offer.opens refl)
    (ap (λ (q : State). q.heap) same ∙ heap)

go_by : (state : State) (past now : Record) (actor : ℕ) (operation : Operation) (action : Action) (carried : Bool) → operation_of state actor ≡ Some operation → HonestIn state →
    now ≡ noted_progress past state.steps actor (progress_of state operation) → action_of state operation ≡ action →
    carries state (handle_of operation.call) action ≡ carried → Changes state past (step.Go actor) (settled state (gone state actor operation)) now
go_by state past now actor operation (act.Complete offer main) true is honest notes does e = carried_changes state past now actor operation offer main is notes does e
go_by state past now actor operation action true is honest notes does e = absurd (let wrong : false ≡ true = e in cc wrong)
go_by state past now actor operation action false is honest notes does e =
    quiet_changes state past now actor operation is honest notes (ap (carries state (handle_of operation.call)) does ∙ e)

-- ---- each step

pub changes : (state : State) (past : Record) (s : Step) (o : Outcome) (after : State) → Moves state s o after → HonestIn state →
    Changes state past s after (noted past state.steps (told_in state s))
changes state past s o after (Begins {actor} {call} {number} d) honest = begin_changes state past actor call number d
changes state past s o after (Goes {actor} {operation} {action} d is a g) honest =
    go_by state past (noted past state.steps (told_in state s)) actor operation action (carries state (handle_of operation.call) action) is honest
    (noted_going state past actor operation action is a g) a refl
changes state past s o after (Ends {actor} {operation} {answer} d is a) honest =
    let notes = noted_ending state past actor operation answer is a in
    ends actor operation answer refl is a (entered_is state past actor operation None is (end_commits state operation operation.line answer a))
    (ap (λ (r : Record). r.places) notes) (ap (λ (r : Record). r.closings) notes) (λ h. refl)
changes state past s o after (GivesUp d is a) honest = quiet (sym (append-nil past.places)) refl (λ h. refl)
changes state past s o after (Sweeps spent) honest = quiet (sym (append-nil past.places)) refl (λ h. refl)
