-- How many steps a machine may take changes nothing of those that it takes.
use Rattle.std.proofs.Common.{◌≡◌, ℕ, zero, suc, ◌+◌, ◌<◌, ◌≤◌, ◌==◌, ◌&&◌, Bool, true, false, List, [], ◌∷◌}
use Rattle.std.proofs.Common.{length, map, Option, Some, None, Ok, Err, refl, sym, ap, ◌∙◌, arith, nat_le, is_some, not, if◌then◌else◌}
use Rattle.std.proofs.lemmas.Bool.{lt-leb}
use Rattle.machine_model.specs.Beneath.ctrie_base.specs.declared.refusals.Refusal.{Refusal}
use Rattle.machine_model.specs.Beneath.ctrie_base.specs.declared.refusals.Refusal.TheVariants as refuse
use Rattle.machine_model.specs.Beneath.history.specs.declared.calls.Call.{Call}
use Rattle.machine_model.specs.Beneath.history.specs.declared.replies.Reply.{Reply}
use Rattle.machine_model.specs.Beneath.slot_arena.specs.declared.refs.Ref.{Ref}
use Rattle.machine_model.specs.Beneath.slot_arena.specs.Heaps.{next_ref}
use Rattle.machine_model.specs.declared.actions.Action.{Action}
use Rattle.machine_model.specs.declared.actions.Action.TheVariants as act
use Rattle.machine_model.specs.declared.operations.Operation.{Operation}
use Rattle.machine_model.specs.declared.roots.Descriptor.{Descriptor}
use Rattle.machine_model.specs.declared.roots.RootWord.TheVariants.{Plain, Offer}
use Rattle.machine_model.specs.declared.steps.Bounds.{Bounds}
use Rattle.machine_model.specs.declared.steps.Outcome.TheVariants as outcome
use Rattle.machine_model.specs.Beneath.history.specs.declared.calls.Access.TheVariants.{Writable, ReadOnly}
use Rattle.machine_model.specs.declared.steps.Step.{Step}
use Rattle.machine_model.specs.declared.steps.Step.TheVariants as step
use Rattle.machine_model.specs.States.{State, first_state, handle_limit, root_at, operation_of, word_at, with_word, with_root, with_operation}
use Rattle.machine_model.specs.Swapping.{stands_in, is_plain}
use Rattle.machine_model.specs.Operations.{action_of, kind_of}
use Rattle.machine_model.specs.Acting.{acted, completed, carried_out, opened, marked, if_changed, new_root_taken, gone, operation_after}
use Rattle.machine_model.specs.Calls.{handle_of, opens_handle, is_close, needs_writable, needs_read_only}
use Rattle.machine_model.specs.Machine.{Answer, next, next_state, state_after, run_from, is_spent}
use Rattle.machine_model.specs.Machine.{is_taken, taken_below, least_from, lacks_number, settled_after, begin_denial, begin_unless, begun_operation, with_begin}
use Rattle.machine_model.specs.Machine.{access_of, first_reason, is_actor, is_running, is_access, runs_on, go_denial, go_unless, go_on, step_by, sweep, swept, give_up_unless, give_up_on, give_up_by}
use Rattle.machine_model.proofs.Along.{kept_by_moves}
use Rattle.machine_model.proofs.Frames.{limits_kept, steps_counted}
use Rattle.machine_model.specs.Machine.{is_taken_step}
use Rattle.machine_model.specs.Records.{Record, first_record, noted, next_record, record_from}
use Rattle.machine_model.specs.Tellings.{told_in, told_of, told_by, begin_told}
use Rattle.machine_model.specs.GivingUp.{given_up}
use Rattle.machine_model.specs.Lasting.{lasting, living, LifeChangesNothing}

abbrev lasting_answer : ℕ → Answer → Answer
lasting_answer m (Ok done) = Ok (done.0, lasting m done.1)
lasting_answer m (Err why) = Err why

module _ (m : ℕ) where
  if_lasting : (b : Bool) (x y : State) → if_changed b (lasting m x) (lasting m y) ≡ lasting m (if_changed b x y)
  if_lasting true x y = refl
  if_lasting false x y = refl

  marked_lasting : (state : State) (offer : Descriptor) (o : Option ℕ) →
      record (opened (lasting m state) offer o) { actors = map (marked offer.operation) (opened (lasting m state) offer o).actors }
      ≡ lasting m (record (opened state offer o) { actors = map (marked offer.operation) (opened state offer o).actors })
  marked_lasting state offer None = refl
  marked_lasting state offer (Some n) = refl

  carried_lasting : (state : State) (handle : ℕ) (offer : Descriptor) → carried_out (lasting m state) handle offer ≡ lasting m (carried_out state handle offer)
  carried_lasting state handle offer = marked_lasting (with_word state handle (Plain offer.successor)) offer offer.opens

  completed_by : (state : State) (handle : ℕ) (offer : Descriptor) (b c : Bool) →
      if_changed b (if c then carried_out (lasting m state) handle offer else with_word (lasting m state) handle (Plain offer.root)) (lasting m state)
      ≡ lasting m (if_changed b (if c then carried_out state handle offer else with_word state handle (Plain offer.root)) state)
  completed_by state handle offer true true = carried_lasting state handle offer
  completed_by state handle offer true false = refl
  completed_by state handle offer false c = refl

  completed_lasting : (state : State) (handle : ℕ) (offer : Descriptor) (main : Ref) → completed (lasting m state) handle offer main ≡ lasting m (completed state handle offer main)
  completed_lasting state handle offer main = completed_by state handle offer (stands_in (word_at state handle) offer) (main == offer.expected)

  root_lasting : (state : State) (main : Ref) (made : Option Ref) → new_root_taken (lasting m state) main made ≡ lasting m (new_root_taken state main made)
  root_lasting state main None = refl
  root_lasting state main (Some made) = refl

  acted_lasting : (state : State) (handle : ℕ) (action : Action) → acted (lasting m state) handle action ≡ lasting m (acted state handle action)
  acted_lasting state handle (act.Abort offer) = if_lasting (stands_in (word_at state handle) offer) (with_word state handle (Plain offer.root)) state
  acted_lasting state handle (act.Offer offer) = if_lasting (is_plain (word_at state handle) offer.root) (with_word state handle (Offer offer)) state
  acted_lasting state handle (act.Complete offer main) = completed_lasting state handle offer main
  acted_lasting state handle (act.MakeRoot main) = root_lasting state main (next_ref state.heap)
  acted_lasting state handle action = refl

  gone_lasting : (state : State) (actor : ℕ) (operation : Operation) → gone (lasting m state) actor operation ≡ lasting m (gone state actor operation)
  gone_lasting state actor operation = acted_lasting (with_operation state actor (Some (operation_after state operation))) (handle_of operation.call) (action_of state operation)

  -- ---- a step of an operation

  step_lasting : (state : State) (actor : ℕ) (operation : Operation) (action : Action) →
      step_by (lasting m state) actor operation action ≡ lasting_answer m (step_by state actor operation action)
  step_lasting state actor operation (act.End answer) = refl
  step_lasting state actor operation action = ap (λ s. settled_after (lasting m state) (outcome.Went (kind_of action), s)) (gone_lasting state actor operation)

  go_on_lasting : (state : State) (actor : ℕ) (found : Option Operation) → go_on (lasting m state) actor found ≡ lasting_answer m (go_on state actor found)
  go_on_lasting state actor None = refl
  go_on_lasting state actor (Some operation) = step_lasting state actor operation (action_of state operation)

  go_unless_lasting : (state : State) (actor : ℕ) (denial : Option Refusal) → go_unless (lasting m state) actor denial ≡ lasting_answer m (go_unless state actor denial)
  go_unless_lasting state actor None = go_on_lasting state actor (operation_of state actor)
  go_unless_lasting state actor (Some why) = refl

  -- ---- giving up

  give_up_by_lasting : (state : State) (actor : ℕ) (operation : Operation) (answer : Option Reply) →
      give_up_by (lasting m state) actor operation answer ≡ lasting_answer m (give_up_by state actor operation answer)
  give_up_by_lasting state actor operation None = refl
  give_up_by_lasting state actor operation (Some answer) = refl

  give_up_on_lasting : (state : State) (actor : ℕ) (found : Option Operation) → give_up_on (lasting m state) actor found ≡ lasting_answer m (give_up_on state actor found)
  give_up_on_lasting state actor None = refl
  give_up_on_lasting state actor (Some operation) = give_up_by_lasting state actor operation (given_up operation.call operation.line)

  give_up_lasting : (state : State) (actor : ℕ) (denial : Option Refusal) → give_up_unless (lasting m state) actor denial ≡ lasting_answer m (give_up_unless state actor denial)
  give_up_lasting state actor None = give_up_on_lasting state actor (operation_of state actor)
  give_up_lasting state actor (Some why) = refl

  -- ---- a begin

  taken_lasting : (state : State) (n : ℕ) → taken_below (lasting m state) n ≡ taken_below state n
  unfolding taken_below
  taken_lasting state zero = refl
  taken_lasting state (suc n) = ap (λ k. k + (if is_taken state n then 1 else 0)) (taken_lasting state n)

  least_lasting : (state : State) (left n : ℕ) → least_from (lasting m state) left n ≡ least_from state left n
  unfolding least_from
  least_lasting state zero n = refl
  least_lasting state (suc left) n = ap (λ k. if is_taken state n then k else n) (least_lasting state left (n + 1))

  closed_lasting : (state : State) (actor : ℕ) (call : Call) (operation : Operation) (b : Bool) →
      record (with_operation (if b then with_root (lasting m state) (handle_of call) None else lasting m state) actor (Some operation)) { begun = state.begun + 1 }
      ≡ lasting m (record (with_operation (if b then with_root state (handle_of call) None else state) actor (Some operation)) { begun = state.begun + 1 })
  closed_lasting state actor call operation true = refl
  closed_lasting state actor call operation false = refl

  begun_same : (state : State) (call : Call) (number : Option ℕ) → begun_operation (lasting m state) call number ≡ begun_operation state call number
  begun_same state call None = ap (λ n. record (begun_operation state call None) { opens = if opens_handle call then Some n else None }) (least_lasting state handle_limit 0)
  begun_same state call (Some number) = refl

  begun_lasting : (state : State) (actor : ℕ) (call : Call) (number : Option ℕ) (denial : Option Refusal) →
      begin_unless (lasting m state) actor call number denial ≡ lasting_answer m (begin_unless state actor call number denial)
  begun_lasting state actor call number (Some why) = refl
  begun_lasting state actor call number None =
      ap (λ (o : Operation). settled_after (lasting m state) (outcome.Began o.id, with_begin (lasting m state) actor call o)) (begun_same state call number)
      ∙ ap (λ s. settled_after (lasting m state) (outcome.Began (begun_operation state call number).id, s)) (closed_lasting state actor call (begun_operation state call number) (is_close call))

  -- ---- each step

  module _ (state : State) (m_left : state.steps < m) (left : state.steps < state.limits.steps) where
    unspent : is_spent state ≡ false
    unspent = lt-leb state.limits.steps state.steps left

    same_spent : is_spent (lasting m state) ≡ is_spent state
    same_spent = lt-leb m state.steps m_left ∙ sym unspent

    begin_reasons : ℕ → Call → Bool → Bool → Option Refusal
    begin_reasons actor call lacks spent =
        let handle = handle_of call in
        let access = access_of (root_at state handle) in
        first_reason (
        (not (is_actor state actor), refuse.NoActor) ∷ (is_running state actor, refuse.ActorBusy) ∷ (not (is_some access), refuse.NoHandle)
        ∷ (needs_writable call && is_access ReadOnly access, refuse.ReadOnly) ∷ (needs_read_only call && is_access Writable access, refuse.NotReadOnly)
        ∷ (is_close call && runs_on state handle, refuse.Busy) ∷ (opens_handle call && lacks, refuse.HandlesFull)
        ∷ (spent, refuse.Spent) ∷ [])

    lacks_same : (number : Option ℕ) → lacks_number (lasting m state) number ≡ lacks_number state number
    lacks_same None = ap (λ k. nat_le handle_limit k) (taken_lasting state handle_limit)
    lacks_same (Some number) = refl

    begin_denial_same : (actor : ℕ) (call : Call) (number : Option ℕ) → begin_denial (lasting m state) actor call number ≡ begin_denial state actor call number
    unfolding begin_reasons
    begin_denial_same actor call number =
        ap (λ b. begin_reasons actor call b (is_spent (lasting m state))) (lacks_same number) ∙ ap (λ b. begin_reasons actor call (lacks_number state number) b) same_spent

    go_denial_same : (actor : ℕ) → go_denial (lasting m state) actor ≡ go_denial state actor
    go_denial_same actor =
        ap (λ b. first_reason ((not (is_actor state actor), refuse.NoActor) ∷ (not (is_running state actor), refuse.Idle) ∷ (b, refuse.Spent) ∷ [])) same_spent

    next_lasting : (s : Step) → next (lasting m state) s ≡ lasting_answer m (next state s)
    unfolding next
    next_lasting (step.Begin actor call number) =
        ap (λ d. begin_unless (lasting m state) actor call number d) (begin_denial_same actor call number) ∙ begun_lasting state actor call number (begin_denial state actor call number)
    next_lasting (step.Go actor) = ap (λ d. go_unless (lasting m state) actor d) (go_denial_same actor) ∙ go_unless_lasting state actor (go_denial state actor)
    next_lasting (step.GiveUp actor) = ap (λ d. give_up_unless (lasting m state) actor d) (go_denial_same actor) ∙ give_up_lasting state actor (go_denial state actor)
    next_lasting step.Sweep = swept_by (is_spent state) same_spent unspent
      where
        swept_by : (b : Bool) → is_spent (lasting m state) ≡ b → b ≡ false →
            sweep (lasting m state) ≡ lasting_answer m (if b then Err refuse.Spent else settled_after state (swept state))
        swept_by b e f = ap (λ x. if x then Err refuse.Spent else settled_after (lasting m state) (swept (lasting m state))) (e ∙ f)
            ∙ ap (λ x. lasting_answer m (if x then Err refuse.Spent else settled_after state (swept state))) (sym f)

    same_taken : (answer : Answer) → is_taken_step (lasting_answer m answer) ≡ is_taken_step answer
    same_taken (Ok done) = refl
    same_taken (Err why) = refl

    told_of_lasting : (actor : ℕ) (found : Option Operation) → told_of (lasting m state) actor found ≡ told_of state actor found
    told_of_lasting actor None = refl
    told_of_lasting actor (Some operation) = by_action (action_of state operation)
      where
        by_action : (action : Action) → told_by (lasting m state) actor operation action ≡ told_by state actor operation action
        by_action (act.End answer) = refl
        by_action action = refl

    told_lasting : (s : Step) → told_in (lasting m state) s ≡ told_in state s
    told_lasting (step.Begin actor call number) = ap (λ (o : Operation). begin_told actor call o) (begun_same state call number)
    told_lasting (step.Go actor) = told_of_lasting actor (operation_of state actor)
    told_lasting step.Sweep = refl
    told_lasting (step.GiveUp actor) = refl

    pub next_record_lasting : (past : Record) (s : Step) → next_record (lasting m state) past s ≡ next_record state past s
    next_record_lasting past s =
        ap (λ b. if b then noted past state.steps (told_in (lasting m state) s) else past) (ap is_taken_step (next_lasting s) ∙ same_taken (next state s))
        ∙ ap (λ t. if is_taken_step (next state s) then noted past state.steps t else past) (told_lasting s)

    after_lasting : (answer : Answer) → state_after (lasting m state) (lasting_answer m answer) ≡ lasting m (state_after state answer)
    after_lasting (Ok done) = refl
    after_lasting (Err why) = refl

    pub next_state_lasting : (s : Step) → next_state (lasting m state) s ≡ lasting m (next_state state s)
    next_state_lasting s = ap (λ a. state_after (lasting m state) a) (next_lasting s) ∙ after_lasting (next state s)

-- ---- runs

-- a step is counted once at most, and keeps the bounds
abbrev Counted : State → State → Type 0
Counted before after = (after.steps ≤ before.steps + 1) × (after.limits ≡ before.limits)

counted : (state : State) (s : Step) → Counted state (next_state state s)
counted state s = kept_by_moves (λ after. Counted state after) state s (omega arith, refl)
    (λ o after moves. (omega (arith, steps_counted state s o after moves), limits_kept state s o after moves))

pub run_lasting : (m : ℕ) (steps : List Step) (state : State) → state.steps + length steps ≤ m → state.steps + length steps ≤ state.limits.steps →
    run_from (lasting m state) steps ≡ lasting m (run_from state steps)
unfolding run_from
run_lasting m [] state h g = refl
run_lasting m (s ∷ steps) state h g =
    let c = counted state s in
    let same : (next_state state s).limits.steps ≡ state.limits.steps = ap (λ (l : Bounds). l.steps) c.1 in
    let first = next_state_lasting m state (omega (arith, h)) (omega (arith, g)) s in
    ap (λ x. run_from x steps) first ∙ run_lasting m steps (next_state state s) (omega (arith, h, c.0)) (omega (arith, g, c.0, same))

pub record_lasting : (m : ℕ) (steps : List Step) (state : State) (past : Record) → state.steps + length steps ≤ m → state.steps + length steps ≤ state.limits.steps →
    record_from (lasting m state) past steps ≡ record_from state past steps
unfolding record_from
record_lasting m [] state past h g = refl
record_lasting m (s ∷ steps) state past h g =
    let c = counted state s in
    let same : (next_state state s).limits.steps ≡ state.limits.steps = ap (λ (l : Bounds). l.steps) c.1 in
    ap (λ x. record_from x (next_record (lasting m state) past s) steps) (next_state_lasting m state (omega (arith, h)) (omega (arith, g)) s)
    ∙ ap (λ r. record_from (lasting m (next_state state s)) r steps) (next_record_lasting m state (omega (arith, h)) (omega (arith, g)) past s)
    ∙ record_lasting m steps (next_state state s) (next_record state past s) (omega (arith, h, c.0)) (omega (arith, g, c.0, same))

-- ---- from the first state

first_lasting : (limits : Bounds) (m : ℕ) → first_state (living limits m) ≡ lasting m (first_state limits)
unfolding first_state
first_lasting limits m = refl

first_none : (limits : Bounds) → (first_state limits).steps ≡ 0
unfolding first_state
first_none limits = refl

first_most : (limits : Bounds) → (first_state limits).limits.steps ≡ limits.steps
unfolding first_state
first_most limits = refl

same_record : (limits : Bounds) (m : ℕ) → first_record (living limits m) ≡ first_record limits
unfolding first_record
same_record limits m = refl

pub life_changes_nothing : LifeChangesNothing
life_changes_nothing limits m steps h g =
    let first = first_state limits in
    let few : first.steps + length steps ≤ m = omega (arith, g, first_none limits) in
    let left : first.steps + length steps ≤ first.limits.steps = omega (arith, h, first_none limits, first_most limits) in (
      ap (λ s. run_from s steps) (first_lasting limits m) ∙ run_lasting m steps first few left,
      ap (λ s. record_from s (first_record (living limits m)) steps) (first_lasting limits m)
          ∙ ap (λ r. record_from (lasting m first) r steps) (same_record limits m)
          ∙ record_lasting m steps first (first_record limits) few left,
    )
