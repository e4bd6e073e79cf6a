-- Each step of a padded state, and what it tells.
use Rattle.std.proofs.Common.{◌≡◌, ℕ, zero, suc, ◌+◌, ◌-◌, ◌&&◌, Bool, true, false, not, nat_le, is_some, List, [], ◌∷◌, length, map, slice_index_or, Option, Some, None, Ok, Err, if◌then◌else◌}
use Rattle.std.proofs.Common.{refl, ap, ◌∙◌}
use Rattle.proof_slots.specs.Vocabulary.{Refusal, Writable, ReadOnly, Call, Ref, Heap, generation_at, generation_of, node_at, Zeroed, ripe, is_passed, scanned, advanced, sweep_by, Operation, Action}
use Rattle.proof_slots.specs.Vocabulary.{Read, Carried, Progress, Publication, Outcome, Step, handle_of, opens_handle, is_close, needs_writable, needs_read_only, State, handle_limit, root_at}
use Rattle.proof_slots.specs.Vocabulary.{operation_of, word_at, with_root, with_operation, is_carried_out, outside, settled, action_of, kind_of, read_of, gone, Answer, next, next_state, state_after}
use Rattle.proof_slots.specs.Vocabulary.{is_taken_step, is_spent, is_taken, taken_below, least_from, lacks_number, settled_after, begin_denial, begin_unless, begun_operation, with_begin, give_up_by}
use Rattle.proof_slots.specs.Vocabulary.{give_up_on, give_up_unless, given_up, gave_up, Reply, access_of, first_reason, is_actor, is_running, is_access, runs_on, go_denial, go_unless, go_on}
use Rattle.proof_slots.specs.Vocabulary.{step_by, pin_of, reclaimer_of, swept, swept_with, Record, noted, next_record, told_in, told_of, told_by, begin_told, committed_in, committed_now, given_by}
use Rattle.proof_slots.specs.Vocabulary.{given_in, given_now, counts_from, published_by, carried_by, progress_of}
use Rattle.proof_slots.specs.Beneath.ctrie_base.specs.declared.refusals.Refusal.TheVariants as refuse
use Rattle.proof_slots.specs.Beneath.epochs.specs.declared.limbo.Swept.TheVariants as sweeping
use Rattle.machine_model.specs.declared.actions.Action.TheVariants as act
use Rattle.machine_model.specs.declared.records.Told.TheVariants as told
use Rattle.machine_model.specs.declared.steps.Outcome.TheVariants as outcome
use Rattle.proof_slots.specs.Beneath.ctrie_base.specs.declared.kinds.Kind.TheVariants as kind
use Rattle.machine_model.specs.declared.steps.Step.TheVariants as step
use Rattle.proof_slots.specs.Padding.{padded, padded_answer}
use Rattle.proof_slots.proofs.Padded.Heaps.{HasFree, node_wide, freed_wide, limbo_wide}
use Rattle.proof_slots.proofs.Padded.Reads.{committed_wide}
use Rattle.proof_slots.proofs.Padded.Lines.{step_wide, acts_wide}
use Rattle.proof_slots.proofs.Padded.Acts.{gone_wide}

module _ (more : ℕ) where
  -- ---- at the end of a step

  settled_wide : (before after : State) → settled (padded more before) (padded more after) ≡ padded more (settled before after)
  settled_wide before after =
      ap (λ (l : List Zeroed). record (padded more after) { limbo = l; steps = before.steps + 1 })
      (limbo_wide more after.limits.slots after.heap (outside after) after.epoch before.limbo)

  settles : (before : State) (o : Outcome) (wide_after after : State) → wide_after ≡ padded more after →
      settled_after (padded more before) (o, wide_after) ≡ padded_answer more (settled_after before (o, after))
  settles before o wide_after after e =
      ap (λ (s : State). settled_after (padded more before) (o, s)) e ∙ ap (λ (s : State). Ok (o, s)) (settled_wide before after)

  -- ---- a step of an operation

  step_by_wide : (state : State) (actor : ℕ) (operation : Operation) (action : Action) → HasFree state.heap →
      step_by (padded more state) actor operation action ≡ padded_answer more (step_by state actor operation action)
  step_by_wide state actor operation (act.End answer) free = settles state _ _ (with_operation state actor None) refl
  step_by_wide state actor operation action free = settles state (outcome.Went (kind_of action)) _ (gone state actor operation) (gone_wide more state actor operation free)

  go_on_wide : (state : State) (actor : ℕ) (found : Option Operation) → HasFree state.heap → go_on (padded more state) actor found ≡ padded_answer more (go_on state actor found)
  go_on_wide state actor None free = refl
  go_on_wide state actor (Some operation) free =
      ap (λ a. step_by (padded more state) actor operation a) (acts_wide more state operation) ∙ step_by_wide state actor operation (action_of state operation) free

  go_unless_wide : (state : State) (actor : ℕ) (denial : Option Refusal) → HasFree state.heap →
      go_unless (padded more state) actor denial ≡ padded_answer more (go_unless state actor denial)
  go_unless_wide state actor None free = go_on_wide state actor (operation_of state actor) free
  go_unless_wide state actor (Some why) free = refl

  -- ---- giving up

  give_up_by_wide : (state : State) (actor : ℕ) (operation : Operation) (answer : Option Reply) →
      give_up_by (padded more state) actor operation answer ≡ padded_answer more (give_up_by state actor operation answer)
  give_up_by_wide state actor operation None = refl
  give_up_by_wide state actor operation (Some answer) = settles state (outcome.Went kind.Make) _ (with_operation state actor (Some (gave_up operation answer))) refl

  give_up_on_wide : (state : State) (actor : ℕ) (found : Option Operation) → give_up_on (padded more state) actor found ≡ padded_answer more (give_up_on state actor found)
  give_up_on_wide state actor None = refl
  give_up_on_wide state actor (Some operation) = give_up_by_wide state actor operation (given_up operation.call operation.line)

  give_up_unless_wide : (state : State) (actor : ℕ) (denial : Option Refusal) →
      give_up_unless (padded more state) actor denial ≡ padded_answer more (give_up_unless state actor denial)
  give_up_unless_wide state actor None = give_up_on_wide state actor (operation_of state actor)
  give_up_unless_wide state actor (Some why) = refl

  -- ---- a begin

  taken_below_wide : (state : State) (n : ℕ) → taken_below (padded more state) n ≡ taken_below state n
  unfolding taken_below
  taken_below_wide state zero = refl
  taken_below_wide state (suc n) = ap (λ k. k + (if is_taken state n then 1 else 0)) (taken_below_wide state n)

  least_wide : (state : State) (left n : ℕ) → least_from (padded more state) left n ≡ least_from state left n
  unfolding least_from
  least_wide state zero n = refl
  least_wide state (suc left) n = ap (λ k. if is_taken state n then k else n) (least_wide state left (n + 1))

  pub begun_wide : (state : State) (call : Call) (number : Option ℕ) → begun_operation (padded more state) call number ≡ begun_operation state call number
  begun_wide state call None = ap (λ n. record (begun_operation state call None) { opens = if opens_handle call then Some n else None }) (least_wide state handle_limit 0)
  begun_wide state call (Some number) = refl

  closed_wide : (state : State) (actor : ℕ) (call : Call) (operation : Operation) (b : Bool) →
      record (with_operation (if b then with_root (padded more state) (handle_of call) None else padded more state) actor (Some operation)) { begun = state.begun + 1 }
      ≡ padded more (record (with_operation (if b then with_root state (handle_of call) None else state) actor (Some operation)) { begun = state.begun + 1 })
  closed_wide state actor call operation true = refl
  closed_wide state actor call operation false = refl

  begin_unless_wide : (state : State) (actor : ℕ) (call : Call) (number : Option ℕ) (denial : Option Refusal) →
      begin_unless (padded more state) actor call number denial ≡ padded_answer more (begin_unless state actor call number denial)
  begin_unless_wide state actor call number (Some why) = refl
  begin_unless_wide state actor call number None =
      ap (λ (o : Operation). settled_after (padded more state) (outcome.Began o.id, with_begin (padded more state) actor call o)) (begun_wide state call number)
      ∙ settles state (outcome.Began (begun_operation state call number).id) _ (with_begin state actor call (begun_operation state call number))
      (closed_wide state actor call (begun_operation state call number) (is_close call))

  begin_reasons : State → ℕ → Call → Bool → Option Refusal
  begin_reasons state actor call lacks =
      let handle = handle_of call in
      let access = access_of (root_at state handle) in
      first_reason (
      (not (is_actor state actor), refuse.NoActor) ∷ (is_running state actor, refuse.ActorBusy) ∷ (not (is_some access), refuse.NoHandle)
      ∷ (needs_writable call && is_access ReadOnly access, refuse.ReadOnly) ∷ (needs_read_only call && is_access Writable access, refuse.NotReadOnly)
      ∷ (is_close call && runs_on state handle, refuse.Busy) ∷ (opens_handle call && lacks, refuse.HandlesFull)
      ∷ (is_spent state, refuse.Spent) ∷ [])

  lacks_wide : (state : State) (number : Option ℕ) → lacks_number (padded more state) number ≡ lacks_number state number
  lacks_wide state None = ap (λ k. nat_le handle_limit k) (taken_below_wide state handle_limit)
  lacks_wide state (Some number) = refl

  begin_denial_wide : (state : State) (actor : ℕ) (call : Call) (number : Option ℕ) → begin_denial (padded more state) actor call number ≡ begin_denial state actor call number
  unfolding begin_reasons
  begin_denial_wide state actor call number = ap (λ b. begin_reasons state actor call b) (lacks_wide state number)

  -- ---- a step of the sweep

  scanned_wide : (state : State) (passed b : Bool) →
      settled_after (padded more state) (swept_with (padded more state) (if b then scanned (reclaimer_of (padded more state)) passed else advanced (reclaimer_of (padded more state))))
      ≡ padded_answer more (settled_after state (swept_with state (if b then scanned (reclaimer_of state) passed else advanced (reclaimer_of state))))
  scanned_wide state passed true = settles state (outcome.Swept (sweeping.Scanned passed)) _ (swept_with state (scanned (reclaimer_of state) passed)).1 refl
  scanned_wide state passed false = settles state (outcome.Swept (sweeping.Advanced (state.epoch + 1))) _ (swept_with state (advanced (reclaimer_of state))).1 refl

  swept_wide : (state : State) (due : Option Ref) →
      settled_after (padded more state) (swept_with (padded more state) (sweep_by (map pin_of state.actors) (reclaimer_of (padded more state)) due))
      ≡ padded_answer more (settled_after state (swept_with state (sweep_by (map pin_of state.actors) (reclaimer_of state) due)))
  swept_wide state (Some at) =
      settles state (outcome.Swept sweeping.Freed) _ (swept_with state (sweep_by (map pin_of state.actors) (reclaimer_of state) (Some at))).1
      (ap (λ (h : Heap). record (padded more state) { heap = h }) (freed_wide more state.limits.slots state.heap at))
  swept_wide state None = scanned_wide state (is_passed state.epoch (slice_index_or (map pin_of state.actors) (state.cursor - 1) None)) (nat_le state.cursor (length (map pin_of state.actors)))

  sweep_unless : (state : State) (spent : Bool) →
      (if spent then Err refuse.Spent else settled_after (padded more state) (swept (padded more state)))
      ≡ padded_answer more (if spent then Err refuse.Spent else settled_after state (swept state))
  sweep_unless state true = refl
  sweep_unless state false = swept_wide state (ripe state.epoch state.limbo)

  -- ---- each step

  pub next_padded : (state : State) (s : Step) → HasFree state.heap → next (padded more state) s ≡ padded_answer more (next state s)
  unfolding next
  next_padded state (step.Begin actor call number) free =
      ap (begin_unless (padded more state) actor call number) (begin_denial_wide state actor call number) ∙ begin_unless_wide state actor call number (begin_denial state actor call number)
  next_padded state (step.Go actor) free = go_unless_wide state actor (go_denial state actor) free
  next_padded state step.Sweep free = sweep_unless state (is_spent state)
  next_padded state (step.GiveUp actor) free = give_up_unless_wide state actor (go_denial state actor)

  after_wide : (state : State) (answer : Answer) → state_after (padded more state) (padded_answer more answer) ≡ padded more (state_after state answer)
  after_wide state (Ok done) = refl
  after_wide state (Err why) = refl

  pub next_state_padded : (state : State) (s : Step) → HasFree state.heap → next_state (padded more state) s ≡ padded more (next_state state s)
  next_state_padded state s free = ap (state_after (padded more state)) (next_padded state s free) ∙ after_wide state (next state s)

  -- ---- what it tells

  committed_by_read : (state : State) (r : Option Read) → committed_in (padded more state) r ≡ committed_in state r
  committed_by_read state None = refl
  committed_by_read state (Some r) = committed_wide more state.limits.slots state.heap r.indirection r.line

  given_by_read : (state : State) (operation : Operation) (r : Option Read) → given_in (padded more state) operation r ≡ given_in state operation r
  given_by_read state operation None = refl
  given_by_read state operation (Some r) = ap given_by (step_wide more state operation r)

  carried_told : (state : State) (handle : ℕ) (action : Action) → carried_by (padded more state) handle action ≡ carried_by state handle action
  carried_told state handle (act.Complete offer main) =
      ap (λ g. if is_carried_out (word_at state handle) offer main then Some (record { generation = g; operation = offer.operation }) else None)
      (generation_wide (node_wide more state.limits.slots state.heap offer.root))
    where
      generation_wide : node_at (padded more state).heap offer.root ≡ node_at state.heap offer.root → generation_at (padded more state).heap offer.root ≡ generation_at state.heap offer.root
      generation_wide e = ap generation_of e
  carried_told state handle action = refl

  abbrev told_so : Option Ref → Option Ref → Bool → Option Publication → Option Carried → Progress
  told_so committed given counts published carried = record { committed = committed; given = given; counts = counts; published = published; carried = carried }

  progress_wide : (state : State) (operation : Operation) → progress_of (padded more state) operation ≡ progress_of state operation
  progress_wide state operation =
      let wider : State = padded more state in
      let handle : ℕ = handle_of operation.call in
      ap (λ a. told_so (committed_now wider operation) (given_now wider operation) (counts_from a) (published_by operation operation.line) (carried_by wider handle a)) (acts_wide more state operation)
      ∙ ap (λ c. told_so c (given_now wider operation) (counts_from (action_of state operation)) (published_by operation operation.line) (carried_by wider handle (action_of state operation)))
      (committed_by_read state (read_of operation.line))
      ∙ ap (λ g. told_so (committed_now state operation) g (counts_from (action_of state operation)) (published_by operation operation.line) (carried_by wider handle (action_of state operation)))
      (given_by_read state operation (read_of operation.line))
      ∙ ap (λ c. told_so (committed_now state operation) (given_now state operation) (counts_from (action_of state operation)) (published_by operation operation.line) c)
      (carried_told state handle (action_of state operation))

  told_by_wide : (state : State) (actor : ℕ) (operation : Operation) (action : Action) → told_by (padded more state) actor operation action ≡ told_by state actor operation action
  told_by_wide state actor operation (act.End answer) = refl
  told_by_wide state actor operation action = ap (told.Went actor) (progress_wide state operation)

  told_of_wide : (state : State) (actor : ℕ) (found : Option Operation) → told_of (padded more state) actor found ≡ told_of state actor found
  told_of_wide state actor None = refl
  told_of_wide state actor (Some operation) =
      ap (told_by (padded more state) actor operation) (acts_wide more state operation) ∙ told_by_wide state actor operation (action_of state operation)

  told_wide : (state : State) (s : Step) → told_in (padded more state) s ≡ told_in state s
  told_wide state (step.Begin actor call number) = ap (begin_told actor call) (begun_wide state call number)
  told_wide state (step.Go actor) = told_of_wide state actor (operation_of state actor)
  told_wide state step.Sweep = refl
  told_wide state (step.GiveUp actor) = refl

  same_taken : (answer : Answer) → is_taken_step (padded_answer more answer) ≡ is_taken_step answer
  same_taken (Ok done) = refl
  same_taken (Err why) = refl

  pub next_record_padded : (state : State) (past : Record) (s : Step) → HasFree state.heap → next_record (padded more state) past s ≡ next_record state past s
  next_record_padded state past s free =
      ap (λ b. if b then noted past state.steps (told_in (padded more state) s) else past) (ap is_taken_step (next_padded state s free) ∙ same_taken (next state s))
      ∙ ap (λ t. if is_taken_step (next state s) then noted past state.steps t else past) (told_wide state s)
