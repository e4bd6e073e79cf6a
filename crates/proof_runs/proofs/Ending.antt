-- An operation that goes on alone ends, by the law.
use Rattle.std.specs.Prelude.{◌≢◌, ◌⊎◌, true, length}
use Rattle.std.proofs.Common.{◌≡◌, ℕ, zero, suc, ◌+◌, ◌<◌, ◌≤◌, List, ◌∷◌, [], ◌++◌, replicate, Option, Some, None, Result, Ok, Err, OnOk, inl, inr, refl, sym, ap, subst, ◌∙◌, append_assoc, arith}
use Rattle.std.proofs.lemmas.Bool.{cases_lt}
use Rattle.std.proofs.lemmas.List.{append-nil, replicate-append-replicate}
use Rattle.proof_runs.specs.Vocabulary.{Refusal, Call, Clear, Snapshot, Freeze, Close, Reply, Closed, NoSlots, is_close, Operation, Bounds, Step, Outcome, FitsKey, KeysFit, begun_operation, settled}
use Rattle.proof_runs.specs.Vocabulary.{go_limit, AreLimits, bounded, Answer, next, begin_denial, begin_unless, run, with_begin, Record, State, operation_of, new_try, ClosesEnd, IsCopying}
use Rattle.proof_runs.specs.Vocabulary.{EachStepLeadsToItsEnd, GoesOnAt, IsOnKeyOrRoot, RunsAlone, alone_after, most_steps_alone, EnoughForCopies, EnoughForTries, slots_of}
use Rattle.proof_runs.specs.Beneath.ctrie_base.specs.declared.refusals.Refusal.TheVariants as refuse
use Rattle.proof_runs.specs.Beneath.machine_model.specs.declared.steps.Step.TheVariants as step
use Rattle.proof_runs.specs.Beneath.machine_model.specs.declared.steps.Outcome.TheVariants as outcome
use Rattle.proof_runs.specs.Beneath.proof_commits.proofs.Known.StepsAt.{begin_own}
use Rattle.proof_runs.specs.Beneath.machine_model.proofs.Along.{limits_along}
use Rattle.proof_runs.specs.Beneath.machine_model.proofs.HeapMoves.{begin_heap}
use Rattle.proof_runs.specs.Beneath.proof_order.proofs.Views.Unconditional.{books_of}
use Rattle.std.proofs.lemmas.List.Elements.{All-push}
use Rattle.std.proofs.lemmas.Option.{none-some}
use Rattle.proof_runs.proofs.Telling.{answered_parts, begun_runs, denied_parts, noted_step, stepped, unanswered}
use Rattle.proof_obstruction_free.specs.Laws.{EndsAt}
use Rattle.proof_runs.specs.Beneath.proof_commits.proofs.Resting.{idle_behind}
use Rattle.proof_obstruction_free.proofs.NoWalks.{of_no_walk}
use Rattle.proof_obstruction_free.proofs.Slots.AtBegin.{tries_first}
use Rattle.proof_runs.specs.Machines.{Taken, past_of, state_of, with_step, Applied, IsTaken}
use Rattle.proof_runs.specs.Callers.{after_go, going_on, Resumes, Completes, CompletesUnless}
use Rattle.proof_runs.specs.Ending.{EndsIfSure, EndsIn, IsAnswer, IsNearer, IsSure}
use Rattle.proof_runs.proofs.Bounds.{few_actors, in_bounds}
use Rattle.proof_runs.proofs.Going.{goes, ends}

-- one step more of the same
more : (n : ℕ) (s : Step) (xs : List Step) → (xs ++ replicate n s) ++ s ∷ [] ≡ xs ++ replicate (suc n) s
more n s xs =
    let one : n + 1 ≡ suc n = omega arith in
    append_assoc xs (replicate n s) (s ∷ []) ∙ ap (λ l. xs ++ l) (replicate-append-replicate n 1 s ∙ ap (λ m. replicate m s) one)

-- where so many slots are free as its call wants at most, an operation isn't refused for want of slots
abbrev pub EnoughForCall : Type 0
EnoughForCall =
    (limits : Bounds) (steps : List Step) (actor : ℕ) (operation : Operation) → RunsAlone limits steps actor operation → operation.line ≡ new_try →
    slots_of operation.call ≤ length (run limits steps).heap.free →
    (n id : ℕ) (answer : Reply) (after : State) → next (alone_after limits steps actor n) (step.Go actor) ≡ Ok (outcome.Ended id answer, after) → answer ≢ NoSlots

pub enough_for_call : EnoughForTries → EnoughForCopies → EnoughForCall
enough_for_call tries copies limits steps actor operation alone stands = by_call operation.call refl
  where
    by_call : (call : Call) → operation.call ≡ call → slots_of call ≤ length (run limits steps).heap.free →
        (n id : ℕ) (answer : Reply) (after : State) → next (alone_after limits steps actor n) (step.Go actor) ≡ Ok (outcome.Ended id answer, after) → answer ≢ NoSlots
    by_call (Clear h) is few = copies limits steps actor operation alone (subst IsCopying (sym is) tt) stands few
    by_call (Snapshot h) is few = copies limits steps actor operation alone (subst IsCopying (sym is) tt) stands few
    by_call (Freeze h) is few = copies limits steps actor operation alone (subst IsCopying (sym is) tt) stands few
    by_call (Close h) is few = absurd (subst IsOnKeyOrRoot is alone.call)
    by_call call is few = tries limits steps actor operation alone stands few

-- the most steps that a machine takes are those of its bounds
most_steps : (machine : Taken) → (state_of machine).limits.steps ≡ (bounded machine.limits).steps
most_steps machine = ap (λ (l : Bounds). l.steps) (limits_along (bounded machine.limits) machine.steps)

module _ (machine : Taken) (actor : ℕ) where
  -- the machine after so many steps of this actor
  abbrev pub after : ℕ → Taken
  after n = record machine { steps = machine.steps ++ replicate n (step.Go actor) }

  one_more : (n : ℕ) → after (suc n) ≡ with_step (after n) (step.Go actor)
  one_more n = ap (λ l. record machine { steps = l }) (sym (more n (step.Go actor) machine.steps))

  begins : after 0 ≡ machine
  begins = ap (λ l. record machine { steps = l }) (append-nil machine.steps)

  -- as long as each step goes on
  going : (n : ℕ) → ((k : ℕ) → k < n → GoesOnAt (bounded machine.limits) machine.steps actor k) → going_on n actor machine ≡ (Ok None, after n)
  unfolding going_on
  going zero on = ap (λ m. (Ok None, m)) (sym begins)
  going (suc n) on =
      let (kind, step) = on n (omega arith) in
      let one : n + 1 ≡ suc n = omega arith in
      subst (λ m. going_on m actor machine ≡ (Ok None, after (suc n))) one
      (goes n actor (outcome.Went kind) machine (after n) (after (suc n)) (going n (λ k h. on k (omega (arith, h)))) (one_more n, step) (λ id answer e. cc e))

  -- behind so many of the steps that go on, so many are left up to the one that ends the operation
  left : (m k n id : ℕ) → k + m ≡ n → ((j : ℕ) → j < n → GoesOnAt (bounded machine.limits) machine.steps actor j) → EndsAt (bounded machine.limits) machine.steps actor id n →
      EndsIn (suc m) actor (after k)
  unfolding EndsIn
  left zero k n id sum on last =
      let at_end : k ≡ n = omega (arith, sum) in
      subst (λ j. EndsIn 1 actor (after j)) (sym at_end)
      (rw last.1 refl, subst (λ m. operation_of (state_of m) actor ≡ None) (one_more n) (idle_behind (state_of (after n)) actor id last.0 (state_of (after (suc n))) last.1))
  left (suc m) k n id sum on last =
      (rw (on k (omega (arith, sum))).1 refl, subst (EndsIn (suc m) actor) (one_more k) (left m (suc k) n id (omega (arith, sum)) on last))

  -- an answer to a run of these is that of one of them
  abbrev ToldAt : Reply → Type 0
  ToldAt answer = (j : ℕ) × (id : ℕ) × (state : State) × (next (state_of (after j)) (step.Go actor) ≡ Ok (outcome.Ended id answer, state))

  told_at : (n k : ℕ) (answer : Reply) (last : Taken) → going_on n actor (after k) ≡ (Ok (Some answer), last) → ToldAt answer
  unfolding going_on
  told_at zero k answer last goes = absurd (unanswered answer (after k) last goes)
  told_at (suc n) k answer last goes =
      by_reply n k answer last (λ e. told_at n (suc k) answer last (subst (λ m. going_on n actor m ≡ (Ok (Some answer), last)) (sym (one_more k)) e))
      (next (state_of (after k)) (step.Go actor)) refl goes
    where
      by_reply : (n k : ℕ) (answer : Reply) (last : Taken) → (going_on n actor (with_step (after k) (step.Go actor)) ≡ (Ok (Some answer), last) → ToldAt answer) → (reply : Answer) →
          next (state_of (after k)) (step.Go actor) ≡ reply → after_go (going_on n actor) (after k) actor reply ≡ (Ok (Some answer), last) → ToldAt answer
      by_reply n k answer last more (Err why) is goes = absurd (denied_parts why answer (after k) last goes)
      by_reply n k answer last more (Ok (outcome.Ended id said, state)) is goes =
          let (same, to) = answered_parts said answer (with_step (after k) (step.Go actor)) last goes in
          (k, id, state, is ∙ ap (λ a. Ok (outcome.Ended id a, state)) same)
      by_reply n k answer last more (Ok (outcome.Began id, state)) is goes = more goes
      by_reply n k answer last more (Ok (outcome.Went kind, state)) is goes = more goes
      by_reply n k answer last more (Ok (outcome.Swept done, state)) is goes = more goes

  -- where the next step tells that it is closed, that is what is told
  closed_told : (n id : ℕ) (last : Taken) (state : State) → next (state_of machine) (step.Go actor) ≡ Ok (outcome.Ended id Closed, state) →
      going_on n actor machine ≡ (Ok (Some NoSlots), last) → ⊥
  unfolding going_on
  closed_told zero id last state e goes = unanswered NoSlots machine last goes
  closed_told (suc n) id last state e goes =
      let (told, to) = answered_parts Closed NoSlots (with_step machine (step.Go actor)) last (sym (ap (after_go (going_on n actor) machine actor) e) ∙ goes) in cc told

  -- the end comes with the last of so many steps, each of which is taken
  pub record Comes (last : Taken) : Type 0 where
    pub before : ℕ
    pub few : before < most_steps_alone
    pub is : last ≡ after (suc before)
    pub taken : (k : ℕ) → k ≤ before → IsTaken (state_of (after k)) (step.Go actor)

  module _ (law : EachStepLeadsToItsEnd) (closes : ClosesEnd) (sizes : AreLimits machine.limits) (keys : KeysFit machine.steps) (operation : Operation)
      (runs : operation_of (state_of machine) actor ≡ Some operation) (sure : IsSure (state_of machine) operation.call most_steps_alone) where
    -- as many steps are left by its bounds
    steps_left : (state_of machine).steps + most_steps_alone ≤ (bounded machine.limits).steps
    steps_left = let most = most_steps machine in omega (arith, most, sure.1)

    abbrev LeadsToEnd : Type 0
    LeadsToEnd =
        (n : ℕ) × (n < most_steps_alone) × ((k : ℕ) → k < n → GoesOnAt (bounded machine.limits) machine.steps actor k) × EndsAt (bounded machine.limits) machine.steps actor operation.id n

    alone_facts : IsOnKeyOrRoot operation.call → RunsAlone (bounded machine.limits) machine.steps actor operation
    alone_facts call = record { limits_ok = in_bounds machine.limits sizes; keys_fit = keys; runs = runs; call = call; left = omega (arith, steps_left, few_actors machine.limits sizes) }

    -- each of its steps goes on, and the last one ends it
    leads : IsOnKeyOrRoot operation.call ⊎ (is_close operation.call ≡ true) → LeadsToEnd
    leads (inl call) =
        let (n, few, on, last) = law (bounded machine.limits) machine.steps actor operation (alone_facts call) in
        (n, omega (arith, few, few_actors machine.limits sizes), on, last)
    leads (inr closing) =
        let ends_now = (closes (bounded machine.limits) machine.steps actor operation runs closing (omega (arith, steps_left))).0 in
        let last = alone_after (bounded machine.limits) machine.steps actor 1 in
        let ends_here = subst (λ m. next (state_of m) (step.Go actor) ≡ Ok (outcome.Ended operation.id Closed, last)) (sym begins) ends_now in
        (0, omega arith, (λ k below. absurd (omega (arith, below))), (Closed, ends_here))

    -- the steps come to the end
    answered : (answer : Reply) × (last : Taken) × (going_on go_limit actor machine ≡ (Ok (Some answer), last))
    answered =
        let (n, few, on, last) = leads (of_no_walk operation.call sure.0) in
        let within : n < go_limit = omega (arith, few) in
        (last.0, after (suc n), ends n actor operation.id last.0 machine (after n) (after (suc n)) within (going n on) (one_more n, last.1))

    -- so does this one
    pub comes : (answer : Reply) (last : Taken) → going_on go_limit actor machine ≡ (Ok (Some answer), last) → Comes last
    comes answer to goes =
        let (n, few, on, last) = leads (of_no_walk operation.call sure.0) in
        let within : n < go_limit = omega (arith, few) in
        let led = ends n actor operation.id last.0 machine (after n) (after (suc n)) within (going n on) (one_more n, last.1) in
        record {
          before = n;
          few = few;
          is = ap (λ g. g.1) (sym goes ∙ led);
          taken = λ k low. elim (cases_lt k n) [
            | inl less ↦ rw (on k less).1 refl
            | inr past ↦ let same : n ≡ k = omega (arith, low, past) in subst (λ j. IsTaken (state_of (after j)) (step.Go actor)) same (rw last.1 refl)
          ];
        }

    -- and none of them is denied
    pub ends_in : (n : ℕ) × (n ≤ most_steps_alone) × EndsIn n actor machine
    ends_in =
        let (n, few, on, last) = leads (of_no_walk operation.call sure.0) in
        (suc n, omega (arith, few), subst (EndsIn (suc n) actor) begins (left n 0 n operation.id (omega arith) on last))

    -- where enough slots are free none of them is refused for want of slots
    not_refused : EnoughForCall → (IsOnKeyOrRoot operation.call → operation.line ≡ new_try) → slots_of operation.call ≤ length (state_of machine).heap.free →
        IsOnKeyOrRoot operation.call ⊎ (is_close operation.call ≡ true) → (n : ℕ) (last : Taken) →
        going_on n actor machine ≡ (Ok (Some NoSlots), last) → ⊥
    not_refused spare stands free (inl call) n last goes =
        let (j, id, state, e) = told_at n 0 NoSlots last (subst (λ m. going_on n actor m ≡ (Ok (Some NoSlots), last)) (sym begins) goes) in
        spare (bounded machine.limits) machine.steps actor operation (alone_facts call) (stands call) free j id NoSlots state e refl
    not_refused spare stands free (inr closing) n last goes =
        let ends_now = (closes (bounded machine.limits) machine.steps actor operation runs closing (omega (arith, steps_left))).0 in
        closed_told n operation.id last (alone_after (bounded machine.limits) machine.steps actor 1) ends_now goes

    pub spared : EnoughForCall → (IsOnKeyOrRoot operation.call → operation.line ≡ new_try) → slots_of operation.call ≤ length (state_of machine).heap.free → (n : ℕ) (last : Taken) →
        going_on n actor machine ≡ (Ok (Some NoSlots), last) → ⊥
    spared spare stands free = not_refused spare stands free (of_no_walk operation.call sure.0)

    -- so that is what they come to
    pub must_be : (result : Result (Option Reply) Refusal) (to : Taken) → going_on go_limit actor machine ≡ (result, to) → (answer : Reply) × (result ≡ Ok (Some answer))
    must_be result to goes = let (answer, last, e) = answered in (answer, ap (λ g. g.0) (sym goes ∙ e))

    -- such steps come to the end, but for want of memory
    pub ended : (result : Result (Option Reply) Refusal) (to : Taken) → Resumes result machine actor to → IsAnswer None result
    ended (Ok (Some answer)) to goes = tt
    ended (Err refuse.Memory) to goes = inr refl
    ended result to goes = let (answer, e) = must_be result to goes in cc e

-- ---- a call that begins and goes on

-- the state in which the call has begun
begins_so : (state : State) (actor : ℕ) (call : Call) (denial : Option Refusal) → denial ≡ None →
    (o : Outcome) × (begin_unless state actor call None denial ≡ Ok (o, settled state (with_begin state actor call (begun_operation state call None))))
begins_so state actor call None e = (_, refl)
begins_so state actor call (Some why) e = cc e

begun_state : (state : State) (actor : ℕ) (call : Call) → begin_denial state actor call None ≡ None →
    (o : Outcome) × (next state (step.Begin actor call None) ≡ Ok (o, settled state (with_begin state actor call (begun_operation state call None))))
unfolding next
begun_state state actor call d = begins_so state actor call (begin_denial state actor call None) d

module _ (before : Taken) (actor : ℕ) (call : Call) (d : begin_denial (state_of before) actor call None ≡ None) where
  abbrev pub middle : Taken
  middle = with_step before (step.Begin actor call None)

  abbrev pub begun_so : State
  begun_so = settled (state_of before) (with_begin (state_of before) actor call (begun_operation (state_of before) call None))

  pub led_so : state_of middle ≡ begun_so
  led_so = let (o, e) = begun_state (state_of before) actor call d in stepped before (step.Begin actor call None) o begun_so e

  -- the operation that began runs
  pub begun_runs_on : operation_of (state_of middle) actor ≡ Some (begun_operation (state_of before) call None)
  begun_runs_on =
      let (o, e) = begun_state (state_of before) actor call d in
      let told = ap (λ (r : Record). r.events) (noted_step before (step.Begin actor call None) o begun_so e) in
      let (found, runs, same) =
      begun_runs (state_of before) (state_of middle) (past_of before) (past_of middle) actor call (begun_operation (state_of before) call None).opens
      (books_of (bounded before.limits) before.steps) (books_of (bounded before.limits) middle.steps) told in
      elim (begin_own (state_of before) actor call (begun_operation (state_of before) call None)) [
        | inl none ↦ absurd (none-some found (sym none ∙ ap (λ s. operation_of s actor) (sym led_so) ∙ runs))
        | inr own ↦ ap (λ s. operation_of s actor) led_so ∙ own
      ]

  -- and is as sure to end, with one step less
  pub sure_behind : (n : ℕ) → IsSure (state_of before) call (1 + n) → IsSure (state_of middle) (begun_operation (state_of before) call None).call n
  sure_behind n sure =
      let later : (state_of middle).steps ≡ (state_of before).steps + 1 = ap (λ (s : State). s.steps) led_so in
      let most = most_steps before in let still = most_steps middle in (sure.0, omega (arith, later, most, still, sure.1))

module _ (law : EachStepLeadsToItsEnd) (closes : ClosesEnd) (before after : Taken) (actor : ℕ) (call : Call) (sizes : AreLimits before.limits) (keys : KeysFit before.steps)
    (fits : FitsKey (step.Begin actor call None)) (sure : IsSure (state_of before) call (1 + most_steps_alone)) where
  by_denial : (denial : Option Refusal) → begin_denial (state_of before) actor call None ≡ denial → (result : Result (Option Reply) Refusal) → CompletesUnless denial result before actor call after →
      IsAnswer denial result
  by_denial (Some why) d result c = rw c.0 (inl refl)
  by_denial None d result (inl memory) = rw memory.0 (inr refl)
  by_denial None d result (inr goes) =
      ended (middle before actor call d) actor law closes sizes (All-push FitsKey before.steps (step.Begin actor call None) keys fits) (begun_operation (state_of before) call None)
      (begun_runs_on before actor call d) (sure_behind before actor call d most_steps_alone sure) result after goes

  pub completed : (result : Result (Option Reply) Refusal) → Completes result before actor call after → IsAnswer (begin_denial (state_of before) actor call None) result
  completed result c = by_denial (begin_denial (state_of before) actor call None) refl result c

-- ---- enough slots

module _ (law : EachStepLeadsToItsEnd) (closes : ClosesEnd) (spare : EnoughForCall) (before : Taken) (actor : ℕ) (call : Call) (sizes : AreLimits before.limits) (keys : KeysFit before.steps)
    (fits : FitsKey (step.Begin actor call None)) (sure : IsSure (state_of before) call (1 + most_steps_alone)) (free : slots_of call ≤ length (state_of before).heap.free) where
  -- behind its begin a call isn't refused for want of slots
  pub spared_behind : (d : begin_denial (state_of before) actor call None ≡ None) (n : ℕ) (last : Taken) → going_on n actor (middle before actor call d) ≡ (Ok (Some NoSlots), last) → ⊥
  spared_behind d =
      spared (middle before actor call d) actor law closes sizes (All-push FitsKey before.steps (step.Begin actor call None) keys fits) (begun_operation (state_of before) call None)
      (begun_runs_on before actor call d) (sure_behind before actor call d most_steps_alone sure) spare (tries_first call)
      (subst (λ h. slots_of call ≤ length h.free)
      (sym (ap (λ (s : State). s.heap) (led_so before actor call d) ∙ begin_heap (state_of before) actor call (begun_operation (state_of before) call None))) free)

  spares_by : (after : Taken) (denial : Option Refusal) → begin_denial (state_of before) actor call None ≡ denial → CompletesUnless denial (Ok (Some NoSlots)) before actor call after → ⊥
  spares_by after (Some why) d c = cc c.0
  spares_by after None d (inl memory) = cc memory.0
  spares_by after None d (inr goes) = spared_behind d go_limit after goes

  pub spares : (after : Taken) (result : Result (Option Reply) Refusal) → Completes result before actor call after → result ≢ Ok (Some NoSlots)
  spares after result c is = spares_by after (begin_denial (state_of before) actor call None) refl (subst (λ r. Completes r before actor call after) is c)

-- ---- a step of it

pub ends_if_sure : EachStepLeadsToItsEnd → ClosesEnd → (machine : Taken) → AreLimits machine.limits → KeysFit machine.steps → (actor : ℕ) → EndsIfSure machine actor
ends_if_sure law closes machine sizes keys actor operation runs sure = ends_in machine actor law closes sizes keys operation runs sure

pub is_nearer : (before : Taken) (s : Step) (after : Taken) → after ≡ with_step before s → IsNearer before s after
unfolding EndsIn
is_nearer before s after is actor n own ends = subst (EndsIn n actor) (sym (is ∙ ap (with_step before) own)) ends.1

pub if_nearer : (result : Result Outcome Refusal) (before : Taken) (s : Step) (after : Taken) → Applied result before s after → OnOk result (IsNearer before s after)
if_nearer (Ok o) before s after is = is_nearer before s after is.0
if_nearer (Err why) before s after is = tt
