-- A call that runs alone from rest comes to its end.
use Rattle.std.specs.Prelude.{◌≡◌, ◌⊎◌, ◌<◌, ◌≤◌, ◌+◌, ℕ, suc, true, List, length, Some, None, Ok}
use Rattle.std.proofs.Common.{inl, inr, refl, sym, ap, subst, arith, ◌∙◌}
use Rattle.std.proofs.lemmas.Bool.{cases_lt}
use Rattle.std.proofs.lemmas.List.Elements.{All-push}
use Rattle.proof_alone.specs.Vocabulary.{Call, Clear, Close, Freeze, Snapshot, Reply, Closed, Operation, Bounds, Began, Ended, Went, Step, Go, is_close, FitsKey, KeysFit, AreBounds, begun_operation}
use Rattle.proof_alone.specs.Vocabulary.{next, run, State, operation_of, Heap, IsSame, IsCopying, GoesOnAt, IsOnKeyOrRoot, RunsAlone, most_steps_alone, most_steps_of_copies, Comes, starts}
use Rattle.proof_alone.specs.Beneath.machine_model.specs.declared.steps.Step.TheVariants.{Begin}
use Rattle.proof_alone.specs.Beneath.machine_model.proofs.Along.{limits_along}
use Rattle.proof_alone.specs.Beneath.machine_model.proofs.HeapMoves.{begin_heap}
use Rattle.proof_alone.specs.Beneath.proof_memory.proofs.Holding.Sizes.{sizes_stay}
use Rattle.proof_obstruction_free.specs.Laws.{EndsAt}
use Rattle.proof_obstruction_free.proofs.Ends.Bounds.{copies_end_first}
use Rattle.proof_obstruction_free.proofs.Ends.Closes.{closes_end}
use Rattle.proof_obstruction_free.proofs.Ends.Lists.{none_more}
use Rattle.proof_obstruction_free.proofs.Inherited.EndsAll.{each_step_leads_to_its_end}
use Rattle.proof_obstruction_free.proofs.NoWalks.{of_no_walk}
use Rattle.proof_obstruction_free.proofs.Slots.AtBegin.{tries_first}
use Rattle.proof_straight.specs.Running.{GoesOn}
use Rattle.proof_alone.specs.Calls.{CallsBegin, CallsEnd, CallsGoOn, CanCall, IsOnItsWay, LeadsOn, steps_of}
use Rattle.proof_alone.proofs.Going.{began, goes_there, is_there, not_later, still_runs, there}
use Rattle.proof_alone.proofs.Runs.{by_run, stepped}
use Rattle.proof_alone.proofs.Steps.{begins, begun, idle_waits, one_state, runs_then}

module _ (limits : Bounds) (steps : List Step) (ok : AreBounds limits) (keys : KeysFit steps) (actor : ℕ) (call : Call) (can : CanCall (run limits steps) actor call) where
  -- the operation that begins
  abbrev pub own : Operation
  own = begun_operation (run limits steps) call None

  -- ---- its begin

  pub first_step : next (run limits steps) (Begin actor call None) ≡ Ok (Began (run limits steps).begun, begun (run limits steps) actor call)
  first_step = begins (run limits steps) actor call can.allowed

  middle_is : run limits (began limits steps actor call) ≡ begun (run limits steps) actor call
  middle_is = stepped limits steps (Begin actor call None) (Began (run limits steps).begun) (begun (run limits steps) actor call) first_step

  begins_there : next (run limits steps) (Begin actor call None) ≡ Ok (Began (run limits steps).begun, run limits (began limits steps actor call))
  begins_there = first_step ∙ ap (λ s. Ok (Began (run limits steps).begun, s)) (sym middle_is)

  -- it takes no slot
  pub free_first : length (run limits (began limits steps actor call)).heap.free ≡ length (run limits steps).heap.free
  free_first =
      ap (λ (s : State). length s.heap.free) middle_is ∙ ap (λ (h : Heap). length h.free) (begin_heap (run limits steps) actor call (begun_operation (run limits steps) call None))

  runs_first : operation_of (begun (run limits steps) actor call) actor ≡ Some own
  runs_first =
      runs_then (run limits steps) actor call ((sizes_stay limits steps).1 ∙ ap (λ (b : Bounds). b.actors) (sym (limits_along limits steps))) can.allowed

  pub runs : operation_of (run limits (began limits steps actor call)) actor ≡ Some own
  runs = ap (λ s. operation_of s actor) middle_is ∙ runs_first

  pub fit : KeysFit (began limits steps actor call)
  fit = All-push FitsKey steps (Begin actor call None) keys can.fits

  -- it has few actors
  few_actors : limits.actors ≤ 64
  few_actors = let same = ap (λ (b : Bounds). b.actors) (limits_along limits steps) in omega (arith, same, can.of_run.actors)

  -- as many steps are left as it takes
  left : (run limits (began limits steps actor call)).steps + most_steps_alone ≤ limits.steps
  left =
      let one = ap (λ (s : State). s.steps) middle_is in
      let most = ap (λ (b : Bounds). b.steps) (limits_along limits steps) in omega (arith, one, most, can.left)

  left_one : (run limits (began limits steps actor call)).steps < limits.steps
  left_one = omega (arith, left)

  pub alone : IsOnKeyOrRoot call → RunsAlone limits (began limits steps actor call) actor own
  alone on = record { limits_ok = ok; keys_fit = fit; runs = runs; call = on; left = omega (arith, left, few_actors) }

  -- ---- its end

  -- each of its steps goes on, and this one ends it
  record LeadsToEnd : Type 0 where
    pub at : ℕ
    pub few : at < most_steps_alone
    pub goes : (k : ℕ) → k < at → GoesOnAt limits (began limits steps actor call) actor k
    pub ends : EndsAt limits (began limits steps actor call) actor own.id at

  pub closes : is_close call ≡ true → next (run limits (began limits steps actor call)) (Go actor) ≡ Ok (Ended own.id Closed, there limits steps actor call 1)
  closes closing = (closes_end limits (began limits steps actor call) actor own runs closing left_one).0

  leads_by : IsOnKeyOrRoot call ⊎ (is_close call ≡ true) → LeadsToEnd
  leads_by (inl on) = let (n, few, goes, last) = each_step_leads_to_its_end limits (began limits steps actor call) actor own (alone on) in
      record { at = n; few = omega (arith, few, few_actors); goes = goes; ends = last }
  leads_by (inr closing) = record {
    at = 0;
    few = omega arith;
    goes = λ k below. absurd (omega (arith, below));
    ends =
        (Closed, subst (λ s. next s (Go actor) ≡ Ok (Ended own.id Closed, there limits steps actor call 1)) (sym (none_more limits (began limits steps actor call) actor)) (closes closing));
  }

  its_end : LeadsToEnd
  its_end = leads_by (of_no_walk call can.short)

  -- ---- within its steps

  -- each of them up to the last one is taken
  taken : (k : ℕ) → k ≤ its_end.at → operation_of (there limits steps actor call k) actor ≡ None → ⊥
  taken k low idle = elim (cases_lt k its_end.at) [
    | inl less ↦ let (kind, step) = its_end.goes k less in idle_waits (there limits steps actor call k) actor (Went kind) _ step idle
    | inr past ↦
        let last : k ≡ its_end.at = omega (arith, low, past) in
        idle_waits (there limits steps actor call its_end.at) actor (Ended own.id its_end.ends.0) _ its_end.ends.1 (ap (λ n. operation_of (there limits steps actor call n) actor) (sym last) ∙ idle)
  ]

  -- so it ends before any step behind which its actor runs nothing
  ends_before : (most : ℕ) → operation_of (there limits steps actor call most) actor ≡ None → suc its_end.at ≤ most
  ends_before most idle = elim (cases_lt its_end.at most) [ inl less ↦ omega (arith, less) | inr past ↦ absurd (taken most past idle) ]

  few_copy : IsOnKeyOrRoot call → IsCopying call → suc its_end.at ≤ most_steps_of_copies
  few_copy on copies = ends_before most_steps_of_copies (copies_end_first limits (began limits steps actor call) actor own (alone on) copies (tries_first call on)).idle

  few_by : (c : Call) → call ≡ c → suc its_end.at ≤ steps_of c
  few_by (Close h) is = ends_before 1 (closes_end limits (began limits steps actor call) actor own runs (ap is_close is) left_one).1.idle
  few_by (Clear h) is = few_copy (rw is tt) (rw is tt)
  few_by (Snapshot h) is = few_copy (rw is tt) (rw is tt)
  few_by (Freeze h) is = few_copy (rw is tt) (rw is tt)
  few_by c is = let few = its_end.few in omega (arith, few)

  few_steps : suc its_end.at ≤ steps_of call
  few_steps = few_by call refl

  -- ---- there

  comes : Comes (run limits steps) actor call its_end.at its_end.ends.0 (there limits steps actor call (suc its_end.at))
  comes = record {
    last = there limits steps actor call its_end.at;
    goes = goes_there limits steps actor call begins_there its_end.at its_end.goes;
    ends = its_end.ends.1;
  }

  -- ---- on its way

  -- what goes on hasn't come to the end
  not_past : (n : ℕ) (now : State) → GoesOn (run limits steps) actor call n now → n ≤ its_end.at
  not_past = not_later (run limits steps) actor call its_end.at its_end.ends.0 (there limits steps actor call (suc its_end.at)) comes

  -- its steps are as few
  pub within : (n : ℕ) (now : State) → GoesOn (run limits steps) actor call n now → suc n ≤ steps_of call
  within n now goes = let low = not_past n now goes in let few = few_steps in omega (arith, low, few)

  leads : (n : ℕ) (now : State) → GoesOn (run limits steps) actor call n now → LeadsOn (run limits steps) now actor
  leads n now goes =
      subst (λ s. LeadsOn (run limits steps) s actor) (is_there limits steps actor call n now goes) (by_place (cases_lt n its_end.at))
    where
      by_place : (n < its_end.at) ⊎ (its_end.at ≤ n) → LeadsOn (run limits steps) (there limits steps actor call n) actor
      by_place (inl less) = let (kind, step) = its_end.goes n less in inl (kind, there limits steps actor call (suc n), step)
      by_place (inr more) =
          let low = not_past n now goes in
          let last : its_end.at ≡ n = omega (arith, more, low) in
          subst (λ k. LeadsOn (run limits steps) (there limits steps actor call k) actor) last (inr (its_end.ends.0, there limits steps actor call (suc its_end.at), its_end.ends.1))

  runs_still : (n : ℕ) (now : State) → GoesOn (run limits steps) actor call n now → (operation : Operation) × (operation_of now actor ≡ Some operation) × IsSame own operation
  runs_still =
      still_runs (run limits steps) actor call own
      (λ first e. subst (λ s. operation_of s actor ≡ Some own) (one_state _ _ (begun (run limits steps) actor call) first (sym first_step ∙ e)) runs_first)

  on_its_way : (n : ℕ) (now : State) → GoesOn (run limits steps) actor call n now → IsOnItsWay (run limits steps) actor call n now
  on_its_way n now goes =
      let (operation, runs_now, same) = runs_still n now goes in
      record {
        few = let low = within n now goes in omega (arith, low);
        operation = operation;
        runs = runs_now;
        same = same.call;
        leads = leads n now goes;
      }

-- ---- the laws

pub calls_begin : CallsBegin
calls_begin state actor call can = (begun state actor call, starts (begins state actor call can.allowed))

pub calls_go_on : CallsGoOn
calls_go_on state actor call can =
    by_run (λ s. CanCall s actor call → (n : ℕ) (now : State) → GoesOn s actor call n now → IsOnItsWay s actor call n now)
    (λ limits steps ok keys can. on_its_way limits steps ok keys actor call can) state can.of_run can

pub calls_end : CallsEnd
calls_end state actor call can =
    by_run (λ s. CanCall s actor call → (n : ℕ) × (answer : Reply) × (after : State) × Comes s actor call n answer after)
    (λ limits steps ok keys can.
    let ends = its_end limits steps ok keys actor call can in
    (ends.at, ends.ends.0, there limits steps actor call (suc ends.at), comes limits steps ok keys actor call can)) state can.of_run can
