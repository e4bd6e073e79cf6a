-- A call that goes on alone: it has one way, and that is a run of its steps.
use Rattle.std.specs.Prelude.{None, ◌≡◌, ◌⊎◌, ◌<◌, ◌≤◌, ◌+◌, ℕ, zero, suc, List, [], ◌∷◌, ◌++◌, Some, Ok}
use Rattle.std.proofs.Common.{inl, inr, refl, sym, ap, subst, arith, ◌∙◌}
use Rattle.std.proofs.lemmas.Bool.{cases_lt}
use Rattle.proof_alone.specs.Vocabulary.{Kind, Call, Reply, Operation, Bounds, Began, Ended, Went, Step, Go, FitsKey, next, next_state, run, state_after, State, operation_of, IsSame, GoesOnAt}
use Rattle.proof_alone.specs.Vocabulary.{alone_after, IsOfRun, Comes, starts, walks}
use Rattle.proof_alone.specs.Beneath.machine_model.specs.declared.steps.Step.TheVariants.{Begin}
use Rattle.proof_alone.specs.Beneath.machine_model.proofs.Frames.{steps_counted}
use Rattle.proof_alone.specs.Beneath.machine_model.proofs.Moves.{moved}
use Rattle.proof_alone.specs.Beneath.proof_order.proofs.History.Running.{same_trans}
use Rattle.proof_obstruction_free.proofs.Ends.Lists.{none_more, one_more}
use Rattle.proof_straight.specs.Running.{GoesOn}
use Rattle.proof_alone.proofs.Runs.{of_run_behind, stepped}
use Rattle.proof_alone.proofs.Steps.{end_or_on, one_state, runs_on}

-- ---- there is one way

-- each step that a call took on its way went on
went_at : (state : State) (actor : ℕ) (call : Call) (n : ℕ) (now : State) → GoesOn state actor call n now → (k : ℕ) → k < n →
    (here : State) × (after : State) × (kind : Kind) × GoesOn state actor call k here × (next here (Go actor) ≡ Ok (Went kind, after))
went_at state actor call n now (starts is) k below = absurd (omega (arith, below))
went_at state actor call n now (walks {n = m} {before} {kind} earlier is) k below = elim (cases_lt k m) [
  | inl low ↦ went_at state actor call m before earlier k low
  | inr high ↦
      let last : m ≡ k = omega (arith, below, high) in
      subst (λ j. (here : State) × (after : State) × (kind : Kind) × GoesOn state actor call j here × (next here (Go actor) ≡ Ok (Went kind, after))) last (before, now, kind, earlier, is)
]

-- so many steps lead to one state
goes_to_one : (state : State) (actor : ℕ) (call : Call) (n : ℕ) (x y : State) → GoesOn state actor call n x → GoesOn state actor call n y → x ≡ y
goes_to_one state actor call zero x y (starts e) (starts f) = one_state _ _ x y (sym e ∙ f)
goes_to_one state actor call (suc n) x y (walks {before = b} g e) (walks {before = c} h f) =
    let same = goes_to_one state actor call n b c g h in one_state _ _ x y (sym e ∙ ap (λ s. next s (Go actor)) same ∙ f)

-- what comes to an end goes no further
pub not_later : (state : State) (actor : ℕ) (call : Call) (n : ℕ) (answer : Reply) (after : State) → Comes state actor call n answer after → (m : ℕ) (now : State) →
    GoesOn state actor call m now → m ≤ n
not_later state actor call n answer after h m now goes = by (cases_lt n m)
  where
    by : (n < m) ⊎ (m ≤ n) → m ≤ n
    by (inr within) = within
    by (inl past) =
        let (here, further, kind, earlier, step) = went_at state actor call m now goes n past in
        let same = goes_to_one state actor call n h.last here h.goes earlier in
        absurd (end_or_on state.begun answer after kind further (sym h.ends ∙ ap (λ s. next s (Go actor)) same ∙ step))

-- ---- a run leads along it

pub of_run_on_its_way : (state : State) (actor : ℕ) (call : Call) → IsOfRun state → FitsKey (Begin actor call None) → (n : ℕ) (now : State) → GoesOn state actor call n now → IsOfRun now
of_run_on_its_way state actor call of_run fits n now (starts is) = of_run_behind state of_run (Begin actor call None) _ now fits is
of_run_on_its_way state actor call of_run fits n now (walks {n = m} {before} earlier is) =
    of_run_behind before (of_run_on_its_way state actor call of_run fits m before earlier) (Go actor) _ now tt is

-- ---- where a run leads to the state

module _ (limits : Bounds) (steps : List Step) (actor : ℕ) (call : Call) where
  -- up to the call's begin
  abbrev pub began : List Step
  began = steps ++ Begin actor call None ∷ []

  -- behind so many steps more
  abbrev pub there : ℕ → State
  there n = alone_after limits began actor n

  -- ---- the state

  pub is_there : (n : ℕ) (now : State) → GoesOn (run limits steps) actor call n now → there n ≡ now
  is_there n now (starts is) = none_more limits began actor ∙ stepped limits steps (Begin actor call None) (Began (run limits steps).begun) now is
  is_there n now (walks {n = m} {before} earlier is) =
      one_more limits began actor m ∙ ap (λ s. next_state s (Go actor)) (is_there m before earlier) ∙ ap (state_after before) is

  pub end_is_there : (n : ℕ) (last : State) (answer : Reply) (after : State) → GoesOn (run limits steps) actor call n last →
      next last (Go actor) ≡ Ok (Ended (run limits steps).begun answer, after) → there (suc n) ≡ after
  end_is_there n last answer after goes ends = one_more limits began actor n ∙ ap (λ s. next_state s (Go actor)) (is_there n last goes) ∙ ap (state_after last) ends

  -- ---- its steps

  step_there : (n : ℕ) (before now : State) (kind : Kind) → there n ≡ before → there (suc n) ≡ now → next before (Go actor) ≡ Ok (Went kind, now) → GoesOnAt limits began actor n
  step_there n before now kind here next_is is =
      (kind, subst (λ s. next s (Go actor) ≡ Ok (Went kind, there (suc n))) (sym here) (is ∙ ap (λ s. Ok (Went kind, s)) (sym next_is)))

  -- each of them went on
  pub went_on : (n : ℕ) (now : State) → GoesOn (run limits steps) actor call n now → (k : ℕ) → k < n → GoesOnAt limits began actor k
  went_on n now goes k below =
      let (here, after, kind, earlier, step) = went_at (run limits steps) actor call n now goes k below in
      step_there k here after kind (is_there k here earlier) (is_there (suc k) after (walks earlier step)) step

  -- and where each does, so does the call
  pub goes_there : next (run limits steps) (Begin actor call None) ≡ Ok (Began (run limits steps).begun, run limits began) → (n : ℕ) →
      ((k : ℕ) → k < n → GoesOnAt limits began actor k) → GoesOn (run limits steps) actor call n (there n)
  goes_there first zero on = starts (first ∙ ap (λ s. Ok (Began (run limits steps).begun, s)) (sym (none_more limits began actor)))
  goes_there first (suc n) on = let (kind, step) = on n (omega arith) in walks (goes_there first n (λ k below. on k (omega (arith, below)))) step

-- ---- the operation

-- it runs all the way
pub still_runs : (state : State) (actor : ℕ) (call : Call) (own : Operation) →
    ((first : State) → next state (Begin actor call None) ≡ Ok (Began state.begun, first) → operation_of first actor ≡ Some own) → (n : ℕ) (now : State) → GoesOn state actor call n now →
    (operation : Operation) × (operation_of now actor ≡ Some operation) × IsSame own operation
still_runs state actor call own first n now (starts is) = (own, first now is, record { id = refl; call = refl; opens = refl; access = refl })
still_runs state actor call own first n now (walks {n = m} {before} {kind} earlier is) =
    let (was, runs, same) = still_runs state actor call own first m before earlier in
    let (found, goes, further) = runs_on before actor kind now is was runs in (found, goes, same_trans own was found same further)

-- ---- how many steps were taken

pub steps_so_far : (state : State) (actor : ℕ) (call : Call) (n : ℕ) (now : State) → GoesOn state actor call n now → now.steps ≡ state.steps + (1 + n)
steps_so_far state actor call n now (starts is) = let one = steps_counted state (Begin actor call None) _ now (moved state (Begin actor call None) _ now is) in omega (arith, one)
steps_so_far state actor call n now (walks {n = m} {before} {kind} earlier is) =
    let so_far = steps_so_far state actor call m before earlier in
    let one = steps_counted before (Go actor) (Went kind) now (moved before (Go actor) (Went kind) now is) in
    omega (arith, so_far, one)
