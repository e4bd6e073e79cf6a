-- The run of a list of steps, and of steps of one actor behind it that are all taken.
use Rattle.std.proofs.Common.{◌≡◌, ℕ, zero, suc, cond, ◌+◌, ◌-◌, ◌<◌, ◌≤◌, List, [], ◌∷◌, ◌++◌, length, get_or, replicate, true, refl, sym, ap, ap₂, ◌∙◌, append_assoc, arith}
use Rattle.std.proofs.lemmas.List.{append-nil, length-append, length-replicate, replicate-append-replicate, get_or-append_right, get_or-replicate}
use Rattle.proof_obstruction_free.specs.Vocabulary.{Bounds, Step, is_taken_step, next, next_state, run, taken_from, taken_steps, State, first_state, Record, first_record, next_record, record_of}
use Rattle.proof_obstruction_free.specs.Vocabulary.{last_of, states_of}
use Rattle.proof_obstruction_free.specs.Beneath.machine_model.specs.declared.steps.Step.TheVariants as step
use Rattle.proof_obstruction_free.specs.Beneath.machine_model.proofs.Along.{run_push}
use Rattle.proof_obstruction_free.specs.Beneath.machine_model.proofs.Recorded.{record_push}
use Rattle.proof_obstruction_free.specs.Beneath.machine_model.proofs.Times.{run_ends}
use Rattle.proof_obstruction_free.specs.Beneath.proof_shape.specs.Sites.Nodes.{steps_of}
use Rattle.proof_obstruction_free.specs.Beneath.proof_shape.proofs.Sites.Fixed.{taken-append, states_of-append}
use Rattle.proof_obstruction_free.specs.Laws.{alone_after}

-- ---- one step more

more : (n : ℕ) (s : Step) (xs : List Step) → xs ++ replicate (suc n) s ≡ (xs ++ replicate n s) ++ s ∷ []
more n s xs =
    let one : n + 1 ≡ suc n = omega arith in
    ap (λ l. xs ++ l) (sym (replicate-append-replicate n 1 s ∙ ap (λ m. replicate m s) one)) ∙ sym (append_assoc xs (replicate n s) (s ∷ []))

pub one_more : (limits : Bounds) (steps : List Step) (actor n : ℕ) → alone_after limits steps actor (suc n) ≡ next_state (alone_after limits steps actor n) (step.Go actor)
one_more limits steps actor n = ap (run limits) (more n (step.Go actor) steps) ∙ run_push (first_state limits) (steps ++ replicate n (step.Go actor)) (step.Go actor)

-- and in what is recorded
abbrev pub record_after : Bounds → List Step → ℕ → ℕ → Record
record_after limits steps actor n = record_of limits (steps ++ replicate n (step.Go actor))

pub one_more_recorded : (limits : Bounds) (steps : List Step) (actor n : ℕ) →
    record_after limits steps actor (suc n) ≡ next_record (alone_after limits steps actor n) (record_after limits steps actor n) (step.Go actor)
one_more_recorded limits steps actor n =
    ap (record_of limits) (more n (step.Go actor) steps) ∙ record_push (first_state limits) (first_record limits) (steps ++ replicate n (step.Go actor)) (step.Go actor)

pub none_more : (limits : Bounds) (steps : List Step) (actor : ℕ) → alone_after limits steps actor 0 ≡ run limits steps
none_more limits steps actor = ap (run limits) (append-nil steps)

taken_one : (state : State) (s : Step) → is_taken_step (next state s) ≡ true → taken_from state (s ∷ []) ≡ s ∷ []
unfolding taken_from
taken_one state s e = ap (λ b. cond b (s ∷ []) []) e

module _ (limits : Bounds) (steps : List Step) (actor n : ℕ) (each : (k : ℕ) → k < n → is_taken_step (next (alone_after limits steps actor k) (step.Go actor)) ≡ true) where
  abbrev pub all : List Step
  all = steps ++ replicate n (step.Go actor)

  taken_more : (k : ℕ) → k ≤ n → taken_steps limits (steps ++ replicate k (step.Go actor)) ≡ taken_steps limits steps ++ replicate k (step.Go actor)
  taken_more zero le = ap (taken_steps limits) (append-nil steps) ∙ sym (append-nil (taken_steps limits steps))
  taken_more (suc k) le =
      ap (taken_steps limits) (more k (step.Go actor) steps)
      ∙ taken-append (first_state limits) (steps ++ replicate k (step.Go actor)) (step.Go actor ∷ [])
      ∙ ap₂ (λ xs ys. xs ++ ys) (taken_more k (omega (arith, le))) (taken_one (alone_after limits steps actor k) (step.Go actor) (each k (omega (arith, le))))
      ∙ sym (more k (step.Go actor) (taken_steps limits steps))

  last_after : (k : ℕ) → k ≤ n → last_of limits (steps ++ replicate k (step.Go actor)) ≡ last_of limits steps + k
  last_after k le =
      ap length (taken_more k le) ∙ length-append (taken_steps limits steps) (replicate k (step.Go actor)) ∙ ap (λ m. last_of limits steps + m) (length-replicate k (step.Go actor))

  pub last_all : last_of limits all ≡ last_of limits steps + n
  last_all = last_after n (omega arith)

  -- the state before each of the actor's own steps
  pub state_at : (k : ℕ) → k ≤ n → states_of limits all (last_of limits steps + k) ≡ alone_after limits steps actor k
  state_at k le =
      let sum : k + (n - k) ≡ n = omega (arith, le) in
      let both : all ≡ (steps ++ replicate k (step.Go actor)) ++ replicate (n - k) (step.Go actor) =
      ap (λ l. steps ++ l) (ap (λ m. replicate m (step.Go actor)) (sym sum) ∙ sym (replicate-append-replicate k (n - k) (step.Go actor)))
      ∙ sym (append_assoc steps (replicate k (step.Go actor)) (replicate (n - k) (step.Go actor))) in
      ap₂ (λ l t. states_of limits l t) both (sym (last_after k le))
      ∙ states_of-append limits (steps ++ replicate k (step.Go actor)) (replicate (n - k) (step.Go actor)) (last_of limits (steps ++ replicate k (step.Go actor))) (omega arith)
      ∙ run_ends limits (steps ++ replicate k (step.Go actor))

  pub step_at : (t : ℕ) → last_of limits steps ≤ t → t < last_of limits all → steps_of limits all t ≡ step.Go actor
  step_at t from before =
      let short : t - last_of limits steps < n = omega (arith, from, before, last_all) in
      ap (λ l. get_or l t step.Sweep) (taken_more n (omega arith))
      ∙ get_or-append_right (taken_steps limits steps) (replicate n (step.Go actor)) (last_of limits steps) t step.Sweep refl from
      ∙ get_or-replicate n (t - last_of limits steps) (step.Go actor) step.Sweep short
