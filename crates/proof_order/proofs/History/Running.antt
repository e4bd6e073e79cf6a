-- Which operations run before and after a step: each keeps its id, its call, its handle to open and its kind.
use Rattle.std.proofs.Common.{◌≡◌, ℕ, suc, ◌-◌, ◌⊎◌, inl, inr, List, ◌∷◌, ◌++◌, set, get_or, Option, Some, None, refl, sym, ap, ◌∙◌, subst, []}
use Rattle.std.proofs.Math.ListN.{get_or-map}
use Rattle.proof_order.specs.Vocabulary.{Call, Reply, End, Operation, action_of, Outcome, Step, State, operation_after, marked, Begins, Ends, Sweeps, GivesUp, Moves, begun_operation, Record, noted}
use Rattle.proof_order.specs.Vocabulary.{told_in, gave_up}
use Rattle.proof_order.specs.Beneath.machine_model.specs.declared.actions.Action.TheVariants as act
use Rattle.proof_order.specs.Beneath.machine_model.specs.declared.steps.Step.TheVariants as step
use Rattle.proof_order.specs.Beneath.machine_model.specs.Moves.{Goes}
use Rattle.proof_order.specs.Beneath.machine_model.proofs.Actors.{mark_one, mark_only, marks_by, after_marks, gone_actors}
use Rattle.proof_order.specs.Beneath.machine_model.proofs.Actors.{begin_actors, go_counts, begin_counts}
use Rattle.proof_order.specs.Beneath.machine_model.proofs.Fates as came
use Rattle.proof_order.specs.Beneath.machine_model.proofs.Fates.{Comes, comes}
use Rattle.proof_generations.proofs.Handles.Running.{one_at, at_place, write_cases, begin_not_running}
use Rattle.proof_order.specs.Facts.{Runs}
use Rattle.proof_order.specs.Running.{IsSame}
use Rattle.proof_order.specs.Beneath.machine_model.proofs.Basics.{actor_at}
use Rattle.proof_order.specs.Beneath.machine_model.proofs.Notes.{noted_ending}

-- with a mark it is the same
pub marked_same : (m : Option ℕ) (operation : Operation) → IsSame operation (mark_one m operation)
marked_same m operation = record {
  id = ap (λ (o : Operation). o.id) (mark_only m operation);
  call = ap (λ (o : Operation). o.call) (mark_only m operation);
  opens = ap (λ (o : Operation). o.opens) (mark_only m operation);
  access = ap (λ (o : Operation). o.access) (mark_only m operation);
}

-- and after its step
pub after_same : (state : State) (m : Option ℕ) (operation : Operation) → IsSame operation (mark_one m (operation_after state operation))
after_same state m operation = let s = marked_same m (operation_after state operation) in record { id = s.id; call = s.call; opens = s.opens; access = s.access }

-- and once it has given up
pub gave_up_same : (operation : Operation) (answer : Reply) → IsSame operation (gave_up operation answer)
gave_up_same operation answer = record { id = refl; call = refl; opens = refl; access = refl }

-- ---- backwards

-- the step begins this operation
pub record IsBegun (state : State) (s : Step) (k : ℕ) (found : Operation) : Type 0 where
  pub call : Call
  pub number : Option ℕ
  pub is_step : s ≡ step.Begin (suc k) call number
  pub is_it : found ≡ begun_operation state call number

ran_of : (state : State) (s : Step) (k : ℕ) (found : Operation) → Comes state s k found → IsBegun state s k found ⊎ ((operation : Operation) × Runs state k operation × IsSame operation found)
ran_of state s k found (came.began call number is d it) = inl (record { call = call; number = number; is_step = is; is_it = it })
ran_of state s k found (came.rested was at same other) = inr (was, at, subst (λ f. IsSame was f) (sym same) (marked_same _ was))
ran_of state s k found (came.went was is at g it) = inr (was, at, subst (λ f. IsSame was f) (sym it) (after_same state _ was))
ran_of state s k found (came.gave was answer is at a it) = inr (was, at, subst (λ f. IsSame was f) (sym it) (gave_up_same was answer))

-- what runs after a step ran before, or begins with it
pub ran_before : (state : State) (s : Step) (o : Outcome) (after : State) → Moves state s o after → (k : ℕ) (found : Operation) → Runs after k found →
    IsBegun state s k found ⊎ ((operation : Operation) × Runs state k operation × IsSame operation found)
ran_before state s o after m k found at_k = ran_of state s k found (comes state s o after m k found at_k)

-- ---- forwards

-- what runs at a place still runs there once some are marked
marked_runs : (m : Option ℕ) (xs : List (Option Operation)) (k : ℕ) (operation : Operation) → get_or xs k None ≡ Some operation →
    (found : Operation) × (get_or (after_marks m xs) k None ≡ Some found) × IsSame operation found
marked_runs None xs k operation at_k = (operation, at_k, record { id = refl; call = refl; opens = refl; access = refl })
marked_runs (Some id) xs k operation at_k =
    (mark_one (Some id) operation, get_or-map (marked id) xs k None ∙ ap (marked id) at_k, marked_same (Some id) operation)

pub same_trans : (a b c : Operation) → IsSame a b → IsSame b c → IsSame a c
same_trans a b c p q = record { id = q.id ∙ p.id; call = q.call ∙ p.call; opens = q.opens ∙ p.opens; access = q.access ∙ p.access }

-- the step is the end of this operation
abbrev pub IsEnded : State → Record → Step → Record → ℕ → Operation → Type 0
IsEnded state past s now k operation =
    (answer : Reply) × (s ≡ step.Go (suc k)) × (action_of state operation ≡ act.End answer) × (now.events ≡ past.events ++ End operation.id answer ∷ [])

-- what runs before a step runs after it, or ends with it
pub runs_on : (state : State) (past : Record) (s : Step) (o : Outcome) (after : State) → Moves state s o after → (k : ℕ) (operation : Operation) → Runs state k operation →
    IsEnded state past s (noted past state.steps (told_in state s)) k operation ⊎ ((found : Operation) × Runs after k found × IsSame operation found)
runs_on state past s o after (Begins {actor} {call} {number} d) k operation at_k = elim (write_cases state.actors (actor - 1) k (Some (begun_operation state call number)) operation at_k) [
  | inl here ↦ absurd (begin_not_running state k actor call number operation d (actor_at actor k (begin_counts state actor call number d) here.0) at_k)
  | inr there ↦ inr (operation, rw begin_actors there.1, record { id = refl; call = refl; opens = refl; access = refl })
]
runs_on state past s o after (Goes {actor} {operation = own} d is a g) k operation at_k = elim (write_cases state.actors (actor - 1) k (Some (operation_after state own)) operation at_k) [
  | inl here ↦
      let at_own = at_place state actor k own (actor_at actor k (go_counts state actor d) here.0) is in
      let (found, at_found, same) = marked_runs (marks_by state (Some own)) (set state.actors (actor - 1) (Some (operation_after state own))) k (operation_after state own) here.1 in
      inr (
        found,
        rw gone_actors at_found,
        subst (λ (x : Operation). IsSame x found) (one_at state k own operation at_own at_k)
            (record { id = same.id; call = same.call; opens = same.opens; access = same.access }),
      )
  | inr there ↦
      let (found, at_found, same) = marked_runs (marks_by state (Some own)) (set state.actors (actor - 1) (Some (operation_after state own))) k operation there.1 in
      inr (found, rw gone_actors at_found, same)
]
runs_on state past s o after (Ends {actor} {operation = own} {answer} d is a) k operation at_k = elim (write_cases state.actors (actor - 1) k None operation at_k) [
  | inl here ↦
      let own_place = actor_at actor k (go_counts state actor d) here.0 in
      let one = one_at state k own operation (at_place state actor k own own_place is) at_k in
      inl (
        answer,
        ap (λ a. step.Go a) own_place,
        subst (λ x. action_of state x ≡ act.End answer) one a,
        ap (λ (r : Record). r.events)
            (noted_ending state past actor own answer is a) ∙ ap (λ (x : Operation). past.events ++ End x.id answer ∷ []) one,
      )
  | inr there ↦ inr (operation, there.1, record { id = refl; call = refl; opens = refl; access = refl })
]
runs_on state past s o after (GivesUp {actor} {operation = own} {answer} d is a) k operation at_k = elim (write_cases state.actors (actor - 1) k (Some (gave_up own answer)) operation at_k) [
  | inl here ↦
      let at_own = at_place state actor k own (actor_at actor k (go_counts state actor d) here.0) is in
      inr (gave_up own answer, here.1, subst (λ (x : Operation). IsSame x (gave_up own answer)) (one_at state k own operation at_own at_k) (gave_up_same own answer))
  | inr there ↦ inr (operation, there.1, record { id = refl; call = refl; opens = refl; access = refl })
]
runs_on state past s o after (Sweeps spent) k operation at_k = inr (operation, at_k, record { id = refl; call = refl; opens = refl; access = refl })
