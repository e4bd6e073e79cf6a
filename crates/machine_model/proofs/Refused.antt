-- An operation that is refused for want of slots found none in its step before, or gave up.
use Rattle.std.proofs.Common.{◌≡◌, ℕ, zero, suc, ◌+◌, ◌⊎◌, List, [], ◌∷◌, ◌++◌, Contains, Option, Some, None, Ok, Err, get_or, inl, inr, refl, sym, ap, subst, ◌∙◌, append_assoc, arith}
use Rattle.std.proofs.lemmas.List.Elements.{Contains-push_cases}
use Rattle.std.proofs.lemmas.Option.{none-some, same_Some}
use Rattle.history.specs.declared.replies.Reply.TheVariants as reply
use Rattle.machine_model.specs.Beneath.ctrie_base.specs.declared.refusals.Refusal.{Refusal}
use Rattle.machine_model.specs.declared.operations.Operation.{Operation}
use Rattle.machine_model.specs.declared.steps.Bounds.{Bounds}
use Rattle.machine_model.specs.declared.steps.Outcome.{Outcome}
use Rattle.machine_model.specs.declared.steps.Outcome.TheVariants as outcome
use Rattle.machine_model.specs.declared.steps.Step.{Step}
use Rattle.machine_model.specs.declared.steps.Step.TheVariants as step
use Rattle.machine_model.specs.States.{State, first_state, operation_of}
use Rattle.machine_model.specs.Operations.{action_of}
use Rattle.machine_model.specs.Acting.{operation_after}
use Rattle.machine_model.specs.Machine.{Answer, next, state_after, go_denial, run, run_from}
use Rattle.machine_model.specs.Laws.{FindsNoSlot, GaveUp, RefusedForWantAlone}
use Rattle.machine_model.specs.Taking.{ReadersNeverRefused}
use Rattle.machine_model.proofs.Readers.{makes_nothing}
use Rattle.machine_model.proofs.Along.{run_push, by_last}
use Rattle.machine_model.proofs.Moves.{moves, moved, ending, allowed_taken}
use Rattle.machine_model.specs.Moves.{Begins, Goes, Ends, Sweeps, GivesUp}
use Rattle.machine_model.specs.Moves.{Moves, GoesOn, MovesIfTaken, begun_operation, IsTaken}
use Rattle.machine_model.proofs.Frames.{limits_kept, steps_counted}
use Rattle.machine_model.proofs.Actors.{IsOf, is_of, not_own_go, mark_one, mark_only, marks_by, marks_in, of_others, of_itself, of_begin, of_end, of_giving_up}
use Rattle.machine_model.proofs.Found.{none_found}
use Rattle.machine_model.proofs.Refusals.{IsRefusal, first_refusal, refusal, end_line}

-- where nothing denies an actor's step after another step, nothing did before it
allowed_before : (state after : State) (actor : ℕ) (operation : Operation) → after.limits ≡ state.limits → after.steps ≡ state.steps + 1 →
    operation_of state actor ≡ Some operation → go_denial after actor ≡ None → go_denial state actor ≡ None
allowed_before state after actor operation l n e d = grind arith

-- the step of the actor before the end of these steps found no free slot for this operation, whose handle was of the same kind
abbrev pub FoundNoneFor : Bounds → List Step → ℕ → Operation → Type 0
FoundNoneFor limits steps actor operation =
    (before between : List Step) × (steps ≡ before ++ step.Go actor ∷ between) × ¬ Contains between (step.Go actor)
    × ((found : FindsNoSlot (run limits before) actor operation.id) × (found.0.access ≡ operation.access))

-- or it gave up
abbrev pub RefusedIn : Bounds → List Step → ℕ → Operation → Type 0
RefusedIn limits steps actor operation = FoundNoneFor limits steps actor operation ⊎ GaveUp limits steps actor operation.id

-- each operation that is about to end for want of slots was so refused, if nothing denies its end
abbrev pub AllRefusedIn : Bounds → List Step → State → Type 0
AllRefusedIn limits steps state =
    (k : ℕ) (operation : Operation) → get_or state.actors k None ≡ Some operation → IsRefusal operation.line → go_denial state (suc k) ≡ None →
    RefusedIn limits steps (suc k) operation

-- one more step that isn't the actor's next one
still_without : (actor : ℕ) (between : List Step) (s : Step) → (s ≡ step.Go actor → ⊥) → ¬ Contains between (step.Go actor) → ¬ Contains (between ++ s ∷ []) (step.Go actor)
still_without actor between s other without c = elim (Contains-push_cases between s (step.Go actor) c) [ inl inside ↦ without inside | inr last ↦ other last ]

-- a step that isn't the actor's next one may follow
refused_longer : (limits : Bounds) (steps : List Step) (actor : ℕ) (operation : Operation) (s : Step) → (s ≡ step.Go actor → ⊥) → RefusedIn limits steps actor operation →
    RefusedIn limits (steps ++ s ∷ []) actor operation
refused_longer limits steps actor operation s other (inl (before, between, e, without, finds)) =
    inl (before, between ++ s ∷ [], ap (λ l. l ++ s ∷ []) e ∙ append_assoc before (step.Go actor ∷ between) (s ∷ []), still_without actor between s other without, finds)
refused_longer limits steps actor operation s other (inr (before, between, e, without, runs)) =
    inr (before, between ++ s ∷ [], ap (λ l. l ++ s ∷ []) e ∙ append_assoc before (step.GiveUp actor ∷ between) (s ∷ []), still_without actor between s other without, runs)

-- no step stands in no steps
none_contained : (s : Step) → ¬ Contains [] s
none_contained s (k, inside, at_k) = omega arith

-- what follows from the steps so far, for one more
module _ (limits : Bounds) (steps : List Step) (h : AllRefusedIn limits steps (run limits steps)) where
  -- another actor's step leaves the operation as it was
  after_other : (s : Step) (o : Outcome) (after : State) → Moves (run limits steps) s o after → (k : ℕ) → (IsOf (suc k) s → ⊥) →
      (operation : Operation) → get_or after.actors k None ≡ Some operation → IsRefusal operation.line → go_denial after (suc k) ≡ None →
      RefusedIn limits (steps ++ s ∷ []) (suc k) operation
  after_other s o after m k other operation found r allowed =
      let (was, at_was, same) = of_others (run limits steps) s o after m k other operation found in
      let l = limits_kept (run limits steps) s o after m in
      let n = steps_counted (run limits steps) s o after m in
      let before = allowed_before (run limits steps) after (suc k) was l n at_was allowed in
      let is = same ∙ mark_only (marks_in (run limits steps) s) was in
      rw is (refused_longer limits steps (suc k) was s (not_own_go (suc k) s other) (h k was at_was (rw is at r) before))

  -- a denied step isn't the actor's
  after_denied : (s : Step) (why : Refusal) → next (run limits steps) s ≡ Err why → AllRefusedIn limits (steps ++ s ∷ []) (run limits steps)
  after_denied s why denied k operation found r allowed =
      refused_longer limits steps (suc k) operation s
      (λ e. subst (λ a. IsTaken a) (sym (ap (λ x. next (run limits steps) x) e) ∙ denied) (allowed_taken (run limits steps) (suc k) operation allowed found))
      (h k operation found r allowed)

-- the step that leads there was to make a node, and no slot was free
own_step : (state : State) (k : ℕ) (m : Option ℕ) (before operation : Operation) → operation_of state (suc k) ≡ Some before →
    GoesOn (action_of state before) → operation ≡ mark_one m (operation_after state before) → IsRefusal operation.line →
    (found : FindsNoSlot state (suc k) operation.id) × (found.0.access ≡ operation.access)
own_step state k m before operation found g same r =
    let is = same ∙ mark_only m (operation_after state before) in
    let wants = refusal state before before.line g (rw is at r) in
    ((before, found, sym (ap (λ o. o.id) is), wants.0, wants.1), sym (ap (λ (o : Operation). o.access) is))

-- one more step that is taken
after_move : (limits : Bounds) (steps : List Step) → AllRefusedIn limits steps (run limits steps) → (s : Step) (o : Outcome) (after : State) →
    Moves (run limits steps) s o after → (k : ℕ) → Dec (IsOf (suc k) s) →
    (operation : Operation) → get_or after.actors k None ≡ Some operation → IsRefusal operation.line → go_denial after (suc k) ≡ None →
    RefusedIn limits (steps ++ s ∷ []) (suc k) operation
after_move limits steps h s o after m k (no other) operation found r allowed = after_other limits steps h s o after m k other operation found r allowed
after_move limits steps h s o after (Begins {actor} {call} {number} d) k (yes own) operation found r allowed =
    let is = of_begin (run limits steps) actor call (begun_operation (run limits steps) call number) k own operation found in
    absurd (first_refusal call (rw is at r))
after_move limits steps h s o after (Goes {actor} {operation = was} d is a g) k (yes own) operation found r allowed =
    let same = of_itself (run limits steps) actor was k own operation found in
    let finds = own_step (run limits steps) k (marks_by (run limits steps) (Some was)) was operation (rw own at is) (rw a g) same r in
    inl (steps, [], ap (λ x. steps ++ step.Go x ∷ []) own, none_contained _, finds)
after_move limits steps h s o after (Ends {actor} d is a) k (yes own) operation found r allowed = absurd (of_end (run limits steps) actor k own operation found)
after_move limits steps h s o after (Sweeps spent) k (yes own) operation found r allowed = absurd own
after_move limits steps h s o after (GivesUp {actor} {operation = was} {answer} d is a) k (yes own) operation found r allowed =
    let same = of_giving_up (run limits steps) actor was answer k own operation found in
    inr (steps, [], ap (λ x. steps ++ step.GiveUp x ∷ []) own, none_contained _, (was, rw own at is, ap (λ (o : Operation). o.id) same))

-- one more step, taken or denied
after_answer : (limits : Bounds) (steps : List Step) → AllRefusedIn limits steps (run limits steps) → (s : Step) (answer : Answer) →
    next (run limits steps) s ≡ answer → MovesIfTaken (run limits steps) s answer → AllRefusedIn limits (steps ++ s ∷ []) (state_after (run limits steps) answer)
after_answer limits steps h s (Ok done) e m = λ k. after_move limits steps h s done.0 done.1 m k (is_of (suc k) s)
after_answer limits steps h s (Err why) e m = after_denied limits steps h s why e

-- one more step
one_more : (limits : Bounds) (steps : List Step) (s : Step) → AllRefusedIn limits steps (run limits steps) →
    AllRefusedIn limits (steps ++ s ∷ []) (run limits (steps ++ s ∷ []))
one_more limits steps s h =
    subst (λ state. AllRefusedIn limits (steps ++ s ∷ []) state) (sym (run_push (first_state limits) steps s))
    (after_answer limits steps h s (next (run limits steps) s) refl (moves (run limits steps) s))

-- at first no operation is about to end
none_at_first : (limits : Bounds) → AllRefusedIn limits [] (run limits [])
unfolding first_state run_from
none_at_first limits k operation found r allowed = absurd (none_found limits.actors k operation found)

-- after every run
pub all_refused_in : (limits : Bounds) (steps : List Step) → AllRefusedIn limits steps (run limits steps)
all_refused_in limits steps = by_last (λ l. AllRefusedIn limits l (run limits l)) (none_at_first limits) (one_more limits) steps

-- for the actor whose operation ends
pub refused_in : (limits : Bounds) (steps : List Step) (actor : ℕ) (operation : Operation) → operation_of (run limits steps) actor ≡ Some operation →
    IsRefusal operation.line → go_denial (run limits steps) actor ≡ None → RefusedIn limits steps actor operation
refused_in limits steps zero operation found r allowed = absurd (none-some operation found)
refused_in limits steps (suc k) operation found r allowed = all_refused_in limits steps k operation found r allowed

-- for an end for want of slots
pub refused_at : (limits : Bounds) (steps : List Step) (actor id : ℕ) (after : State) →
    next (run limits steps) (step.Go actor) ≡ Ok (outcome.Ended id reply.NoSlots, after) →
    (operation : Operation) × (operation_of (run limits steps) actor ≡ Some operation) × (operation.id ≡ id) × RefusedIn limits steps actor operation
refused_at limits steps actor id after e =
    let (operation, found, is, ends, allowed) = ending (run limits steps) actor id reply.NoSlots after (moved (run limits steps) (step.Go actor) _ after e) in
    (operation, found, is, refused_in limits steps actor operation found (end_line (run limits steps) operation operation.line ends) allowed)

pub refused_alone : RefusedForWantAlone
refused_alone limits steps actor id after e =
    let (operation, found, is, refused) = refused_at limits steps actor id after e in
    elim refused [
      | inl (before, between, same, without, finds) ↦ inl (before, between, same, without, subst (λ i. FindsNoSlot (run limits before) actor i) is finds.0)
      | inr gave ↦ inr (subst (λ i. GaveUp limits steps actor i) is gave)
    ]

-- an operation on a read-only handle makes no node, so it is refused only where it gave up
pub readers_never_refused : ReadersNeverRefused
readers_never_refused limits steps actor id operation answer after is a e kept want =
    let ends = subst (λ x. next (run limits steps) (step.Go actor) ≡ Ok (outcome.Ended id x, after)) want e in
    let (found, at, same, refused) = refused_at limits steps actor id after ends in
    let one = same_Some operation found (sym is ∙ at) in
    elim refused [
      | inl (before, between, split, without, finds) ↦
          makes_nothing limits before actor finds.0.0 finds.0.1 (finds.1 ∙ sym (ap (λ (o : Operation). o.access) one) ∙ a) finds.0.3
      | inr gave ↦ kept (subst (λ i. GaveUp limits steps actor i) same gave)
    ]
