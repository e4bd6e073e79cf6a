-- What a step does to the running operations.
use Rattle.std.specs.Prelude.{◌≤◌, ◌&&◌, nat_lt, nat_le}
use Rattle.std.proofs.Common.{lt-ltb, le-leb, ◌≡◌, ℕ, suc, ◌-◌, ◌==◌, true, Option, Some, None, List, map, set, get_or, ◌<◌, ◌∙◌, refl, sym, ap, subst, if◌then◌else◌, arith}
use native.Mathlib.Decide.{ℕ_discrete}
use Rattle.std.proofs.Math.ListN.{get_or-map}
use Rattle.std.proofs.lemmas.Option.{none-some, same_Some}
use Rattle.history.specs.declared.calls.Call.{Call}
use Rattle.history.specs.declared.replies.Reply.{Reply}
use Rattle.machine_model.specs.Beneath.slot_arena.specs.declared.refs.Ref.{Ref}
use Rattle.machine_model.specs.declared.operations.Operation.{Operation}
use Rattle.machine_model.specs.declared.actions.Action.{Action}
use Rattle.machine_model.specs.declared.actions.Action.TheVariants as act
use Rattle.machine_model.specs.declared.roots.Descriptor.{Descriptor}
use Rattle.machine_model.specs.declared.steps.Outcome.{Outcome}
use Rattle.machine_model.specs.declared.steps.Step.{Step}
use Rattle.machine_model.specs.declared.steps.Step.TheVariants as step
use Rattle.machine_model.specs.States.{State, operation_of, word_at}
use Rattle.machine_model.specs.Operations.{action_of}
use Rattle.machine_model.specs.Calls.{handle_of}
use Rattle.machine_model.specs.Swapping.{is_carried_out}
use Rattle.machine_model.specs.Acting.{acted, aborted, offered, completed, new_root_taken, marked, operation_after, gone}
use Rattle.machine_model.specs.Machine.{with_begin, begin_denial, go_denial, is_actor}
use Rattle.machine_model.specs.GivingUp.{gave_up}
use Rattle.machine_model.proofs.Found.{found_elsewhere, found_here}
use Rattle.machine_model.specs.Moves.{Begins, Goes, Ends, Sweeps, GivesUp}
use Rattle.machine_model.specs.Moves.{Moves}

-- a number from 1 to the limit is that of an actor
pub actor_by : (actor most : ℕ) → 1 ≤ actor → actor ≤ most → (nat_lt 0 actor && nat_le actor most) ≡ true
actor_by actor most low high = grind (arith, low, high, lt-ltb, le-leb)

-- the id of the operation that an action marks, if it does: it carries its offer out
abbrev pub marks_of : State → ℕ → Action → Option ℕ
marks_of state handle (act.Complete offer main) = if is_carried_out (word_at state handle) offer main then Some offer.operation else None
marks_of state handle action = None

-- the running operations once that of this id is marked
abbrev pub after_marks : Option ℕ → List (Option Operation) → List (Option Operation)
after_marks None xs = xs
after_marks (Some id) xs = map (marked id) xs

-- an operation once that of this id is marked
abbrev pub mark_one : Option ℕ → Operation → Operation
mark_one None operation = operation
mark_one (Some id) operation = if operation.id == id then record operation { is_marked = true } else operation

-- it changes nothing but the mark
pub mark_only : (m : Option ℕ) (operation : Operation) → mark_one m operation ≡ record operation { is_marked = (mark_one m operation).is_marked }
mark_only m operation = grind arith

-- ---- the list of what all actors run

-- completing marks the operation that offered, where it carries the offer out
completed_actors : (state : State) (handle : ℕ) (offer : Descriptor) (main : Ref) →
    (completed state handle offer main).actors ≡ after_marks (marks_of state handle (act.Complete offer main)) state.actors
completed_actors state handle offer main = grind arith

-- taking an offer back leaves the running operations
aborted_actors : (state : State) (handle : ℕ) (offer : Descriptor) → (aborted state handle offer).actors ≡ state.actors
aborted_actors state handle offer = grind arith

-- so does offering
offered_actors : (state : State) (handle : ℕ) (offer : Descriptor) → (offered state handle offer).actors ≡ state.actors
offered_actors state handle offer = grind arith

-- and making a root
root_taken_actors : (state : State) (main : Ref) (made : Option Ref) → (new_root_taken state main made).actors ≡ state.actors
root_taken_actors state main None = refl
root_taken_actors state main (Some made) = refl

-- an action leaves the running operations, but for marks
pub acted_actors : (state : State) (handle : ℕ) (action : Action) → (acted state handle action).actors ≡ after_marks (marks_of state handle action) state.actors
acted_actors state handle (act.Abort offer) = aborted_actors state handle offer
acted_actors state handle (act.Offer offer) = offered_actors state handle offer
acted_actors state handle (act.Complete offer main) = completed_actors state handle offer main
acted_actors state handle (act.MakeRoot main) = root_taken_actors state main _
acted_actors state handle action = refl

-- the id of the operation that a step of this operation marks, if it does
abbrev pub marks_by : State → Option Operation → Option ℕ
marks_by state None = None
marks_by state (Some operation) = marks_of state (handle_of operation.call) (action_of state operation)

-- a step of an operation that goes on puts in what it becomes, but for marks
pub gone_actors : (state : State) (actor : ℕ) (operation : Operation) →
    (gone state actor operation).actors ≡ after_marks (marks_by state (Some operation)) (set state.actors (actor - 1) (Some (operation_after state operation)))
gone_actors state actor operation = acted_actors _ (handle_of operation.call) (action_of state operation)

-- a begin puts the new operation in
pub begin_actors : (state : State) (actor : ℕ) (call : Call) (operation : Operation) →
    (with_begin state actor call operation).actors ≡ set state.actors (actor - 1) (Some operation)
begin_actors state actor call operation = grind arith

-- ---- what one actor runs after a step, by the one before

-- what an actor runs once some are marked it ran before
from_marked : (id : ℕ) (before : Option Operation) (found : Operation) → marked id before ≡ Some found →
    (operation : Operation) × (before ≡ Some operation) × (found ≡ mark_one (Some id) operation)
from_marked id None found e = absurd (none-some found e)
from_marked id (Some operation) found e = (operation, refl, sym (same_Some _ _ e))

-- the same of its place in the list
pub found_marked : (m : Option ℕ) (xs : List (Option Operation)) (k : ℕ) (found : Operation) → get_or (after_marks m xs) k None ≡ Some found →
    (operation : Operation) × (get_or xs k None ≡ Some operation) × (found ≡ mark_one m operation)
found_marked None xs k found e = (found, e, refl)
found_marked (Some id) xs k found e = from_marked id (get_or xs k None) found (sym (get_or-map (marked id) xs k None) ∙ e)

-- the step is one of this actor
abbrev pub IsOf : ℕ → Step → Type 0
IsOf actor (step.Begin other call number) = other ≡ actor
IsOf actor (step.Go other) = other ≡ actor
IsOf actor step.Sweep = ⊥
IsOf actor (step.GiveUp other) = other ≡ actor

-- a step is of an actor or not
pub is_of : (actor : ℕ) (s : Step) → Dec (IsOf actor s)
is_of actor (step.Begin other call number) = ℕ_discrete other actor
is_of actor (step.Go other) = ℕ_discrete other actor
is_of actor step.Sweep = no (λ h. h)
is_of actor (step.GiveUp other) = ℕ_discrete other actor

-- a step that isn't the actor's isn't its next one
pub not_own_go : (actor : ℕ) (s : Step) → (IsOf actor s → ⊥) → s ≡ step.Go actor → ⊥
not_own_go actor s other e = other (subst (λ x. IsOf actor x) (sym e) refl)

-- the id of the operation that a step marks, if it does
abbrev pub marks_in : State → Step → Option ℕ
marks_in state (step.Begin actor call number) = None
marks_in state (step.Go actor) = marks_by state (operation_of state actor)
marks_in state step.Sweep = None
marks_in state (step.GiveUp actor) = None

-- an actor whose step is taken isn't 0
pub begin_counts : (state : State) (actor : ℕ) (call : Call) (number : Option ℕ) → begin_denial state actor call number ≡ None → 0 < actor
begin_counts state actor call number d = grind arith

-- it is one of the machine's
pub begin_actor : (state : State) (actor : ℕ) (call : Call) (number : Option ℕ) → begin_denial state actor call number ≡ None → is_actor state actor ≡ true
begin_actor state actor call number d = grind arith

-- who goes on isn't 0 either
pub go_counts : (state : State) (actor : ℕ) → go_denial state actor ≡ None → 0 < actor
go_counts state actor d = grind arith

-- another actor has another place in the list
apart : (actor k : ℕ) → 0 < actor → (actor ≡ suc k → ⊥) → k ≡ actor - 1 → ⊥
apart actor k pos other e = other (omega arith)

-- after a write at another actor's place the same is found
found_of_other : (xs : List (Option Operation)) (actor k : ℕ) (put : Option Operation) → 0 < actor → (actor ≡ suc k → ⊥) →
    get_or xs k None ≡ get_or (set xs (actor - 1) put) k None
found_of_other xs actor k put pos other = sym (found_elsewhere xs (actor - 1) k put (apart actor k pos other))

-- what an actor runs after a step of another one, or of the sweep, it ran before, but for marks
pub of_others : (state : State) (s : Step) (o : Outcome) (after : State) → Moves state s o after → (k : ℕ) → (IsOf (suc k) s → ⊥) →
    (found : Operation) → get_or after.actors k None ≡ Some found →
    (operation : Operation) × (get_or state.actors k None ≡ Some operation) × (found ≡ mark_one (marks_in state s) operation)
of_others state s o after (Begins {actor} {call} {number} d) k other found h =
    (found, found_of_other state.actors actor k _ (begin_counts state actor call number d) other ∙ (rw begin_actors at h), refl)
of_others state s o after (Goes {actor} {operation} d is a g) k other found h =
    let (was, at_was, same) = found_marked (marks_by state (Some operation)) _ k found (rw gone_actors at h) in
    (was, found_of_other state.actors actor k _ (go_counts state actor d) other ∙ at_was, same ∙ ap (λ x. mark_one (marks_by state x) was) (sym is))
of_others state s o after (Ends {actor} {operation} d is a) k other found h =
    let none = ap (λ x. marks_by state x) is ∙ ap (λ x. marks_of state (handle_of operation.call) x) a in
    (found, found_of_other state.actors actor k _ (go_counts state actor d) other ∙ h, ap (λ m. mark_one m found) (sym none))
of_others state s o after (Sweeps spent) k other found h = (found, h, refl)
of_others state s o after (GivesUp {actor} {operation} d is a) k other found h = (found, found_of_other state.actors actor k _ (go_counts state actor d) other ∙ h, refl)

-- after a write at its own place an actor runs what was put there
found_of_own : (xs : List (Option Operation)) (actor k : ℕ) (put : Option Operation) (found : Operation) → actor ≡ suc k →
    get_or (set xs (actor - 1) put) k None ≡ Some found → put ≡ Some found
found_of_own xs actor k put found own e =
    let same : k ≡ actor - 1 = omega arith in
    found_here xs (actor - 1) put found (rw same at e)

-- what the actor runs after its step is what the step makes of its operation, but for marks
pub of_itself : (state : State) (actor : ℕ) (operation : Operation) (k : ℕ) → actor ≡ suc k → (found : Operation) →
    get_or (gone state actor operation).actors k None ≡ Some found → found ≡ mark_one (marks_by state (Some operation)) (operation_after state operation)
of_itself state actor operation k own found h =
    let (was, at_was, same) = found_marked (marks_by state (Some operation)) _ k found (rw gone_actors at h) in
    let put = found_of_own state.actors actor k _ was own at_was in
    same ∙ ap (λ x. mark_one (marks_by state (Some operation)) x) (sym (same_Some _ _ put))

-- what the actor runs after its begin is what begins
pub of_begin : (state : State) (actor : ℕ) (call : Call) (operation : Operation) (k : ℕ) → actor ≡ suc k → (found : Operation) →
    get_or (with_begin state actor call operation).actors k None ≡ Some found → found ≡ operation
of_begin state actor call operation k own found h =
    sym (same_Some _ _ (found_of_own state.actors actor k (Some operation) found own (rw begin_actors at h)))

-- after its end it runs nothing
pub of_end : (state : State) (actor : ℕ) (k : ℕ) → actor ≡ suc k → (found : Operation) → get_or (set state.actors (actor - 1) None) k None ≡ Some found → ⊥
of_end state actor k own found h = none-some found (found_of_own state.actors actor k None found own h)

-- and once its operation has given up, that one so
pub of_giving_up : (state : State) (actor : ℕ) (operation : Operation) (answer : Reply) (k : ℕ) → actor ≡ suc k → (found : Operation) →
    get_or (set state.actors (actor - 1) (Some (gave_up operation answer))) k None ≡ Some found → gave_up operation answer ≡ found
of_giving_up state actor operation answer k own found h = same_Some _ _ (found_of_own state.actors actor k (Some (gave_up operation answer)) found own h)
