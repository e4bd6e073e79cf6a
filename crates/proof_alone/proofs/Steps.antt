-- One step of a call: its begin, a step that goes on, and its end.
use Rattle.std.specs.Prelude.{◌≡◌, ◌<◌, ◌-◌, ℕ, zero, suc, Bool, true, false, length, Option, Some, None, Ok}
use Rattle.std.proofs.Common.{get_or, set, refl, sym, ap, subst, arith, ◌∙◌}
use Rattle.std.proofs.lemmas.Bool.{true≢false}
use Rattle.std.proofs.lemmas.List.{get_or-set_same}
use Rattle.std.proofs.lemmas.Option.{none-some, same_Some}
use Rattle.proof_alone.specs.Vocabulary.{Kind, Call, Reply, Closed, Operation, Outcome, Began, Ended, Went, Step, Go, gone, operation_after, settled, Answer, begin_denial, begin_unless}
use Rattle.proof_alone.specs.Vocabulary.{begun_operation, next, state_after, with_begin, Begins, Ends, Moves, Sweeps, GivesUp, State, operation_of, IsSame}
use Rattle.proof_alone.specs.Beneath.machine_model.specs.declared.steps.Step.TheVariants.{Begin}
use Rattle.proof_alone.specs.Beneath.machine_model.specs.Moves.{Goes}
use Rattle.proof_alone.specs.Beneath.machine_model.proofs.Actors.{begin_actor, begin_actors, begin_counts, mark_one, marks_by}
use Rattle.proof_alone.specs.Beneath.machine_model.proofs.Moves.{moved}
use Rattle.proof_alone.specs.Beneath.proof_commits.proofs.Known.StepsAt.{after_mark, go_own}
use Rattle.proof_alone.specs.Beneath.proof_order.proofs.History.Running.{after_same}

-- ---- answers

-- one step leads to one state
pub one_state : (o p : Outcome) (x y : State) → ◌≡◌ {A = Answer} (Ok (o, x)) (Ok (p, y)) → x ≡ y
one_state o p x y e = ap (state_after x) e

-- to one answer
pub one_answer : (id also : ℕ) (answer other : Reply) (x y : State) → ◌≡◌ {A = Answer} (Ok (Ended id answer, x)) (Ok (Ended also other, y)) → answer ≡ other
one_answer id also answer other x y e = ap said e
  where
    said : Answer → Reply
    said (Ok (Ended own reply, state)) = reply
    said denied = Closed

-- and ends its operation or doesn't
pub end_or_on : (id : ℕ) (answer : Reply) (x : State) (kind : Kind) (y : State) → ◌≡◌ {A = Answer} (Ok (Ended id answer, x)) (Ok (Went kind, y)) → ⊥
end_or_on id answer x kind y e = true≢false (ap is_end e)
  where
    is_end : Answer → Bool
    is_end (Ok (Ended id answer, state)) = true
    is_end other = false

-- ---- the begin

-- the state behind it
abbrev pub begun : State → ℕ → Call → State
begun state actor call = settled state (with_begin state actor call (begun_operation state call None))

-- where nothing denies it, it is taken
pub begins : (state : State) (actor : ℕ) (call : Call) → begin_denial state actor call None ≡ None → next state (Begin actor call None) ≡ Ok (Began state.begun, begun state actor call)
unfolding next
begins state actor call allowed = ap (begin_unless state actor call None) allowed

-- the actor has a place among as many as there are
place_of : (state : State) (k : ℕ) (call : Call) → length state.actors ≡ state.limits.actors → begin_denial state (suc k) call None ≡ None → k < length state.actors
place_of state k call sizes allowed = let one = begin_actor state (suc k) call None allowed in grind (arith, one, sizes)

-- so the operation runs then
pub runs_then : (state : State) (actor : ℕ) (call : Call) → length state.actors ≡ state.limits.actors → begin_denial state actor call None ≡ None →
    operation_of (begun state actor call) actor ≡ Some (begun_operation state call None)
runs_then state zero call sizes allowed = absurd (let counts = begin_counts state zero call None allowed in omega (arith, counts))
runs_then state (suc k) call sizes allowed =
    let at : suc k - 1 ≡ k = omega arith in
    ap (λ xs. get_or xs k None) (begin_actors state (suc k) call (begun_operation state call None))
    ∙ ap (λ i. get_or (set state.actors i (Some (begun_operation state call None))) k None) at
    ∙ get_or-set_same state.actors k (Some (begun_operation state call None)) None (place_of state k call sizes allowed)

-- ---- a step that goes on

-- the same operation runs behind it
abbrev RunsOn : State → State → ℕ → Operation → Type 0
RunsOn state after actor operation = (found : Operation) × (operation_of after actor ≡ Some found) × IsSame operation found

mark_found : (m : Option ℕ) (operation : Operation) → after_mark m (Some operation) ≡ Some (mark_one m operation)
mark_found None operation = refl
mark_found (Some id) operation = refl

on_by : (state : State) (s : Step) (o : Outcome) (after : State) → Moves state s o after → (actor : ℕ) (kind : Kind) → s ≡ Go actor → o ≡ Went kind → (operation : Operation) →
    operation_of state actor ≡ Some operation → RunsOn state after actor operation
on_by state s o after (Begins d) actor kind is told operation runs = cc is
on_by state s o after (GivesUp d found a) actor kind is told operation runs = cc is
on_by state s o after (Sweeps d) actor kind is told operation runs = cc is
on_by state s o after (Ends d found a) actor kind is told operation runs = cc told
on_by state s o after (Goes {actor = who} {operation = own} d found a g) actor kind is told operation runs =
    let whose : who ≡ actor = cc is in
    let one : own ≡ operation = same_Some own operation (sym found ∙ ap (operation_of state) whose ∙ runs) in
    let m : Option ℕ = marks_by state (Some own) in
    let further : Operation = mark_one m (operation_after state own) in (
      further,
      subst (λ k. operation_of (settled state (gone state who own)) k ≡ Some further) whose (go_own state who own found ∙ mark_found m (operation_after state own)),
      subst (λ x. IsSame x further) one (after_same state m own),
    )

pub runs_on : (state : State) (actor : ℕ) (kind : Kind) (after : State) → next state (Go actor) ≡ Ok (Went kind, after) → (operation : Operation) →
    operation_of state actor ≡ Some operation → RunsOn state after actor operation
runs_on state actor kind after e = on_by state (Go actor) (Went kind) after (moved state (Go actor) (Went kind) after e) actor kind refl refl

-- ---- the end

-- who runs nothing takes no step
waits_by : (state : State) (s : Step) (o : Outcome) (after : State) → Moves state s o after → (actor : ℕ) → s ≡ Go actor → operation_of state actor ≡ None → ⊥
waits_by state s o after (Begins d) actor own idle = cc own
waits_by state s o after (GivesUp d found a) actor own idle = cc own
waits_by state s o after (Sweeps d) actor own idle = cc own
waits_by state s o after (Goes {actor = who} {operation} d found a g) actor own idle =
    let same : who ≡ actor = cc own in none-some operation (sym idle ∙ subst (λ k. operation_of state k ≡ Some operation) same found)
waits_by state s o after (Ends {actor = who} {operation} d found a) actor own idle =
    let same : who ≡ actor = cc own in none-some operation (sym idle ∙ subst (λ k. operation_of state k ≡ Some operation) same found)

pub idle_waits : (state : State) (actor : ℕ) (o : Outcome) (after : State) → next state (Go actor) ≡ Ok (o, after) → operation_of state actor ≡ None → ⊥
idle_waits state actor o after e = waits_by state (Go actor) o after (moved state (Go actor) o after e) actor refl

-- it leaves the heap
leaves_by : (state : State) (s : Step) (o : Outcome) (after : State) → Moves state s o after → (id : ℕ) (answer : Reply) → o ≡ Ended id answer → after.heap ≡ state.heap
leaves_by state s o after (Begins d) id answer told = cc told
leaves_by state s o after (GivesUp d found a) id answer told = cc told
leaves_by state s o after (Sweeps d) id answer told = cc told
leaves_by state s o after (Goes d found a g) id answer told = cc told
leaves_by state s o after (Ends d found a) id answer told = refl

pub end_leaves : (state : State) (actor id : ℕ) (answer : Reply) (after : State) → next state (Go actor) ≡ Ok (Ended id answer, after) → after.heap ≡ state.heap
end_leaves state actor id answer after e = leaves_by state (Go actor) _ after (moved state (Go actor) _ after e) id answer refl
