-- The state after a step of an operation that isn't its end, put together from its parts.
use Rattle.std.specs.Prelude.{◌≡◌, ◌-◌, ℕ, zero, suc, Bool, false, List, [], ◌∷◌, slice_index_or, slice_set, Option, Some, option_map, refl}
use Rattle.std.proofs.Common.{sym, ap, ◌∙◌, get_or, set}
use Rattle.machine_core.specs.Vocabulary.{Low, Access, Ref, Action, Line, Operation, Descriptor, acted, attempt_after, gone, mark_after, operation_after, private_after, handle_of, action_of}
use Rattle.machine_core.specs.Vocabulary.{generation_from, State, with_operation, word_at, acted_heap, Table, acted_table, drawn_by, with_generation, at_heap, no_state, Programs, generation_in}
use Rattle.machine_core.specs.Vocabulary.{line_for, Changes, Scene, Takes, at_scene, Taken, carried_offer}
use Rattle.machine_model.specs.declared.actions.Action.TheVariants as act
use Rattle.machine_model.proofs.Actors.{after_marks}
use Rattle.running.specs.Steps.{Does}
use Rattle.running.proofs.ByParts.{ActsBy, acts_by}
use Rattle.running.proofs.Offers.{unmarked}
use Rattle.machine_core.specs.declared.parts.UnderWay.{UnderWay}
use Rattle.machine_core.specs.Seen.{operation_at}
use Rattle.machine_core.proofs.Marking.{marks_carried}

-- ---- the state

-- the offer that the operation's step carries out, if it does
abbrev pub carried_now : State → Operation → Option Descriptor
carried_now state operation = carried_offer (word_at state (handle_of operation.call)) (action_of state operation)

-- the parts of a state after the step of the actor's operation, where the root words stood in this table
pub record IsGone (before : State) (actor : ℕ) (operation : Operation) (table : Table) (after : State) : Type 0 where
  pub limits : after.limits ≡ before.limits
  pub heap : after.heap ≡ acted_heap before.heap (with_generation before.generations (action_of before operation))
  pub generations : after.generations ≡ drawn_by before.heap before.generations (action_of before operation)
  pub limbo : after.limbo ≡ before.limbo
  pub epoch : after.epoch ≡ before.epoch
  pub cursor : after.cursor ≡ before.cursor
  pub roots : after.roots ≡ (acted_table table (handle_of operation.call) actor (action_of before operation)).roots
  pub actors : after.actors
      ≡ after_marks (option_map (λ (offer : Descriptor). offer.operation) (carried_now before operation)) (slice_set before.actors (actor - 1) (Some (operation_after before operation)))
  pub begun : after.begun ≡ before.begun
  pub steps : after.steps ≡ before.steps

record SameParts (a b : State) : Type 0 where
  limits : a.limits ≡ b.limits
  heap : a.heap ≡ b.heap
  generations : a.generations ≡ b.generations
  limbo : a.limbo ≡ b.limbo
  epoch : a.epoch ≡ b.epoch
  cursor : a.cursor ≡ b.cursor
  roots : a.roots ≡ b.roots
  actors : a.actors ≡ b.actors
  begun : a.begun ≡ b.begun
  steps : a.steps ≡ b.steps

same_state : (a b : State) → SameParts a b → a ≡ b
same_state a b e =
    ap (λ x. record a { limits = x }) e.limits
    ∙ ap (λ x. record a { limits = b.limits; heap = x }) e.heap
    ∙ ap (λ x. record a { limits = b.limits; heap = b.heap; generations = x }) e.generations
    ∙ ap (λ x. record a { limits = b.limits; heap = b.heap; generations = b.generations; limbo = x }) e.limbo
    ∙ ap (λ x. record a { limits = b.limits; heap = b.heap; generations = b.generations; limbo = b.limbo; epoch = x }) e.epoch
    ∙ ap (λ x. record a { limits = b.limits; heap = b.heap; generations = b.generations; limbo = b.limbo; epoch = b.epoch; cursor = x }) e.cursor
    ∙ ap (λ x. record b { roots = x; actors = a.actors; begun = a.begun; steps = a.steps }) e.roots
    ∙ ap (λ x. record b { actors = x; begun = a.begun; steps = a.steps }) e.actors
    ∙ ap (λ x. record b { begun = x; steps = a.steps }) e.begun
    ∙ ap (λ x. record b { steps = x }) e.steps

pub gone_so : (before : State) (actor : ℕ) (operation : Operation) (table : Table) (after : State) → table.roots ≡ before.roots → IsGone before actor operation table after →
    gone before actor operation ≡ after
gone_so before actor operation table after words is =
    let action : Action = action_of before operation in
    let handle : ℕ = handle_of operation.call in
    let stood : State = with_operation before actor (Some (operation_after before operation)) in
    let by : ActsBy stood handle action (acted stood handle action) = acts_by stood handle action in
    same_state (acted stood handle action) after (record {
      limits = by.framed.limits ∙ sym is.limits;
      heap = by.heap ∙ sym is.heap;
      generations = by.generations ∙ sym is.generations;
      limbo = by.framed.limbo ∙ sym is.limbo;
      epoch = by.framed.epoch ∙ sym is.epoch;
      cursor = by.framed.cursor ∙ sym is.cursor;
      roots = by.roots table actor words ∙ sym is.roots;
      actors = by.actors ∙ ap (λ m. after_marks m stood.actors) (marks_carried stood handle action) ∙ sym is.actors;
      begun = by.framed.begun ∙ sym is.begun;
      steps = by.framed.steps ∙ sym is.steps;
    })

-- ---- the operation

private_same : (there here : State) (private : List Ref) (generation : ℕ) (action : Action) → there.heap ≡ here.heap →
    private_after there private (with_generation generation action) ≡ private_after here private action
private_same there here private generation (act.MakeRoot main) same = ap (λ h. private_after (record here { heap = h }) private (act.MakeRoot main)) same
private_same there here private generation (act.Make node) same = ap (λ h. private_after (record here { heap = h }) private (act.Make node)) same
private_same there here private generation action same = refl

-- an actor whose mark was taken has none
pub unset : (marks : List Bool) (i : ℕ) → get_or (set marks i false) i false ≡ false
unset [] i = refl
unset (m ∷ marks) zero = refl
unset (m ∷ marks) (suc i) = unset marks i

own_mark : (marks : List Bool) (actor : ℕ) (action : Action) → slice_index_or (unmarked marks actor action) actor false ≡ mark_after (slice_index_or marks actor false) action
own_mark marks actor (act.Offer offer) = unset marks actor
own_mark marks actor action = refl

-- what the operation under way has become, before marks are set, is what the definition makes of it
pub became : (state : State) (u : UnderWay) (table : Table) (before after : Scene) (taken : Taken) → Does u.job u.program (line_for u.program before.programs) before taken after →
    let there = at_scene state before in
    let operation = operation_at before.table before.programs u in
    table.marks ≡ unmarked before.table.marks u.job.actor (action_of there operation) →
    operation_at table after.programs u ≡ operation_after there operation
became state u table before after taken does marks =
    let there : State = at_scene state before in
    let operation : Operation = operation_at before.table before.programs u in
    let p : Programs = after.programs in
    let action : Action = action_of there operation in
    let changes : Changes u.job before action after = does.changes state operation in
    let takes : Takes there operation (line_for u.program before.programs) taken (line_for u.program p) = does.takes state operation in
    let access = before.programs.key.work.swap.read.access in
    let private = private_after there before.programs.key.work.private action in
    let mark = mark_after operation.is_marked action in
    let generation = generation_from there operation (line_for u.program before.programs) in
    let put : Access → List Ref → ℕ → Bool → Option ℕ → Line → Operation =
    λ a rs n m g l. record operation { access = a; private = rs; attempt = n; is_marked = m; generation = g; line = l } in
    let q = p.key.work in
    let m' = slice_index_or table.marks u.job.actor false in
    let g' = generation_in u.program p in
    let l' = line_for u.program p in
    let attempt = attempt_after before.programs.copy.attempt action in
    ap (λ x. put x q.private p.copy.attempt m' g' l') does.access
    ∙ ap (λ x. put access x p.copy.attempt m' g' l')
    (changes.acts.made ∙ private_same (at_heap no_state before.memory.heap Low) there before.programs.key.work.private before.generation action refl)
    ∙ ap (λ x. put access private x m' g' l') changes.attempt
    ∙ ap (λ x. put access private attempt x g' l')
    (ap (λ ms. slice_index_or ms u.job.actor false) marks ∙ own_mark before.table.marks u.job.actor action)
    ∙ ap (λ x. put access private attempt mark x l') (does.generation state operation)
    ∙ ap (λ x. put access private attempt mark generation x) (sym takes.line)
