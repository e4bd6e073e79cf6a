-- Where more slots are free than an operation makes nodes it isn't refused for want of slots.
use Rattle.std.proofs.Common.{◌≡◌, ℕ, zero, suc, ◌+◌, ◌<◌, ◌≤◌, ◌⊎◌, Bool, true, false, List, [], length, Some, option_map, Ok, Err, inl, inr, refl, sym, ap, subst, ◌∙◌, arith}
use Rattle.std.specs.Prelude.{◌≢◌}
use Rattle.std.proofs.lemmas.Bool.{cases_lt, false≢true}
use Rattle.std.proofs.lemmas.Option.{none-some}
use Rattle.proof_obstruction_free.specs.Beneath.ctrie_base.specs.declared.kinds.Kind.TheVariants as kind
use Rattle.proof_obstruction_free.specs.Vocabulary.{Reply, Line, Operation, Bounds, Outcome, Ended, Step, operation_after, Answer, next, next_state, run, state_after, Moves, Ends, MovesIfTaken}
use Rattle.proof_obstruction_free.specs.Vocabulary.{action_of, kind_of, State, operation_of}
use Rattle.proof_obstruction_free.specs.Beneath.history.specs.declared.replies.Reply.TheVariants as reply
use Rattle.proof_obstruction_free.specs.Beneath.machine_model.specs.declared.lines.Line.TheVariants as line
use Rattle.proof_obstruction_free.specs.Beneath.machine_model.specs.declared.steps.Step.TheVariants as step
use Rattle.proof_obstruction_free.specs.Beneath.machine_model.specs.Moves.{Goes}
use Rattle.proof_obstruction_free.specs.Beneath.machine_model.proofs.Actors.{mark_only, marks_by, of_itself, of_end}
use Rattle.proof_obstruction_free.specs.Beneath.machine_model.proofs.Moves.{moves, moved, ending}
use Rattle.proof_obstruction_free.specs.Beneath.machine_model.proofs.Refusals.{IsRefusal, end_line, refusal}
use Rattle.proof_obstruction_free.specs.Beneath.machine_model.proofs.Taking.{one_slot}
use Rattle.proof_obstruction_free.specs.Laws.{alone_after}
use Rattle.proof_obstruction_free.specs.Slots.{is_make, makes_alone, makes_next}
use Rattle.proof_obstruction_free.proofs.Ends.Lists.{none_more, one_more}
use Rattle.proof_obstruction_free.specs.Beneath.slot_arena.proofs.Times.{bit}

-- ---- one step

-- the actor's operation isn't about to be refused
abbrev pub NotRefused : State → ℕ → Type 0
NotRefused state actor = (operation : Operation) → operation_of state actor ≡ Some operation → IsRefusal operation.line → ⊥

make_seen : (state : State) (actor : ℕ) (operation : Operation) → operation_of state actor ≡ Some operation → kind_of (action_of state operation) ≡ kind.Make →
    makes_next state actor ≡ true
make_seen state actor operation is e = ap (λ o. is_make (option_map (λ x. kind_of (action_of state x)) o)) is ∙ ap (λ k. is_make (Some k)) e

-- where it isn't to make a node, or a slot is free, it isn't after its step either
not_refused_by : (state : State) (k : ℕ) → NotRefused state (suc k) → (makes_next state (suc k) ≡ true → state.heap.free ≡ [] → ⊥) → (o : Outcome) (after : State) →
    Moves state (step.Go (suc k)) o after → NotRefused after (suc k)
not_refused_by state k h free o after (Goes {actor} {operation} d is a g) found at refused =
    let same = of_itself state (suc k) operation k refl found at ∙ mark_only (marks_by state (Some operation)) (operation_after state operation) in
    let wants = refusal state operation operation.line (rw a g) (rw same at refused) in
    free (make_seen state (suc k) operation is wants.0) wants.1
not_refused_by state k h free o after (Ends {actor} d is a) found at refused = of_end state (suc k) k refl found at

not_refused_after : (state : State) (k : ℕ) → NotRefused state (suc k) → (makes_next state (suc k) ≡ true → state.heap.free ≡ [] → ⊥) → (answer : Answer) →
    MovesIfTaken state (step.Go (suc k)) answer → NotRefused (state_after state answer) (suc k)
not_refused_after state k h free (Ok done) m = not_refused_by state k h free done.0 done.1 m
not_refused_after state k h free (Err why) m = h

not_refused_next : (state : State) (actor : ℕ) → NotRefused state actor → (makes_next state actor ≡ true → state.heap.free ≡ [] → ⊥) →
    NotRefused (next_state state (step.Go actor)) actor
not_refused_next state zero h free = λ operation found refused. none-some operation found
not_refused_next state (suc k) h free = not_refused_after state k h free (next state (step.Go (suc k))) (moves state (step.Go (suc k)))

-- ---- many steps

module _ (limits : Bounds) (steps : List Step) (actor : ℕ) where
  abbrev after : ℕ → State
  after n = alone_after limits steps actor n

  abbrev pub made : ℕ → ℕ
  made n = makes_alone limits steps actor n

  pub one_made : (n : ℕ) → made (suc n) ≡ made n + bit (makes_next (after n) actor)
  unfolding makes_alone
  one_made n = refl

  pub none_made : made 0 ≡ 0
  unfolding makes_alone
  none_made = refl

  -- a step takes a slot only where it is to make a node
  free_next : (n : ℕ) → length (after n).heap.free ≤ length (after (suc n)).heap.free + bit (makes_next (after n) actor)
  free_next n = subst (λ (x : State). length (after n).heap.free ≤ length x.heap.free + bit (makes_next (after n) actor)) (sym (one_more limits steps actor n)) by_test
    where
      less : ℕ
      less = length (next_state (after n) (step.Go actor)).heap.free

      by : (b : Bool) → makes_next (after n) actor ≡ b → (less < length (after n).heap.free) ⊎ (length (after n).heap.free ≤ less) → length (after n).heap.free ≤ less + bit b
      by true e fewer = let one = (one_slot (after n) (step.Go actor)).0 in omega (arith, one)
      by false e (inl fewer) =
          let (operation, is, made) = (one_slot (after n) (step.Go actor)).1 fewer in
          absurd (false≢true (sym e ∙ make_seen (after n) actor operation is made))
      by false e (inr same) = omega (arith, same)

      by_test : length (after n).heap.free ≤ less + bit (makes_next (after n) actor)
      by_test = by (makes_next (after n) actor) refl (cases_lt less (length (after n).heap.free))

  -- so no more slots are taken than nodes are made
  pub free_after : (n : ℕ) → length (run limits steps).heap.free ≤ length (after n).heap.free + made n
  free_after zero = omega (arith, ap (λ (x : State). length x.heap.free) (none_more limits steps actor), none_made)
  free_after (suc n) = let before = free_after n in let next = free_next n in let one = one_made n in omega (arith, before, next, one)

  module _ (most : ℕ) (few : (n : ℕ) → made n ≤ most) (room : most ≤ length (run limits steps).heap.free) (first : NotRefused (run limits steps) actor) where
    slot_left : (n : ℕ) → makes_next (after n) actor ≡ true → (after n).heap.free ≡ [] → ⊥
    slot_left n makes none =
        let before = free_after n in
        let one = one_made n in
        let bound = few (suc n) in
        let count : bit (makes_next (after n) actor) ≡ 1 = ap bit makes in
        let empty : length (after n).heap.free ≡ 0 = ap length none in
        omega (arith, before, one, bound, count, empty, room)

    not_refused : (n : ℕ) → NotRefused (after n) actor
    not_refused zero = subst (λ x. NotRefused x actor) (sym (none_more limits steps actor)) first
    not_refused (suc n) = subst (λ x. NotRefused x actor) (sym (one_more limits steps actor n)) (not_refused_next (after n) actor (not_refused n) (slot_left n))

    -- it isn't refused
    pub not_for_want : (n id : ℕ) (answer : Reply) (later : State) → next (after n) (step.Go actor) ≡ Ok (Ended id answer, later) → answer ≢ reply.NoSlots
    not_for_want n id answer later e want =
        let ends = subst (λ x. next (after n) (step.Go actor) ≡ Ok (Ended id x, later)) want e in
        let (operation, found, same, is, d) = ending (after n) actor id reply.NoSlots later (moved (after n) (step.Go actor) (Ended id reply.NoSlots) later ends) in
        not_refused n operation found (end_line (after n) operation operation.line is)

-- an operation that doesn't stand there isn't refused
pub refused_there : (l : Line) → IsRefusal l → l ≡ line.End reply.NoSlots
refused_there (line.End reply.NoSlots) h = refl
refused_there (line.End answer) h = absurd h
refused_there l h = absurd h
