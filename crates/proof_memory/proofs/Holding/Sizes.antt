-- There are as many handle numbers and actors as at first.
use Rattle.std.proofs.Common.{◌≡◌, ℕ, ◌==◌, ◌-◌, Bool, true, false, cond, Option, Some, None, length, refl, ◌∙◌, length-set}
use Rattle.std.proofs.lemmas.List.{length-map, length-replicate}
use Rattle.proof_memory.specs.Vocabulary.{Ref, Call, Action, Operation, Descriptor, RootWord, Plain, Offer, Bounds, Outcome, Step, handle_of, is_close, State, first_state, handle_limit, with_word}
use Rattle.proof_memory.specs.Vocabulary.{with_root, action_of, acted, carried_out, opened, new_root_taken, if_changed, run, handle_closed, with_begin, Moves, Begins, Ends, Sweeps, GivesUp}
use Rattle.proof_memory.specs.Vocabulary.{begun_operation}
use Rattle.machine_model.specs.declared.actions.Action.TheVariants as act
use Rattle.machine_model.specs.Moves.{Goes}
use Rattle.machine_model.proofs.Along.{along}
use Rattle.proof_memory.specs.Holding.{SizesStay}

-- as many as before
record SameSizes (before after : State) : Type 0 where
  roots : length after.roots ≡ length before.roots
  actors : length after.actors ≡ length before.actors

same : (state : State) → SameSizes state state
same state = record { roots = refl; actors = refl }

by_test : (b : Bool) (state changed : State) → SameSizes state changed → SameSizes state (if_changed b changed state)
by_test true state changed h = h
by_test false state changed h = same state

word_sizes : (state : State) (handle : ℕ) (word : RootWord) → SameSizes state (with_word state handle word)
word_sizes state handle word = record { roots = length-set state.roots handle _; actors = refl }

opened_sizes : (state : State) (offer : Descriptor) (opens : Option ℕ) → SameSizes state (opened state offer opens)
opened_sizes state offer None = same state
opened_sizes state offer (Some handle) = record { roots = length-set state.roots handle _; actors = refl }

carried_sizes : (state : State) (handle : ℕ) (offer : Descriptor) → SameSizes state (carried_out state handle offer)
carried_sizes state handle offer =
    let swapped = opened_sizes (with_word state handle (Plain offer.successor)) offer offer.opens in
    record { roots = swapped.roots ∙ length-set state.roots handle _; actors = length-map _ _ ∙ swapped.actors }

completed_by : (state : State) (handle : ℕ) (offer : Descriptor) (carried stands : Bool) →
    SameSizes state (if_changed stands (cond carried (carried_out state handle offer) (with_word state handle (Plain offer.root))) state)
completed_by state handle offer true true = carried_sizes state handle offer
completed_by state handle offer false true = word_sizes state handle (Plain offer.root)
completed_by state handle offer carried false = same state

root_sizes : (state : State) (main : Ref) (made : Option Ref) → SameSizes state (new_root_taken state main made)
root_sizes state main None = same state
root_sizes state main (Some made) = record { roots = refl; actors = refl }

-- no action changes that
acted_sizes : (state : State) (handle : ℕ) (action : Action) → SameSizes state (acted state handle action)
acted_sizes state handle (act.Abort offer) = by_test _ state _ (word_sizes state handle (Plain offer.root))
acted_sizes state handle (act.Offer offer) = by_test _ state _ (word_sizes state handle (Offer offer))
acted_sizes state handle (act.Complete offer main) = completed_by state handle offer (main == offer.expected) _
acted_sizes state handle (act.MakeRoot main) = root_sizes state main _
acted_sizes state handle action = record { roots = refl; actors = refl }

-- a close takes a handle away
closed_sizes : (state : State) (call : Call) → SameSizes state (handle_closed state call)
closed_sizes state call = by (is_close call)
  where
    by : (b : Bool) → SameSizes state (cond b (with_root state (handle_of call) None) state)
    by true = record { roots = length-set state.roots (handle_of call) None; actors = refl }
    by false = same state

begun_sizes : (state : State) (actor : ℕ) (call : Call) (operation : Operation) → SameSizes state (with_begin state actor call operation)
begun_sizes state actor call operation =
    let closed = closed_sizes state call in
    record { roots = closed.roots; actors = length-set _ (actor - 1) _ ∙ closed.actors }

-- each step that is taken
moved_sizes : (state : State) (s : Step) (o : Outcome) (after : State) → Moves state s o after → SameSizes state after
moved_sizes state s o after (Begins {actor} {call} {number} d) =
    let begun = begun_sizes state actor call (begun_operation state call number) in record { roots = begun.roots; actors = begun.actors }
moved_sizes state s o after (Goes {actor} {operation} d is a g) =
    let went = acted_sizes _ (handle_of operation.call) (action_of state operation) in record { roots = went.roots; actors = went.actors ∙ length-set state.actors (actor - 1) _ }
moved_sizes state s o after (Ends {actor} d is a) = record { roots = refl; actors = length-set state.actors (actor - 1) None }
moved_sizes state s o after (GivesUp {actor} d is a) = record { roots = refl; actors = length-set state.actors (actor - 1) _ }
moved_sizes state s o after (Sweeps spent) = record { roots = refl; actors = refl }

first_sizes : (limits : Bounds) → (length (first_state limits).roots ≡ handle_limit) × (length (first_state limits).actors ≡ limits.actors)
unfolding first_state
first_sizes limits = (refl, length-replicate {A = Option Operation} limits.actors None)

pub sizes_stay : SizesStay
sizes_stay limits =
    along limits (λ state. (length state.roots ≡ handle_limit) × (length state.actors ≡ limits.actors)) (first_sizes limits)
    (λ steps s o after m h. let moved = moved_sizes (run limits steps) s o after m in (moved.roots ∙ h.0, moved.actors ∙ h.1))
