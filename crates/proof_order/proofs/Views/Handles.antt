-- Handle numbers: a handle that an operation is to open has a number in range.
use Rattle.std.proofs.Common.{◌≡◌, ℕ, suc, ◌<◌, ◌≤◌, length, replicate, Option, Some, None, refl, sym, ap, ◌∙◌, subst}
use Rattle.std.proofs.Common.{length-set, arith}
use Rattle.std.proofs.lemmas.List.{length-replicate}
use Rattle.proof_order.specs.Vocabulary.{Writable, Call, Close, Ref, Operation, Action, Root, Plain, ref_to, Descriptor, Bounds, Outcome, Step, handle_of, State, first_state}
use Rattle.proof_order.specs.Vocabulary.{handle_limit, action_of, acted, aborted, offered, completed, opened, new_root_taken, with_begin, operation_after, Begins, Ends, Sweeps}
use Rattle.proof_order.specs.Vocabulary.{GivesUp, Moves, begun_operation, IsRun}
use Rattle.proof_order.specs.Beneath.machine_model.specs.declared.actions.Action.TheVariants as act
use Rattle.proof_order.specs.Beneath.machine_model.specs.Moves.{Goes}
use Rattle.proof_order.specs.Beneath.machine_model.proofs.Found.{none_found}
use Rattle.proof_order.specs.Beneath.machine_model.proofs.Times.{at_each_time}
use Rattle.proof_order.specs.Beneath.machine_model.proofs.Actors.{mark_only, marks_in}
use Rattle.proof_order.specs.Beneath.machine_model.proofs.Numbers.{begun_opens}
use Rattle.proof_generations.proofs.Handles.Running.{Comes, began, rested, went, gave, comes}
use Rattle.proof_order.specs.Facts.{Runs}

-- ---- there are always as many handle numbers

Sized : State → Type 0
Sized state = length state.roots ≡ handle_limit

aborted_size : (state : State) (handle : ℕ) (offer : Descriptor) → length (aborted state handle offer).roots ≡ length state.roots
aborted_size state handle offer = grind (arith, length-set)

offered_size : (state : State) (handle : ℕ) (offer : Descriptor) → length (offered state handle offer).roots ≡ length state.roots
offered_size state handle offer = grind (arith, length-set)

opened_size : (state : State) (offer : Descriptor) (opens : Option ℕ) → length (opened state offer opens).roots ≡ length state.roots
opened_size state offer None = refl
opened_size state offer (Some n) = length-set state.roots n _

completed_size : (state : State) (handle : ℕ) (offer : Descriptor) (main : Ref) → length (completed state handle offer main).roots ≡ length state.roots
completed_size state handle offer main = grind (arith, length-set, opened_size)

root_taken_size : (state : State) (main : Ref) (made : Option Ref) → length (new_root_taken state main made).roots ≡ length state.roots
root_taken_size state main None = refl
root_taken_size state main (Some made) = refl

acted_size : (state : State) (handle : ℕ) (action : Action) → length (acted state handle action).roots ≡ length state.roots
acted_size state handle (act.Abort offer) = aborted_size state handle offer
acted_size state handle (act.Offer offer) = offered_size state handle offer
acted_size state handle (act.Complete offer main) = completed_size state handle offer main
acted_size state handle (act.MakeRoot main) = root_taken_size state main _
acted_size state handle action = refl

begun_size : (state : State) (actor : ℕ) (call : Call) (operation : Operation) → length (with_begin state actor call operation).roots ≡ length state.roots
begun_size state actor (Close handle) operation = length-set state.roots handle None
begun_size state actor call operation = refl

sized_kept : (state : State) (s : Step) (o : Outcome) (after : State) → Moves state s o after → Sized state → Sized after
unfolding Sized
sized_kept state s o after (Begins {actor} {call} {number} d) size = begun_size state actor call (begun_operation state call number) ∙ size
sized_kept state s o after (Goes {actor} {operation} d is a g) size = acted_size _ (handle_of operation.call) (action_of state operation) ∙ size
sized_kept state s o after (Ends d is a) size = size
sized_kept state s o after (GivesUp d is a) size = size
sized_kept state s o after (Sweeps spent) size = size

first_sized : (limits : Bounds) → Sized (first_state limits)
unfolding Sized first_state
first_sized limits =
    length-set {A = Option Root} (replicate handle_limit None) 0 (Some (record { access = Writable; word = Plain (ref_to 2 1) })) ∙ length-replicate {A = Option Root} handle_limit None

pub handles_at : {limits : Bounds} {states : ℕ → State} {last : ℕ} → IsRun limits states last → (t : ℕ) → t ≤ last → length (states t).roots ≡ handle_limit
unfolding Sized
handles_at {limits} {states} {last} r = at_each_time r Sized (first_sized limits) sized_kept

-- ---- what an operation opens is in range

InRange : State → Type 0
InRange state = (k : ℕ) (operation : Operation) → Runs state k operation → (n : ℕ) → operation.opens ≡ Some n → n < handle_limit

in_range_by : (state : State) (s : Step) → InRange state → (k : ℕ) (found : Operation) → Comes state s k found → (n : ℕ) → found.opens ≡ Some n → n < handle_limit
unfolding InRange
in_range_by state s h k found (began call number is d it) n opening =
    let (opens, (low, free)) = begun_opens state (suc k) call number d n (ap (λ (x : Operation). x.opens) (sym it) ∙ opening) in low
in_range_by state s h k found (rested was at_k it other) n opening = h k was at_k n (ap (λ (x : Operation). x.opens) (sym (it ∙ mark_only (marks_in state s) was)) ∙ opening)
in_range_by state s h k found (went was is at_k g it) n opening =
    h k was at_k n (ap (λ (x : Operation). x.opens) (sym (it ∙ mark_only (marks_in state s) (operation_after state was))) ∙ opening)
in_range_by state s h k found (gave was answer is at_k may it) n opening = h k was at_k n (ap (λ (x : Operation). x.opens) (sym it) ∙ opening)

in_range_kept : (state : State) (s : Step) (o : Outcome) (after : State) → Moves state s o after → InRange state → InRange after
unfolding InRange
in_range_kept state s o after m h k found at_k = in_range_by state s h k found (comes state s o after m k found at_k)

first_in_range : (limits : Bounds) → InRange (first_state limits)
unfolding InRange first_state
first_in_range limits k operation at_k = absurd (none_found limits.actors k operation at_k)

pub opens_in_range : {limits : Bounds} {states : ℕ → State} {last : ℕ} → IsRun limits states last → (t : ℕ) → t ≤ last → (k : ℕ) (operation : Operation) → Runs (states t) k operation →
    (n : ℕ) → operation.opens ≡ Some n → n < length (states t).roots
unfolding InRange
opens_in_range {limits} {states} {last} r t le k operation at_k n is =
    subst (λ m. n < m) (sym (handles_at r t le)) (at_each_time r InRange (first_in_range limits) in_range_kept t le k operation at_k n is)
