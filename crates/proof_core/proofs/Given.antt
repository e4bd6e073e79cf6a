-- What a state of a run gives: the claims of the next action, and room for what it adds; whose begin may come.
use Rattle.std.proofs.Common.{◌≡◌, ℕ, zero, suc, ◌-◌, ◌<◌, ◌≤◌, ◌&&◌, true, false, nat_lt, nat_le, length, get_or, Some, None, sym, ap, ◌∙◌, subst, arith}
use Rattle.std.proofs.lemmas.Bool.Decides.{nat_tests}
use Rattle.proof_core.specs.Vocabulary.{Call, Ref, times, IsLive, Operation, State, operation_of, handle_limit, action_of, begin_denial, is_running, AllHold, action_wants, LineHasRoom, IsOfRun}
use Rattle.proof_core.specs.Beneath.history.proofs.Places.{option_untested}
use Rattle.proof_core.specs.Beneath.machine_model.proofs.Actors.{begin_actor}
use Rattle.proof_core.specs.Beneath.proof_memory.proofs.Holding.Lives.{lines_live}
use Rattle.proof_core.specs.Beneath.proof_memory.proofs.Holding.Privates.{privates_once}
use Rattle.proof_core.specs.Beneath.proof_memory.proofs.Holding.Sizes.{sizes_stay}
use Rattle.proof_operations.specs.Laws.{MakesNode}
use Rattle.proof_operations.proofs.Rooms.{lists_have_room}
use Rattle.proof_core.specs.Standing.{StandsAt}

-- ---- laws, at a state of a run

pub claims : (state : State) (actor : ℕ) (operation : Operation) → IsOfRun state → operation_of state actor ≡ Some operation →
    AllHold (IsLive state.heap) state.heap (action_wants (action_of state operation))
claims state actor operation h found =
    subst (λ (s : State). operation_of s actor ≡ Some operation → AllHold (IsLive s.heap) s.heap (action_wants (action_of s operation))) (sym h.is)
    (λ e. lines_live state.limits h.steps actor operation h.limits e) found

-- there is room for what its next step adds
pub room_left : (state : State) (actor : ℕ) (operation : Operation) → IsOfRun state → operation_of state actor ≡ Some operation →
    LineHasRoom operation.line × (MakesNode (action_of state operation) → length operation.private < 33)
room_left state actor operation h found =
    subst (λ (s : State). operation_of s actor ≡ Some operation → LineHasRoom operation.line × (MakesNode (action_of s operation) → length operation.private < 33)) (sym h.is)
    (λ e. lists_have_room state.limits h.steps actor operation h.limits e) found

pub sizes : (state : State) → IsOfRun state → (length state.roots ≡ handle_limit) × (length state.actors ≡ state.limits.actors)
sizes state h =
    let (roots, actors) = sizes_stay state.limits h.steps in
    (ap (λ (s : State). length s.roots) h.is ∙ roots, ap (λ (s : State). length s.actors) h.is ∙ actors)

pub private_once : (state : State) → IsOfRun state → (actor : ℕ) (operation : Operation) (r : Ref) → operation_of state actor ≡ Some operation → times r operation.private ≤ 1
private_once state h actor operation r found =
    privates_once state.limits h.steps actor operation r h.limits (ap (λ (s : State). operation_of s actor) (sym h.is) ∙ found)

-- ---- a begin

-- a begin that isn't denied is of an actor that runs nothing
begin_idle : (state : State) (actor : ℕ) (call : Call) → begin_denial state actor call None ≡ None → is_running state actor ≡ false
begin_idle state actor call d = grind arith

within_by : (actor actors : ℕ) → (nat_lt 0 actor && nat_le actor actors) ≡ true → (0 < actor) × (actor ≤ actors)
within_by actor actors e = grind (arith, nat_tests)

pub begin_stands : (state : State) (actor : ℕ) (call : Call) → IsOfRun state → begin_denial state actor call None ≡ None → StandsAt state.actors actor None
begin_stands state zero call h d = absurd (let (some, most) = within_by 0 state.limits.actors (begin_actor state 0 call None d) in omega (arith, some))
begin_stands state (suc n) call h d =
    let (some, most) = within_by (suc n) state.limits.actors (begin_actor state (suc n) call None d) in
    let (roots, actors) = sizes state h in
    record {
      counts = omega arith;
      within = omega (arith, most, actors);
      is = ap (λ i. get_or state.actors i None) (let same : suc n - 1 ≡ n = omega arith in same) ∙ option_untested (operation_of state (suc n)) (begin_idle state (suc n) call d);
    }
