-- Whether an operation goes on behind its next step, and what it swaps in by it.
use Rattle.std.proofs.Common.{◌≡◌, ℕ, Option, Some, arith, refl, sym, ap, ◌∙◌}
use Rattle.std.specs.Prelude.{Bool, true, is_some, not, option_and_then, option_map}
use Rattle.std.proofs.lemmas.Option.{none-some}
use Rattle.machine_core.specs.Vocabulary.{Reply, Action, Line, Operation, next_kind, action_of, kind_of, line_action, State, answer_of, goes_on}
use Rattle.machine_model.specs.declared.actions.Action.TheVariants as act
use Rattle.machine_model.specs.declared.lines.Line.TheVariants as line
use Rattle.machine_core.specs.declared.parts.Actor.{Actor}
use Rattle.machine_core.specs.declared.parts.Parts.{Parts}
use Rattle.machine_core.specs.Seen.{actor_of, operation_seen, seen}
use Rattle.machine_core.specs.Told.{published_in, published_of}
use Rattle.machine_core.proofs.Kept.{found_operation}

pub only_end : (state : State) (operation : Operation) (l : Line) (answer : Reply) → line_action state operation l ≡ act.End answer → l ≡ line.End answer
only_end state operation l answer e = grind arith

other_kind : (action : Action) → ((answer : Reply) → action ≡ act.End answer → ⊥) → true ≡ goes_on (Some (kind_of action))
other_kind (act.End answer) other = absurd (other answer refl)
other_kind action other = refl

-- an operation goes on behind the step of a line that tells no reply
pub line_onward : (state : State) (operation : Operation) (l : Line) → not (is_some (answer_of l)) ≡ goes_on (Some (kind_of (line_action state operation l)))
line_onward state operation (line.End answer) = refl
line_onward state operation l = other_kind (line_action state operation l) (λ answer e. none-some answer (ap answer_of (only_end state operation l answer e)))

-- whether this operation goes on behind what it does next
abbrev pub onward_of : State → Option Operation → Bool
onward_of state operation = goes_on (option_map (λ o. kind_of (action_of state o)) operation)

-- what the actor does next is what stands at its place does
pub onward_there : (parts : Parts) (actor : ℕ) (found : Option Actor) → found ≡ actor_of parts actor →
    onward_of (seen parts) (option_and_then (operation_seen parts.table) found) ≡ goes_on (next_kind (seen parts) actor)
onward_there parts actor found e =
    ap (λ o. onward_of (seen parts) (option_and_then (operation_seen parts.table) o)) e ∙ ap (onward_of (seen parts)) (sym (found_operation parts actor))

-- what it swaps in is what the operation at its place does
pub published_there : (parts : Parts) (actor : ℕ) (found : Option Actor) → found ≡ actor_of parts actor →
    published_of (option_and_then (operation_seen parts.table) found) ≡ published_in (seen parts) actor
published_there parts actor found e =
    ap (λ o. published_of (option_and_then (operation_seen parts.table) o)) e ∙ ap published_of (sym (found_operation parts actor))
