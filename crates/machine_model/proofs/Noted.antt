-- Each step of a list that is taken is a turn, and what it tells is recorded.
use Rattle.std.proofs.Common.{◌≡◌, ℕ, zero, suc, cond, ◌<◌, List, [], ◌∷◌, length, Ok, Err, refl, ap, subst, sym, arith}
use Rattle.machine_model.specs.declared.steps.Outcome.{Outcome}
use Rattle.machine_model.specs.declared.steps.Step.{Step}
use Rattle.machine_model.specs.States.{State}
use Rattle.machine_model.specs.Machine.{Answer, next, next_state, state_after, is_taken_step, taken_from}
use Rattle.machine_model.specs.Moves.{Moves, MovesIfTaken}
use Rattle.machine_model.specs.Records.{Record, next_record, noted}
use Rattle.machine_model.specs.Tellings.{told_in}
use Rattle.machine_model.specs.Times.{Turn, turns, noted_turn, states_from, records_from}
use Rattle.machine_model.proofs.Moves.{moves}

-- a turn, with what is recorded before and after it
pub data NotedTurn (before : State) (past : Record) (after : State) (now : Record) : Type 0 where
  turns_noted : (s : Step) (o : Outcome) → Moves before s o after → now ≡ noted past before.steps (told_in before s) → NotedTurn before past after now

abbrev pub turn_of : {before after : State} {past now : Record} → NotedTurn before past after now → Turn before after
turn_of (turns_noted s o m e) = turns s o m

pub recorded_of : {before after : State} {past now : Record} (n : NotedTurn before past after now) → now ≡ noted_turn (turn_of n) past
recorded_of (turns_noted s o m e) = e

pub states_from-zero : (state : State) (steps : List Step) → states_from state steps zero ≡ state
unfolding states_from
states_from-zero state [] = refl
states_from-zero state (s ∷ steps) = refl

-- they lead on by such turns alone
abbrev NotedFrom : State → Record → List Step → Type 0
NotedFrom state past steps = (t : ℕ) → t < length steps →
    NotedTurn (states_from state steps t) (records_from state past steps t) (states_from state steps (suc t)) (records_from state past steps (suc t))

pub records_from-zero : (state : State) (past : Record) (steps : List Step) → records_from state past steps zero ≡ past
unfolding records_from
records_from-zero state past [] = refl
records_from-zero state past (s ∷ steps) = refl

-- one more turn in front
noted_in_front : (state : State) (past : Record) (s : Step) (steps : List Step) → NotedTurn state past (next_state state s) (next_record state past s) →
    NotedFrom (next_state state s) (next_record state past s) steps → NotedFrom state past (s ∷ steps)
unfolding states_from records_from
noted_in_front state past s steps turn rest zero h =
    subst (λ q. NotedTurn state past (states_from (next_state state s) steps zero) q) (sym (records_from-zero (next_state state s) (next_record state past s) steps))
    (subst (λ q. NotedTurn state past q (next_record state past s)) (sym (states_from-zero (next_state state s) steps)) turn)
noted_in_front state past s steps turn rest (suc t) h = rest t (omega arith)

-- by what the first step comes to
noted_by : (state : State) (past : Record) (s : Step) (steps : List Step) (answer : Answer) → answer ≡ next state s → MovesIfTaken state s answer →
    NotedFrom (next_state state s) (next_record state past s) (taken_from (next_state state s) steps) →
    NotedFrom state past (cond (is_taken_step answer) (s ∷ taken_from (next_state state s) steps) (taken_from (next_state state s) steps))
noted_by state past s steps (Ok done) e m rest =
    noted_in_front state past s (taken_from (next_state state s) steps) (turns_noted s done.0 leads notes) rest
  where
    leads : Moves state s done.0 (next_state state s)
    leads = subst (λ q. Moves state s done.0 q) (ap (state_after state) e) m

    notes : next_record state past s ≡ noted past state.steps (told_in state s)
    notes = ap (λ a. cond (is_taken_step a) (noted past state.steps (told_in state s)) past) (sym e)
noted_by state past s steps (Err refusal) e m rest =
    subst (λ q. NotedFrom q past (taken_from (next_state state s) steps)) stays
    (subst (λ q. NotedFrom (next_state state s) q (taken_from (next_state state s) steps)) nothing rest)
  where
    stays : next_state state s ≡ state
    stays = ap (state_after state) (sym e)

    nothing : next_record state past s ≡ past
    nothing = ap (λ a. cond (is_taken_step a) (noted past state.steps (told_in state s)) past) (sym e)

pub notes_along : (state : State) (past : Record) (steps : List Step) → NotedFrom state past (taken_from state steps)
unfolding taken_from
notes_along state past [] = λ t h. absurd (omega arith)
notes_along state past (s ∷ steps) =
    noted_by state past s steps (next state s) refl (moves state s) (notes_along (next_state state s) (next_record state past s) steps)
