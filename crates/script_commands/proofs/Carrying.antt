-- What the steps of a command come to.
use Rattle.std.proofs.Common.{◌≡◌, ℕ, zero, suc, List, [], ◌∷◌, ◌++◌, Option, Some, None, refl, ap, ◌+◌, ◌∙◌, add-one, true, false}
use Rattle.std.specs.Prelude.{replicate}
use Rattle.script_commands.specs.Vocabulary.{Kind, Refusal, Call, Step, Go, Sweep, bounded, first_record, record_from, State, first_state, next_kind, next, next_state, run_from, begin_denial}
use Rattle.script_commands.specs.Vocabulary.{begin_unless, go_limit}
use Rattle.script_commands.specs.Beneath.machine_model.specs.declared.steps.Step.TheVariants.{Begin}
use Rattle.script_commands.specs.Beneath.machine_model.proofs.Along.{run-append, run_push}
use Rattle.script_commands.specs.Beneath.machine_model.proofs.Recorded.{record-append, record_push}
use Rattle.script_commands.specs.Beneath.proof_runs.specs.Machines.{Taken, past_of, state_of, with_step}
use Rattle.script_commands.specs.Recorded.{Recorded, recorded_from, recorded_in, recorded_next}
use Rattle.script_text.specs.Steps.{stops, going, doing}
use Rattle.script_commands.specs.Denials.{denial_in}

-- a begin is denied for the reason that the definition lists
by_denial : (state : State) (actor : ℕ) (call : Call) (denial : Option Refusal) → denial_in (begin_unless state actor call None denial) ≡ denial
by_denial state actor call (Some refusal) = refl
by_denial state actor call None = refl

pub begin_denied : (state : State) (actor : ℕ) (call : Call) → denial_in (next state (Begin actor call None)) ≡ begin_denial state actor call None
unfolding next
begin_denied state actor call = by_denial state actor call (begin_denial state actor call None)

-- a step alone
pub one_alone : (before : Recorded) (s : Step) → recorded_from before (s ∷ []) ≡ recorded_next before s
unfolding run_from record_from
one_alone before s = refl

-- a machine that has taken one step more
pub taken : (before : Taken) (s : Step) → recorded_in (with_step before s) ≡ recorded_next (recorded_in before) s
taken before s =
    let limits = bounded before.limits in
    ap (λ state. record { state = state; past = past_of (with_step before s) }) (run_push (first_state limits) before.steps s)
    ∙ ap (λ past. record { state = next_state (state_of before) s; past = past }) (record_push (first_state limits) (first_record limits) before.steps s)

-- no step is left
pub going_none : (wanted : Option Kind) (actor : ℕ) (state : Recorded) → recorded_from state (going 0 wanted actor state.state) ≡ state
unfolding going run_from record_from
going_none wanted actor state = refl

-- steps that stop here
pub going_stops : (n : ℕ) (wanted : Option Kind) (actor : ℕ) (state : Recorded) → stops wanted (next_kind state.state actor) ≡ true →
    recorded_from state (going n wanted actor state.state) ≡ state
unfolding going run_from record_from
going_stops zero wanted actor state stop = refl
going_stops (suc n) wanted actor state stop = rw stop refl

pub one_more : (n : ℕ) (wanted : Option Kind) (actor : ℕ) (state : Recorded) → stops wanted (next_kind state.state actor) ≡ false →
    recorded_from state (going (suc n) wanted actor state.state) ≡ recorded_from (recorded_next state (Go actor)) (going n wanted actor (recorded_next state (Go actor)).state)
unfolding going run_from record_from
one_more n wanted actor state goes = rw goes refl

-- one step is taken, and fewer are left
pub going_on : (m n : ℕ) (wanted : Option Kind) (actor : ℕ) (state after : Recorded) → m ≡ n + 1 → stops wanted (next_kind state.state actor) ≡ false →
    after ≡ recorded_next state (Go actor) → recorded_from state (going m wanted actor state.state) ≡ recorded_from after (going n wanted actor after.state)
going_on m n wanted actor state after e goes is = rw (e, add-one, is) (one_more n wanted actor state goes)

-- sweeps that are left
pub sweeping_none : (state : Recorded) → recorded_from state (replicate 0 Sweep) ≡ state
unfolding run_from record_from
sweeping_none state = refl

pub sweeping_on : (m n : ℕ) (state after : Recorded) → m ≡ n + 1 → after ≡ recorded_next state Sweep → recorded_from state (replicate m Sweep) ≡ recorded_from after (replicate n Sweep)
unfolding run_from record_from
sweeping_on m n state after e is = rw (e, add-one, is) refl

-- a begin that isn't denied, and the steps behind it
pub performed : (denial : Option Refusal) (actor : ℕ) (begins : Step) (state middle after : Recorded) → None ≡ denial →
    middle ≡ recorded_from state (begins ∷ []) → after ≡ recorded_from middle (going go_limit None actor middle.state) → after ≡ recorded_from state (doing actor begins denial state.state)
unfolding run_from record_from
performed (Some refusal) actor begins state middle after none begun gone = absurd cc
performed None actor begins state middle after none begun gone = gone ∙ ap (λ (s : Recorded). recorded_from s (going go_limit None actor s.state)) begun

-- steps, and those behind them
pub recorded_append : (before : Recorded) (xs ys : List Step) → recorded_from before (xs ++ ys) ≡ recorded_from (recorded_from before xs) ys
recorded_append before xs ys =
    ap (λ state. record { state = state; past = record_from before.state before.past (xs ++ ys) }) (run-append before.state xs ys)
    ∙ ap (λ past. record { state = run_from (run_from before.state xs) ys; past = past }) (record-append before.state before.past xs ys)
