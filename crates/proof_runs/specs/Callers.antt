-- Calls that take many steps.
use Rattle.std.specs.Prelude.{◌≡◌, ◌<◌, ◌⊎◌, ℕ, zero, suc, [], true, Bool, false, Option, Some, None, Result, Ok, Err}
use Rattle.proof_runs.specs.Vocabulary.{Refusal, Busy, Spent, Call, Reply, Step, Go, Sweep, Outcome, Ended, go_limit, Answer, next, denial_of, is_busy, is_spent}
use Rattle.proof_runs.specs.Beneath.ctrie_base.specs.declared.refusals.Refusal.TheVariants.{Memory}
use Rattle.proof_runs.specs.Beneath.machine_model.specs.declared.steps.Step.TheVariants.{Begin}
use Rattle.proof_runs.specs.Machines.{Taken, state_of, with_step, IsTaken, Applied}

-- the same as of a step of which just the refusal is told
abbrev pub Stepped : Result (Unit {0}) Refusal → Taken → Step → Taken → Type 0
Stepped (Ok done) before step after = (o : Outcome) × Applied (Ok o) before step after
Stepped (Err refusal) before step after = Applied (Err refusal) before step after

-- the same as of a step of the actor's operation of which the reply is told, where it is the end
abbrev pub Replies : Result (Option Reply) Refusal → Taken → ℕ → Taken → Type 0
Replies (Ok (Some answer)) before actor after = (id : ℕ) × Applied (Ok (Ended id answer)) before (Go actor) after
Replies (Ok None) before actor after = (o : Outcome) × ((id : ℕ) (answer : Reply) → o ≡ Ended id answer → ⊥) × Applied (Ok o) before (Go actor) after
Replies (Err refusal) before actor after = Applied (Err refusal) before (Go actor) after

-- what steps of an operation come to: its reply if it has ended, or a denial, and the machine after them
abbrev pub Going : Type 0
Going = Result (Option Reply) Refusal × Taken

abbrev pub after_outcome : (Taken → Going) → Taken → Outcome → Going
after_outcome more machine (Ended id answer) = (Ok (Some answer), machine)
after_outcome more machine other = more machine

abbrev pub after_go : (Taken → Going) → Taken → ℕ → Answer → Going
after_go more machine actor (Ok done) = after_outcome more (with_step machine (Go actor)) done.0
after_go more machine actor (Err refusal) = (Err refusal, machine)

-- so many steps of the actor's operation, fewer where it ends or one is denied
unfoldable pub going_on : ℕ → ℕ → Taken → Going
going_on zero actor machine = (Ok None, machine)
going_on (suc n) actor machine = after_go (going_on n actor) machine actor (next (state_of machine) (Go actor))

-- An operation goes on until it ends, but for no more than the limit of steps. For want of memory it stops before one of
-- these that nothing denies: the steps taken so far stand, and the operation still runs.
abbrev pub Resumes : Result (Option Reply) Refusal → Taken → ℕ → Taken → Type 0
Resumes (Err Memory) before actor after =
    (n : ℕ) × (n < go_limit) × (going_on n actor before ≡ (Ok None, after)) × (denial_of (state_of after) (Go actor) ≡ None)
Resumes result before actor after = going_on go_limit actor before ≡ (result, after)

-- A call begins, where nothing denies it, and goes on.
abbrev pub CompletesUnless : Option Refusal → Result (Option Reply) Refusal → Taken → ℕ → Call → Taken → Type 0
CompletesUnless (Some refusal) result before actor call after = (result ≡ Err refusal) × (after ≡ before)
CompletesUnless None result before actor call after =
    ((result ≡ Err Memory) × (after ≡ before)) ⊎ Resumes result (with_step before (Begin actor call None)) actor after

abbrev pub Completes : Result (Option Reply) Refusal → Taken → ℕ → Call → Taken → Type 0
Completes result before actor call after = CompletesUnless (denial_of (state_of before) (Begin actor call None)) result before actor call after

-- so many steps of the sweep
unfoldable pub swept : ℕ → Taken → Taken
swept zero machine = machine
swept (suc n) machine = swept n (with_step machine Sweep)

-- limbo isn't empty
abbrev pub HasLimbo : Taken → Type 0
HasLimbo machine = (state_of machine).limbo ≡ [] → ⊥

-- each of so many steps of the sweep is taken, and limbo isn't empty before it
abbrev pub AreNeeded : ℕ → Taken → Type 0
AreNeeded n machine = (m : ℕ) → m < n → HasLimbo (swept m machine) × IsTaken (state_of (swept m machine)) Sweep

-- how steps of the sweep come to an end: limbo is empty, or else memory is wanting for a step that nothing denies, or the
-- machine has taken all its steps
abbrev pub SweepsUntil : Result (Unit {0}) Refusal → Taken → Type 0
SweepsUntil (Ok done) after = (state_of after).limbo ≡ []
SweepsUntil (Err Memory) after = HasLimbo after × (denial_of (state_of after) Sweep ≡ None)
SweepsUntil (Err Spent) after = HasLimbo after × (is_spent (state_of after) ≡ true)
SweepsUntil (Err refusal) after = ⊥

abbrev pub ReclaimsUnless : Bool → Result (Unit {0}) Refusal → Taken → Taken → Type 0
ReclaimsUnless true result before after = (result ≡ Err Busy) × (after ≡ before)
ReclaimsUnless false result before after = (n : ℕ) × (after ≡ swept n before) × AreNeeded n before × SweepsUntil result after

-- Where no operation runs, the sweep goes on until limbo is empty. The steps taken so far stand in any case.
abbrev pub Reclaims : Result (Unit {0}) Refusal → Taken → Taken → Type 0
Reclaims result before after = ReclaimsUnless (is_busy (state_of before)) result before after
