-- A new runner and its seats.
use Rattle.std.specs.Prelude.{◌≡◌, ℕ, zero, suc, ◌+◌, ◌≤◌, ◌⊎◌, List, [], ◌∷◌, None}
use Rattle.lock_runner.specs.Vocabulary.{Refusal, BadLimits, Limits, AreLimits}
use Rattle.ctrie_base.specs.declared.refusals.Refusal.TheVariants.{Memory}
use Rattle.atomic_table.specs.Seated.{TableId}
use Rattle.lock_runner.specs.Beneath.proof_runs.specs.Machines.{fresh}
use Rattle.gate.specs.Logs as log
use Rattle.lock_runner.specs.Asks.{Pass}
use Rattle.lock_runner.specs.Seats.{Room, Seated, seated}

-- the sizes are in range, and so is the number of seats
abbrev pub AreTerms : Limits → ℕ → Type 0
AreTerms limits seats = AreLimits limits × (1 ≤ seats) × (seats ≤ limits.actors)

-- they are out of range, or memory was lacking for what is in range
abbrev pub RefusesTerms : Limits → ℕ → Refusal → Type 0
RefusesTerms limits seats refusal = ((¬ AreTerms limits seats) × (refusal ≡ BadLimits)) ⊎ (AreTerms limits seats × (refusal ≡ Memory))

-- a seat that has taken no step
abbrev pub fresh_seat : TableId → Limits → ℕ → Seated
fresh_seat id limits actor =
    record { runner = id; actor = actor; seen = fresh limits; log = []; answers = []; running = None; sweeps = 0; heard = 0 }

-- so many of them, for the actors from this one on
abbrev pub fresh_seats : TableId → Limits → ℕ → ℕ → List Seated
fresh_seats id limits actor zero = []
fresh_seats id limits actor (suc n) = fresh_seat id limits actor ∷ fresh_seats id limits (actor + 1) n

-- the runner has these sizes, and a fresh seat for each of its actors
pub record IsMade (limits : Limits) (seats : ℕ) (runner : Room) (made : List Seated) : Type 0 where
  pub sizes : runner.limits ≡ limits
  pub number : runner.seats ≡ seats
  pub fresh : made ≡ fresh_seats runner.id limits 1 seats

-- a seat at the gate that has seen the machine of these sizes without steps, for one of its actors
pub record IsFreshPass (limits : Limits) (pass : Pass) : Type 0 where
  pub seen : pass.seen ≡ log.fresh record { machine = fresh limits }
  pub low : 1 ≤ pass.number
  pub high : pass.number ≤ limits.actors

-- the actor's seat that it becomes
abbrev pub opened : Pass → Seated
opened pass = seated pass [] None 0 0
