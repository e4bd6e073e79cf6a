-- The legal order, of a machine at any time, and what a call does that runs alone.
use Rattle.std.specs.Prelude.{◌≡◌, ℕ, Bool, false, List, [], ◌∷◌, ◌++◌, Option, Some, None, option_map, Result, Ok}
use Rattle.std.specs.FinMap as map
use Rattle.proof_runs.specs.Vocabulary.{hash_of, Refusal, Writable, Call, Reply, HandleState, HandleMap, Explains, IsLegal, is_access, is_busy, order_of, root_at, Names, ShowsContents}
use Rattle.proof_runs.specs.Beneath.history.specs.declared.events.Event.TheVariants as event
use Rattle.proof_runs.specs.Beneath.machine_model.specs.declared.steps.Step.TheVariants.{Begin}
use Rattle.proof_linearizable.specs.Laws.{Does}
use Rattle.proof_runs.specs.Machines.{Taken, past_of, state_of, with_step}
use Rattle.proof_runs.specs.Callers.{going_on}

-- the order is legal for what the machine has recorded
abbrev pub IsLegalFor : Taken → List ℕ → Type 0
IsLegalFor machine order = IsLegal (hash_of machine.limits.hash) (past_of machine).events order

-- the order explains what the machine has recorded, and leads to a world with just the open handles, each of its kind and with its content
abbrev pub LeadsToContents : Taken → List ℕ → Type 0
LeadsToContents machine order =
    (world : HandleMap) × Explains (hash_of machine.limits.hash) (past_of machine).events order world × ShowsContents world (state_of machine)

-- this holds of the world to which the machine's order leads; there is no other one
abbrev pub InOrder : Taken → (HandleMap → Type 0) → Type 0
InOrder machine Fact = (world : HandleMap) × Explains (hash_of machine.limits.hash) (past_of machine).events (order_of (past_of machine)) world × Fact world

-- there the handle names a map of the machine's kind with these pairs, or nothing where it isn't open
abbrev pub IsInOrder : Taken → ℕ → List (ℕ × ℕ) → Type 0
IsInOrder machine handle pairs = InOrder machine (λ world. Names (root_at (state_of machine) handle) pairs (map.get world handle))

-- there the handle names a map with this value of the key, or none
abbrev pub HasInOrder : Taken → ℕ → ℕ → Option ℕ → Type 0
HasInOrder machine handle key value =
    InOrder machine (λ world. (shown : HandleState) × (map.get world handle ≡ Some shown) × (value ≡ map.get shown.pairs key))

-- whether the map that a handle names in a world is writable
abbrev pub writable_in : HandleMap → ℕ → Option Bool
writable_in world handle = option_map (λ shown. is_access Writable (Some shown.access)) (map.get world handle)

-- Where an operation was answered the history grew by just its begin and its end. It entered the order last, and its call led from the world that showed the
-- contents before to the one that shows them after, with its reply; where it was refused for want of slots, neither order nor contents changed.
abbrev pub ActedAlone : Result (Option Reply) Refusal → Taken → ℕ → Call → Taken → Type 0
ActedAlone (Ok (Some answer)) before actor call after =
    (id : ℕ) × (opens : Option ℕ) × (world next : HandleMap)
    × ((past_of after).events ≡ (past_of before).events ++ event.Begin id actor call opens ∷ event.End id answer ∷ [])
    × ShowsContents world (state_of before) × ShowsContents next (state_of after)
    × Does (hash_of before.limits.hash) (past_of before) (past_of after) id call opens answer world next
ActedAlone result before actor call after = Unit {0}

-- the call began where the earlier machine was at rest, and since then only its actor has taken steps, which haven't ended it
abbrev pub WentAlone : Taken → ℕ → Call → Taken → Type 0
WentAlone before actor call machine = (is_busy (state_of before) ≡ false) × ((n : ℕ) × (going_on n actor (with_step before (Begin actor call None)) ≡ (Ok None, machine)))

-- where there is an answer, nothing runs any more
abbrev pub RestsIfAnswered : Result (Option Reply) Refusal → Taken → Type 0
RestsIfAnswered (Ok (Some answer)) after = is_busy (state_of after) ≡ false
RestsIfAnswered result after = Unit {0}
