-- The bounds of a machine that keeps its record are in range, where its limits are.
use Rattle.std.proofs.Common.{◌≤◌, arith}
use Rattle.proof_runs.specs.Vocabulary.{Limits, AreLimits, bounded, AreBounds, longest_life, most_actors, most_slots}

pub in_bounds : (limits : Limits) → AreLimits limits → AreBounds (bounded limits)
in_bounds limits ok = (ok.0, ok.2, omega (arith, ok.3))

-- it has few actors
pub few_actors : (limits : Limits) → AreLimits limits → (bounded limits).actors ≤ most_actors
few_actors limits ok = ok.3

-- its life too
pub in_life : (limits : Limits) → AreLimits limits → (bounded limits).steps ≤ longest_life
in_life limits ok = omega arith

-- and the number of its slots
pub few_slots : (limits : Limits) → AreLimits limits → (bounded limits).slots ≤ most_slots
few_slots limits ok = omega arith
