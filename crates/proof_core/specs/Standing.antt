-- What stands at an actor's place.
use Rattle.std.specs.Prelude.{◌≡◌, ℕ, ◌-◌, ◌<◌, ◌≤◌, List, length, slice_index_or, Option, None}
use Rattle.proof_core.specs.Vocabulary.{Operation}

-- at the actor's place in the list stands this, be it an operation or none; actors are counted from 1
pub record StandsAt (actors : List (Option Operation)) (actor : ℕ) (found : Option Operation) : Type 0 where
  pub counts : 1 ≤ actor
  pub within : actor - 1 < length actors
  pub is : slice_index_or actors (actor - 1) None ≡ found
