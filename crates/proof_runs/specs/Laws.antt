-- What the steps of a machine add to its record, for every list of steps.
use Rattle.std.specs.Prelude.{◌≡◌, ◌+◌, ◌≤◌, List, All, length, ◌++◌, ◌∷◌, []}
use Rattle.proof_runs.specs.Vocabulary.{Ref, slot_of, Bounds, Step, AreBounds, run, record_of, IsInUse}

-- a step adds at most one place
abbrev pub OnePlaceAStep : Type 0
OnePlaceAStep =
    (limits : Bounds) (steps : List Step) (s : Step) → length (record_of limits (steps ++ s ∷ [])).places ≤ length (record_of limits steps).places + 1

-- no node that was committed in the slot of a node in use is newer than it
abbrev pub CommittedAreNewest : Type 0
CommittedAreNewest =
    (limits : Bounds) (steps : List Step) → AreBounds limits → (main : Ref) → IsInUse (run limits steps).heap main →
    All (λ commit. slot_of commit.main ≡ slot_of main → commit.main ≤ main) (record_of limits steps).commits

-- no node that was published in the slot of a node in use is newer than it
abbrev pub PublishedAreNewest : Type 0
PublishedAreNewest =
    (limits : Bounds) (steps : List Step) → AreBounds limits → (main : Ref) → IsInUse (run limits steps).heap main →
    All (λ p. slot_of p.main ≡ slot_of main → p.main ≤ main) (record_of limits steps).published
