-- Places and closings lie in the past.
use Rattle.std.specs.Prelude.{◌<◌, List, All}
use Rattle.proof_order.specs.Vocabulary.{Bounds, Step, run, record_of}

-- each place and each closing names a step that was taken
abbrev pub PlacesPast : Type 0
PlacesPast =
    (limits : Bounds) (steps : List Step) →
    All (λ place. place.step < (run limits steps).steps) (record_of limits steps).places
    × All (λ closing. closing.step < (run limits steps).steps) (record_of limits steps).closings
