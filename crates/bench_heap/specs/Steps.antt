-- How far places have come.
use Rattle.std.specs.Prelude.{ℕ, ◌<◌, All}
use Rattle.places.specs.Segments.{Listing}

-- each closing and each place stands before this step
pub record IsBelow (step : ℕ) (listing : Listing) : Type 0 where
  pub closings : All (λ closing. closing < step) listing.closings
  pub places : All (λ place. place.step < step) listing.places
