-- Lists that grow.
use Rattle.std.specs.Prelude.{ℕ, List}

-- what is in a list, and for how many more there is room
pub record Growing (X : Type 0) : Type 0 where
  pub items : List X
  pub room : ℕ
