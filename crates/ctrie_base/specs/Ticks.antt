-- What a contract sees of ticks.
use Rattle.std.specs.Prelude.{ℕ}

pub record Count : Type 0 where
  pub count : ℕ
