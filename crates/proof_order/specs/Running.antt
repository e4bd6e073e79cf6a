-- What stays of an operation while it runs.
use Rattle.std.specs.Prelude.{◌≡◌}
use Rattle.proof_order.specs.Vocabulary.{Operation}

-- it is the same operation, further on
pub record IsSame (before after : Operation) : Type 0 where
  pub id : after.id ≡ before.id
  pub call : after.call ≡ before.call
  pub opens : after.opens ≡ before.opens
  pub access : after.access ≡ before.access
