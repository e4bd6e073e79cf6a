-- The marks of those that have a place.
use Rattle.std.proofs.Common.{[], refl}
use Rattle.chronicle.specs.Entered.{AreMarked}

pub none_marked : AreMarked [] []
none_marked id = refl
