use Rattle.std.proofs.Common.{ℕ, Option, None, replicate, refl}
use Rattle.std.proofs.lemmas.List.{length-replicate}
use Rattle.history.proofs.Places.{at_nothing}
use Rattle.history.proofs.Noting.{none_noted}
use Rattle.history.proofs.tables.Table.new.Goals as goal

pub returns : goal.returns
returns c =
    let nothing : Option ℕ = None in
    rw c.new.ensures.items (none_noted (replicate 256 nothing) (length-replicate 256 nothing) (λ actor id. at_nothing 256 actor id nothing refl))
