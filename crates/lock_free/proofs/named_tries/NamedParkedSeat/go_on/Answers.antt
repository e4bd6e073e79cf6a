use Rattle.std.proofs.Common.{sym, subst}
use Rattle.lock_free.specs.Seated.{Seated}
use Rattle.lock_free.specs.TriedCalls.{HasTriedCall, IsParkedCall}
use Rattle.lock_free.proofs.named_tries.NamedParkedSeat.go_on.Goals as goal

pub returns-clause-tried : goal.returns-clause-tried
returns-clause-tried g c before call tried on =
    subst (HasTriedCall before call) (sym c.new.ensures)
    (c.go_on.ensures.tried before call tried (subst (λ (x : Seated). IsParkedCall before call x.view) (sym c.self.view_is) on))
