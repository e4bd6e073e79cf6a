use Rattle.std.proofs.Common.{length, ap, arith}
use Rattle.std.proofs.lemmas.List.{length-take-le}
use Rattle.slot_arena.specs.Loans.{Loan}
use Rattle.slot_arena.proofs.loan.Loan.kept.Goals as goal

pub returns-clause-within : goal.returns-clause-within
returns-clause-within c =
    let kept = c.self.invariant.2 in
    omega (arith, ap (λ (l : Loan). length l.refs) c.self.view_is, length-take-le c.self.inside.len c.self.inside.refs c.self.invariant.0)
