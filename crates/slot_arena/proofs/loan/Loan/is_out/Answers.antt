use Rattle.std.proofs.Common.{length, ap, arith}
use Rattle.std.proofs.lemmas.Bool.Decides.{nat_tests}
use Rattle.std.proofs.lemmas.List.{length-take-le}
use Rattle.slot_arena.specs.Loans.{Loan}
use Rattle.slot_arena.proofs.loan.Loan.is_out.Goals as goal

pub returns-clause-out : goal.returns-clause-out
returns-clause-out c out over =
    let none = ap (λ (l : Loan). length l.refs) c.self.view_is in
    let len = length-take-le c.self.inside.len c.self.inside.refs c.self.invariant.0 in
    let empty = ap length over in
    grind (arith, nat_tests, out, none, len, empty)
