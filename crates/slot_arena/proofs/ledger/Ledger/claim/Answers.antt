use Rattle.std.proofs.Common.{◌≡◌, sym, ap, ◌∙◌, arith}
use Rattle.slot_arena.specs.Tallies.{naming}
use Rattle.slot_arena.specs.Loans.{Loan, Ledger, lent}
use Rattle.slot_arena.proofs.Lendings.{lent-le, over_lent}
use Rattle.slot_arena.proofs.ledger.Ledger.claim.Goals as goal
use Rattle.slot_arena.proofs.ledger.Ledger.claim.Goals.{else-is_out-via-then-is_out+else-may_name, else-is_out-via-else-is_out}

pub returns-else-is_out-clause-free : goal.returns-else-is_out-clause-free
returns-else-is_out-clause-free c = elim c.else-is_out.branch [
  | else-is_out-via-then-is_out+else-may_name w ↦
      let none : naming c.args.slot (lent c.self.inside.loan) ≡ 0 =
      omega (arith, lent-le c.self.inside.loan.refs c.self.inside.loan.kept c.args.slot, w.may_name.ensures.none w.if-may_name.false) in
      ap (λ (l : Ledger). naming c.args.slot (lent l.loan)) w.self-is ∙ ap (λ (l : Loan). naming c.args.slot (lent l)) w.may_name.ensures.same ∙ none
  | else-is_out-via-else-is_out w ↦
      ap (λ (l : Ledger). naming c.args.slot (lent l.loan)) (w.self-is ∙ sym c.self.view_is)
      ∙ ap (naming c.args.slot) (over_lent c.self.inside.loan (c.is_out.ensures.over w.if-is_out.false))
]
