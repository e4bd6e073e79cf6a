use Rattle.std.proofs.Common.{◌==◌, slice_index, ap, sym, ◌∙◌, arith}
use Rattle.slot_arena.specs.Loans.{Ledger, lent}
use Rattle.slot_arena.proofs.Lendings.{owed_zero, size_seen}
use Rattle.slot_arena.proofs.ledger.Ledger.is_zero.Goals as goal

pub count-requires : goal.count-requires
count-requires c = omega (arith, size_seen _ _ _ c.self.view_is, c.requires)

pub returns-clause-zero : goal.returns-clause-zero
returns-clause-zero c =
    ap (λ n. n == 0) c.count.ensures.count ∙ sym (owed_zero c.self.inside.tally.counts (lent c.self.inside.loan) c.args.slot c.self.invariant)
    ∙ ap (λ (l : Ledger). slice_index l.tally.counts c.args.slot == 0) c.self.view_is
