use Rattle.std.proofs.Common.{arith}
use Rattle.slot_arena.specs.Loans.{lent}
use Rattle.slot_arena.proofs.Namings.{naming-le}
use Rattle.slot_arena.proofs.Lendings.{backed_grown, count_seen, length-owed, owed_at, size_seen, within_seen, zeros_seen}
use Rattle.slot_arena.proofs.ledger.Ledger.raise_all.Goals as goal

pub raise_all-requires-clause-within : goal.raise_all-requires-clause-within
raise_all-requires-clause-within c = within_seen _ _ _ c.self.view_is c.args.refs.now c.requires.within

pub raise_all-requires-clause-room : goal.raise_all-requires-clause-room
raise_all-requires-clause-room c slot = omega (arith, count_seen _ _ _ c.self.view_is c.self.invariant slot, c.requires.room slot)

pub invariant_of-self : goal.invariant_of-self
invariant_of-self c =
    backed_grown c.self.inside.tally.counts c.raise_all.new.self.counts (lent c.self.inside.loan) c.self.invariant c.raise_all.ensures.size
    (λ k. omega (arith, c.raise_all.ensures.counts k))
    (λ k. omega (arith, c.raise_all.ensures.counts k, naming-le k c.args.refs.now, count_seen _ _ _ c.self.view_is c.self.invariant k, c.requires.room k))

pub returns-clause-size : goal.returns-clause-size
returns-clause-size c = omega (arith, length-owed c.raise_all.new.self.counts (lent c.self.inside.loan), c.raise_all.ensures.size, size_seen _ _ _ c.self.view_is)

pub returns-clause-counts : goal.returns-clause-counts
returns-clause-counts c slot =
    omega (
      arith,
      owed_at c.raise_all.new.self.counts (lent c.self.inside.loan) slot (invariant_of-self c).within,
      c.raise_all.ensures.counts slot,
      count_seen _ _ _ c.self.view_is c.self.invariant slot,
    )

pub returns-clause-noted : goal.returns-clause-noted
returns-clause-noted c = zeros_seen _ _ _ c.self.view_is c.raise_all.new.self c.self.inside.loan 0 c.self.invariant (invariant_of-self c) c.raise_all.ensures.noted
