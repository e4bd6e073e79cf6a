use Rattle.std.proofs.Common.{◌≡◌, ℕ, ◌+◌, ◌<◌, List, length, set, ap, ◌∙◌, arith}
use Rattle.slot_arena.specs.Tallies.{Tally, naming}
use Rattle.slot_arena.specs.Loans.{Ledger, lent, owed}
use Rattle.slot_arena.proofs.Lendings.{count_seen, owed_set, size_seen}
use Rattle.slot_arena.proofs.ledger.Ledger.begin.Goals as goal

pub begin-requires : goal.begin-requires
begin-requires c = omega (arith, size_seen _ _ _ c.self.view_is, c.requires.within)

pub returns-clause-tally : goal.returns-clause-tally
returns-clause-tally c =
    let a : Tally = c.self.inside.tally in
    let slot : ℕ = c.args.slot in
    let within : c.args.slot < length c.self.inside.tally.counts = omega (arith, size_seen _ _ _ c.self.view_is, c.requires.within) in
    let none : 1 + naming slot (lent c.self.inside.loan) ≡ 1 = omega (arith, count_seen _ _ _ c.self.view_is c.self.invariant slot, c.requires.none) in
    ap (λ (t : Tally). record { counts = owed t.counts (lent c.self.inside.loan); noted = t.noted; ticks = t.ticks }) c.begin.ensures
    ∙ ap (λ (cs : List ℕ). record { counts = cs; noted = a.noted; ticks = a.ticks + 1 }) (owed_set a.counts (lent c.self.inside.loan) slot 1 1 within c.self.invariant.within none)
    ∙ ap (λ (l : Ledger). record { counts = set l.tally.counts slot 1; noted = l.tally.noted; ticks = l.tally.ticks + 1 }) c.self.view_is
