use Rattle.std.proofs.Common.{length, ap, arith}
use Rattle.std.proofs.lemmas.List.Sums.{count_by-le-length}
use Rattle.slot_arena.specs.Tallies.{Tally}
use Rattle.slot_arena.proofs.tally.Tally.noted_len.Goals as goal

pub returns-clause-few : goal.returns-clause-few
returns-clause-few c =
    let size = ap (λ (t : Tally). length t.counts) c.self.view_is in
    omega (arith, c.self.invariant.0.1, count_by-le-length (λ mark. mark) c.self.inside.is_noted.items)
