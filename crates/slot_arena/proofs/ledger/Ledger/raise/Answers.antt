use Rattle.std.proofs.Common.{◌≡◌, ℕ, ◌+◌, ◌<◌, length, set, slice_index, ap, ◌∙◌, arith}
use Rattle.std.proofs.lemmas.List.{length-set}
use Rattle.slot_arena.specs.Tallies.{Tally}
use Rattle.slot_arena.specs.Loans.{Ledger, lent, owed}
use Rattle.slot_arena.proofs.Namings.{raised_at}
use Rattle.slot_arena.proofs.Lendings.{backed_grown, count_seen, owed_set, raised_room, size_seen, zeros_seen}
use Rattle.slot_arena.proofs.ledger.Ledger.raise.Goals as goal

pub raise-requires-clause-within : goal.raise-requires-clause-within
raise-requires-clause-within c = omega (arith, size_seen _ _ _ c.self.view_is, c.requires.within)

pub raise-requires-clause-room : goal.raise-requires-clause-room
raise-requires-clause-room c = omega (arith, count_seen _ _ _ c.self.view_is c.self.invariant c.args.slot, c.requires.room)

pub invariant_of-self : goal.invariant_of-self
invariant_of-self c =
    let a : Tally = c.self.inside.tally in
    let slot : ℕ = c.args.slot in
    let size : length c.raise.new.self.counts ≡ length a.counts = ap length c.raise.ensures.counts ∙ length-set a.counts slot (slice_index a.counts slot + 1) in
    let within : c.args.slot < length c.self.inside.tally.counts = omega (arith, size_seen _ _ _ c.self.view_is, c.requires.within) in
    let raised = λ (k : ℕ). ap (λ cs. slice_index cs k) c.raise.ensures.counts ∙ raised_at a.counts slot k within in
    backed_grown a.counts c.raise.new.self.counts (lent c.self.inside.loan) c.self.invariant size (λ k. omega (arith, raised k))
    (raised_room a.counts c.raise.new.self.counts (lent c.self.inside.loan) slot c.self.invariant raised (omega (arith, count_seen _ _ _ c.self.view_is c.self.invariant slot, c.requires.room)))

pub returns-clause-counts : goal.returns-clause-counts
returns-clause-counts c =
    let a : Tally = c.self.inside.tally in
    let slot : ℕ = c.args.slot in
    let within : c.args.slot < length c.self.inside.tally.counts = omega (arith, size_seen _ _ _ c.self.view_is, c.requires.within) in
    ap (λ cs. owed cs (lent c.self.inside.loan)) c.raise.ensures.counts
    ∙ owed_set a.counts (lent c.self.inside.loan) slot (slice_index a.counts slot + 1) (slice_index c.args.self.now.tally.counts slot + 1) within c.self.invariant.within
    (omega (arith, count_seen _ _ _ c.self.view_is c.self.invariant slot))
    ∙ ap (λ (l : Ledger). set l.tally.counts slot (slice_index c.args.self.now.tally.counts slot + 1)) c.self.view_is

pub returns-clause-noted : goal.returns-clause-noted
returns-clause-noted c = zeros_seen _ _ _ c.self.view_is c.raise.new.self c.self.inside.loan 0 c.self.invariant (invariant_of-self c) c.raise.ensures.noted
