use Rattle.std.proofs.Common.{◌≡◌, ℕ, ◌-◌, ◌<◌, ◌==◌, length, set, slice_index, sym, ap, ◌∙◌, inl, inr, arith}
use Rattle.slot_arena.specs.Times.{times}
use Rattle.slot_arena.specs.Tallies.{Tally, naming, NotesZeros}
use Rattle.slot_arena.specs.Loans.{Ledger, lent, owed}
use Rattle.slot_arena.proofs.Lendings.{backed_lowered, count_seen, counts_same, owed_set, size_seen, some_seen, zeros_seen}
use Rattle.slot_arena.proofs.Marks.{neither_zero, zeros_written}
use Rattle.slot_arena.proofs.ledger.Ledger.lower.Goals as goal

pub lower_but_last-requires-clause-within : goal.lower_but_last-requires-clause-within
lower_but_last-requires-clause-within c = omega (arith, size_seen _ _ _ c.self.view_is, c.requires.within)

pub lower_but_last-requires-clause-some : goal.lower_but_last-requires-clause-some
lower_but_last-requires-clause-some c = some_seen _ _ _ c.self.view_is c.self.invariant c.args.slot c.requires.some

-- ---- where it isn't the last one

pub returns-then-lower_but_last-clause-counts : goal.returns-then-lower_but_last-clause-counts
returns-then-lower_but_last-clause-counts c =
    let a : Tally = c.self.inside.tally in
    let slot : ℕ = c.args.slot in
    let was : ℕ = slice_index c.args.self.now.tally.counts slot in
    let lowered = c.lower_but_last.ensures.lowered c.if-lower_but_last.true in
    let within : slot < length a.counts = omega (arith, size_seen _ _ _ c.self.view_is, c.requires.within) in
    ap (λ cs. owed cs (lent c.self.inside.loan)) lowered.1
    ∙ owed_set a.counts (lent c.self.inside.loan) slot (slice_index a.counts slot - 1) (was - 1) within c.self.invariant.within
    (omega (arith, count_seen _ _ _ c.self.view_is c.self.invariant slot, lowered.0))
    ∙ ap (λ (l : Ledger). set l.tally.counts slot (was - 1)) c.self.view_is

pub returns-then-lower_but_last-clause-noted : goal.returns-then-lower_but_last-clause-noted
returns-then-lower_but_last-clause-noted c =
    let a : Tally = c.self.inside.tally in
    let b : Tally = c.lower_but_last.new.self in
    let slot : ℕ = c.args.slot in
    let lowered = c.lower_but_last.ensures.lowered c.if-lower_but_last.true in
    let within : slot < length a.counts = omega (arith, size_seen _ _ _ c.self.view_is, c.requires.within) in
    let notes : NotesZeros a b = zeros_written a slot (slice_index a.counts slot - 1) b.counts b.noted 0 (λ k none. sym (ap (times k) c.lower_but_last.ensures.noted) ∙ none) lowered.1 within
    (inr (neither_zero (slice_index a.counts slot) (slice_index a.counts slot - 1) (omega (arith, lowered.0)) (omega (arith, lowered.0)))) in
    zeros_seen _ _ _ c.self.view_is b c.self.inside.loan 0 c.self.invariant
    (backed_lowered a.counts b.counts (lent c.self.inside.loan) slot c.self.invariant lowered.1 within (omega (arith, lowered.0)) (inr lowered.0)) notes

-- ---- where it is, and isn't lent any more

pub lower-requires-clause-within : goal.lower-requires-clause-within
lower-requires-clause-within c =
    let last = c.lower_but_last.ensures.last c.if-lower_but_last.false in
    let same = counts_same _ _ _ c.self.view_is c.lower_but_last.new.self _ last.1 (ap (λ (t : Tally). t.counts) c.claim.ensures.tally) in
    omega (arith, size_seen _ _ _ c.self-2.view_is, ap length same, c.requires.within)

pub lower-requires-clause-some : goal.lower-requires-clause-some
lower-requires-clause-some c =
    let last = c.lower_but_last.ensures.last c.if-lower_but_last.false in
    let same = counts_same _ _ _ c.self.view_is c.lower_but_last.new.self _ last.1 (ap (λ (t : Tally). t.counts) c.claim.ensures.tally) in
    some_seen _ _ _ c.self-2.view_is c.self-2.invariant c.args.slot (omega (arith, ap (λ cs. slice_index cs c.args.slot) same, c.requires.some))

pub invariant_of-self-3 : goal.invariant_of-self-3
invariant_of-self-3 c =
    let last = c.lower_but_last.ensures.last c.if-lower_but_last.false in
    let same = counts_same _ _ _ c.self.view_is c.lower_but_last.new.self _ last.1 (ap (λ (t : Tally). t.counts) c.claim.ensures.tally) in
    let within : c.args.slot < length c.self-2.inside.tally.counts = omega (arith, size_seen _ _ _ c.self-2.view_is, ap length same, c.requires.within) in
    let some : 0 < slice_index c.self-2.inside.tally.counts c.args.slot =
    some_seen _ _ _ c.self-2.view_is c.self-2.invariant c.args.slot (omega (arith, ap (λ cs. slice_index cs c.args.slot) same, c.requires.some)) in
    let unlent : naming c.args.slot (lent c.self-2.inside.loan) ≡ 0 = ap (λ (l : Ledger). naming c.args.slot (lent l.loan)) c.self-2.view_is ∙ c.claim.ensures.free in
    backed_lowered c.self-2.inside.tally.counts c.lower.new.self.counts (lent c.self-2.inside.loan) c.args.slot c.self-2.invariant c.lower.ensures.counts within some (inl unlent)

pub returns-clause-counts : goal.returns-clause-counts
returns-clause-counts c =
    let a : Tally = c.self-2.inside.tally in
    let slot : ℕ = c.args.slot in
    let was : ℕ = slice_index c.args.self.now.tally.counts slot in
    let last = c.lower_but_last.ensures.last c.if-lower_but_last.false in
    let same = counts_same _ _ _ c.self.view_is c.lower_but_last.new.self _ last.1 (ap (λ (t : Tally). t.counts) c.claim.ensures.tally) in
    let at_slot = ap (λ cs. slice_index cs slot) same in
    let within : slot < length a.counts = omega (arith, size_seen _ _ _ c.self-2.view_is, ap length same, c.requires.within) in
    let some : 0 < slice_index a.counts slot = some_seen _ _ _ c.self-2.view_is c.self-2.invariant slot (omega (arith, at_slot, c.requires.some)) in
    ap (λ cs. owed cs (lent c.self-2.inside.loan)) c.lower.ensures.counts
    ∙ owed_set a.counts (lent c.self-2.inside.loan) slot (slice_index a.counts slot - 1) (was - 1) within c.self-2.invariant.within
    (omega (arith, count_seen _ _ _ c.self-2.view_is c.self-2.invariant slot, at_slot, some))
    ∙ ap (λ (l : Ledger). set l.tally.counts slot (was - 1)) c.self-2.view_is ∙ ap (λ cs. set cs slot (was - 1)) same

pub returns-clause-noted : goal.returns-clause-noted
returns-clause-noted c k none =
    let last = c.lower_but_last.ensures.last c.if-lower_but_last.false in
    let same = counts_same _ _ _ c.self.view_is c.lower_but_last.new.self _ last.1 (ap (λ (t : Tally). t.counts) c.claim.ensures.tally) in
    let noted = ap (λ (t : Tally). t.noted) c.claim.ensures.tally ∙ c.lower_but_last.ensures.noted ∙ ap (λ (l : Ledger). l.tally.noted) c.self.view_is in
    let step = zeros_seen _ _ _ c.self-2.view_is c.lower.new.self c.self-2.inside.loan 0 c.self-2.invariant (invariant_of-self-3 c) c.lower.ensures.noted k none in
    (sym (ap (times k) noted) ∙ step.0, sym (ap (λ cs. slice_index cs k == 0) same) ∙ step.1)
