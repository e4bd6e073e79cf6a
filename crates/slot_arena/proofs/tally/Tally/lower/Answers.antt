use Rattle.std.proofs.Common.{◌≡◌, ℕ, ◌-◌, length, set, inl, sym, ap, ◌∙◌, arith}
use Rattle.slot_arena.specs.Times.{times}
use Rattle.slot_arena.specs.Tallies.{Tally}
use Rattle.slot_arena.proofs.Marks.{zeros_written}
use Rattle.slot_arena.proofs.tally.Tally.lower.Goals as goal

pub returns-then-count-eq0-clause-noted : goal.returns-then-count-eq0-clause-noted
returns-then-count-eq0-clause-noted c =
    let a : Tally = c.args.self.now in
    let count : ℕ = c.index.result.now - 1 in
    let counts_was = ap (λ (t : Tally). t.counts) c.self.view_is in
    let before : (k : ℕ) → times k c.enlist.new.self.noted ≡ 0 → times k a.noted ≡ 0 = λ k none.
    sym (ap (λ (t : Tally). times k t.noted) c.self.view_is) ∙ (c.enlist.ensures.others k none).0 in
    zeros_written a c.args.slot count c.enlist.new.self.counts c.enlist.new.self.noted 0 before (c.enlist.ensures.counts ∙ ap (λ cs. set cs c.args.slot count) counts_was)
    (omega (arith, ap length counts_was)) (inl c.enlist.ensures.noted)
