use Rattle.std.proofs.Common.{ℕ, List, get_or, ◌+◌, ◌-◌, ◌<◌, length, slice_index, ap, ◌∙◌, arith}
use Rattle.std.proofs.lemmas.List.{length-set}
use Rattle.slot_arena.specs.Refs.{slot_of}
use Rattle.slot_arena.proofs.Marks.{zeros_trans}
use Rattle.slot_arena.proofs.Lendings.{keeps_trans}
use Rattle.slot_arena.proofs.Times.{once, once_same}
use Rattle.slot_arena.proofs.Namings.{naming_more, naming_part-le, lowered_at}
use Rattle.slot_arena.proofs.ledger.Ledger.lower_all.Goals as goal

pub lower-requires-clause-some : goal.lower-requires-clause-some
lower-requires-clause-some c =
    let at : ℕ = c.slot.result in
    omega (
      arith,
      c.loop-one.invariant.counts at,
      c.requires.some at,
      naming_part-le at c.args.refs.now (c.loop-one.one-index + 1),
      naming_more at c.args.refs.now c.loop-one.one-index c.one-item.result c.loop-one-test.true c.one-item.is,
      ap (once at) c.slot.ensures,
      once_same at,
    )

pub loop-one-preserved : goal.loop-one-preserved
loop-one-preserved c =
    let counts : List ℕ = c.loop-one.self.tally.counts in
    let at : ℕ = c.slot.result in
    let within : at < length counts = let bound : slot_of (get_or c.args.refs.now c.loop-one.one-index c.one-item.result) < length c.args.self.now.tally.counts =
    c.requires.within c.loop-one.one-index c.one-item.result c.loop-one-test.true in omega (arith, c.loop-one.invariant.size, ap slot_of c.one-item.is, c.slot.ensures) in
    let some : 0 < slice_index counts at =
    omega (
      arith,
      c.loop-one.invariant.counts at,
      c.requires.some at,
      naming_part-le at c.args.refs.now (c.loop-one.one-index + 1),
      naming_more at c.args.refs.now c.loop-one.one-index c.one-item.result c.loop-one-test.true c.one-item.is,
      ap (once at) c.slot.ensures,
      once_same at,
    ) in
    record {
      size = ap length c.lower.ensures.counts ∙ length-set counts at (slice_index counts at - 1) ∙ c.loop-one.invariant.size;
      counts = λ slot. omega (
        arith,
        ap (λ cs. slice_index cs slot) c.lower.ensures.counts,
        lowered_at counts at slot within some,
        c.loop-one.invariant.counts slot,
        naming_more slot c.args.refs.now c.loop-one.one-index c.one-item.result c.loop-one-test.true c.one-item.is,
        ap (once slot) c.slot.ensures,
      );
      noted = zeros_trans c.args.self.now.tally c.loop-one.self.tally c.lower.new.self.tally c.loop-one.invariant.noted c.lower.ensures.noted;
      ticks = omega (arith, c.loop-one.invariant.ticks, c.lower.ensures.ticks);
      few = omega (arith, c.loop-one.invariant.few, c.lower.ensures.few);
      loan = keeps_trans c.args.self.now.loan c.loop-one.self.loan c.lower.new.self.loan c.loop-one.invariant.loan c.lower.ensures.loan;
    }
