use Rattle.std.proofs.Common.{◌+◌, ◌<◌, ◌∙◌, arith, ap}
use Rattle.trie_parts.specs.Beneath.slot_arena.specs.Times.{times}
use Rattle.trie_parts.specs.Beneath.slot_arena.proofs.Times.{once_same, times-without}
use Rattle.trie_parts.proofs.Counting.{times_more, times_part, times_all}
use Rattle.trie_parts.proofs.private.release_all.Goals as goal

pub release-requires : goal.release-requires
release-requires c =
    let at = c.at-item.result in
    let more = times_more at c.args.held.now c.loop-at.at-index at c.loop-at-test.true c.at-item.is in
    omega (arith, c.loop-at.invariant.others at, c.requires.held at, more, once_same at, times_part at c.args.held.now (c.loop-at.at-index + 1))

pub loop-at-preserved : goal.loop-at-preserved
loop-at-preserved c =
    let at = c.at-item.result in
    let i = c.loop-at.at-index in
    let more = times_more at c.args.held.now i at c.loop-at-test.true c.at-item.is in
    let some : 0 < times at c.loop-at.heap.outside =
    omega (arith, c.loop-at.invariant.others at, c.requires.held at, more, once_same at, times_part at c.args.held.now (i + 1))
    in
    record {
      heap = c.release.ensures.heap ∙ c.loop-at.invariant.heap;
      others = λ r. omega (
        arith,
        c.loop-at.invariant.others r,
        ap (times r) c.release.ensures.outside,
        times-without r at c.loop-at.heap.outside some,
        times_more r c.args.held.now i at c.loop-at-test.true c.at-item.is,
      );
      epochs = (
        c.release.ensures.epochs.0 ∙ c.loop-at.invariant.epochs.0,
        c.release.ensures.epochs.1 ∙ c.loop-at.invariant.epochs.1,
        c.release.ensures.epochs.2 ∙ c.loop-at.invariant.epochs.2,
        c.release.ensures.epochs.3 ∙ c.loop-at.invariant.epochs.3,
      );
      few = omega (arith, c.release.ensures.few, c.loop-at.invariant.few);
      ticks = omega (arith, c.release.ensures.ticks, c.loop-at.invariant.ticks);
    }

pub returns-clause-others : goal.returns-clause-others
returns-clause-others c = λ r. omega (arith, c.loop-at.invariant.others r, times_all r c.args.held.now c.loop-at.at-index c.loop-at-test.false)
