use Rattle.std.proofs.Common.{ap, arith, sym, ◌≡◌, ◌+◌, length}
use Rattle.rdcss_root.specs.Vocabulary.{times}
use Rattle.rdcss_root.specs.Beneath.slot_arena.proofs.Times.{times-cons, times_le}
use Rattle.trie_parts.proofs.Counting.{times_more, times_part, times_all}
use Rattle.rdcss_root.proofs.Keeping.{kept_on, live_at}
use Rattle.rdcss_root.proofs.holding.hold_all.Goals as goal

pub hold-requires-clause-live : goal.hold-requires-clause-live
hold-requires-clause-live c = live_at c.args.refs.now c.requires.live c.loop-at.invariant.keeps.heap c.loop-at.at-index c.loop-at-test.true c.at-item.is

pub hold-requires-clause-room : goal.hold-requires-clause-room
hold-requires-clause-room c =
    let r = c.at-item.result in
    omega (arith, c.requires.room r, c.loop-at.invariant.outside r, times_part r c.args.refs.now c.loop-at.at-index, times_le r c.args.refs.now)

pub loop-at-preserved : goal.loop-at-preserved
loop-at-preserved c = record {
  outside = λ r. omega (
    arith,
    ap (times r) c.hold.ensures.outside,
    times-cons r c.at-item.result c.loop-at.heap.outside,
    c.loop-at.invariant.outside r,
    times_more r c.args.refs.now c.loop-at.at-index c.at-item.result c.loop-at-test.true c.at-item.is,
  );
  keeps = kept_on
      (c.loop-at.at-index + 1)
      c.loop-at.invariant.keeps
      (record {
        heap = c.hold.ensures.heap;
        epochs = c.hold.ensures.epochs;
        few = c.hold.ensures.few;
        ticks = (omega (arith, c.hold.ensures.ticks), omega (arith, c.hold.ensures.ticks));
      })
      (omega arith);
}

pub returns : goal.returns
returns c =
    let all : c.loop-at.at-index ≡ length c.args.refs.now = omega (arith, c.loop-at-test.false, c.loop-at.auto.at-index-end) in
    record {
      outside = λ r. omega (arith, c.loop-at.invariant.outside r, times_all r c.args.refs.now c.loop-at.at-index c.loop-at-test.false);
      keeps = rw (sym all) c.loop-at.invariant.keeps;
    }
