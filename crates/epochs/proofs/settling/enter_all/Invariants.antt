use Rattle.std.proofs.Common.{◌≡◌, ◌+◌, ◌*◌, ◌++◌, take}
use Rattle.epochs.proofs.settling.enter_all.Given as goal

abbrev pub invariant-loop-index : goal.invariant-loop-index
invariant-loop-index l = record {
  bags : l.bags.bags ≡ record l.fn.bags.bags { present = l.fn.bags.bags.present ++ take l.index l.fn.fresh.refs };
  refs : l.fresh.refs ≡ l.fn.fresh.refs;
  room : l.fresh.room ≡ l.fn.fresh.room;
  ticks : l.bags.ticks + l.fresh.ticks ≡ l.fn.bags.ticks + l.fn.fresh.ticks + 7 * l.index;
}
