use Rattle.std.proofs.Common.{◌≡◌, ◌+◌, ◌*◌, ◌≤◌, length}
use Rattle.epochs.specs.Rings.{all_of}
use Rattle.epochs.proofs.Sifting.{Sifting}
use Rattle.epochs.proofs.settling.sift.Given as goal

abbrev pub invariant-loop : goal.invariant-loop
invariant-loop l = record {
  heap : l.arena.heap ≡ l.fn.arena.heap;
  outside : l.arena.outside ≡ l.fn.arena.outside;
  left_to_do : length l.arena.noted + l.counter ≡ length l.fn.arena.noted;
  sifting : Sifting l.fn.arena l.fn.bags.bags l.arena.noted l.bags.bags l.fresh.refs;
  listed : length l.fresh.refs ≤ l.counter;
  room : l.fresh.room ≡ l.fn.fresh.room;
  ticks : l.arena.ticks + l.bags.ticks + l.fresh.ticks + 5 * length (all_of l.bags.bags) ≡ l.fn.arena.ticks + l.fn.bags.ticks + l.fn.fresh.ticks + 5 * length (all_of l.fn.bags.bags) + 3 *
      l.counter + length l.fresh.refs;
}
