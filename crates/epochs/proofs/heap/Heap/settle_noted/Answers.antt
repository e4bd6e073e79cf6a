use Rattle.std.proofs.Common.{length, sym, ap, ◌∙◌, subst, arith}
use Rattle.std.proofs.lemmas.List.Sorted.{length_permutation}
use Rattle.slot_arena.specs.Heaps.{Heap}
use Rattle.epochs.specs.Limbo.{limbo_after, newly_zero}
use Rattle.epochs.specs.Rings.{Bags}
use Rattle.epochs.specs.Settling.{Listed}
use Rattle.epochs.specs.Memories.{Memory, IsMemory, limbo_of, staying}
use Rattle.epochs.proofs.Staying.{length-limbo_of}
use Rattle.epochs.proofs.Settled.{single, within, settled, settled_lists, after_settling, length_settled, still_empty, no_more}
use Rattle.epochs.proofs.heap.Heap.settle_noted.Goals as goal

pub enter_all-requires-clause-within : goal.enter_all-requires-clause-within
enter_all-requires-clause-within c =
    within c.self.inside.arena c.self.inside.bags.bags c.sift.new.bags.bags c.sift.new.fresh.refs c.sort.new.self.refs c.self.invariant.0.lists c.sift.ensures.sifted
    c.sort.ensures.permutation c.sort.ensures.sorted

pub enter_all-requires-clause-single : goal.enter_all-requires-clause-single
enter_all-requires-clause-single c k =
    single c.self.inside.arena c.self.inside.bags.bags c.sift.new.bags.bags c.sift.new.fresh.refs c.sort.new.self.refs c.self.invariant.0.lists c.sift.ensures.sifted
    c.sort.ensures.permutation c.sort.ensures.sorted k

pub invariant_of-self : goal.invariant_of-self
invariant_of-self c =
    let after : Bags = after_settling c.self.inside.arena c.self.inside.bags.bags c.sift.new.bags.bags c.sift.new.fresh.refs c.sort.new.self.refs c.self.invariant.0.lists
    c.sift.ensures.sifted c.sort.ensures.permutation c.sort.ensures.sorted in
    let memory = c.self.invariant.0 in
    let empty = still_empty c.self.inside.arena c.self.inside.bags.bags c.sift.new.bags.bags c.sift.new.fresh.refs c.sort.new.self.refs c.self.invariant.0.lists c.sift.ensures.sifted
    c.sort.ensures.permutation c.sort.ensures.sorted in
    let kept : IsMemory c.sift.new.arena after c.self.inside.epoch c.self.inside.cursor c.self.inside.pins.items = record {
      lists = settled_lists c.self.inside.arena c.self.inside.bags.bags c.sift.new.bags.bags c.sift.new.fresh.refs c.sort.new.self.refs c.self.invariant.0.lists c.sift.ensures.sifted
          c.sort.ensures.permutation c.sort.ensures.sorted c.sift.new.arena c.sift.ensures.heap c.sift.ensures.outside;
      oldest_first = λ some. memory.oldest_first (empty.0 some);
      middle_next = λ some. memory.middle_next (empty.1 some);
      started = memory.started;
      passed = memory.passed;
      few = memory.few;
      recent = memory.recent;
    } in (
      subst (λ bs. IsMemory c.sift.new.arena bs c.self.inside.epoch c.self.inside.cursor c.self.inside.pins.items) (sym c.enter_all.ensures.bags) kept,
      ap (λ (l : Listed). l.refs) c.clear.ensures,
      omega (
        arith,
        c.self.invariant.2,
        ap (λ (h : Heap). length h.slots) c.sift.ensures.heap,
        c.sift.ensures.room,
        c.sort.ensures.room,
        c.enter_all.ensures.room,
        ap (λ (l : Listed). l.room) c.clear.ensures,
      ),
      c.ticks_of-self-inside.ensures,
    )

pub returns : goal.returns
returns c =
    record {
      limbo =
          ap (limbo_of c.self.inside.epoch) c.enter_all.ensures.bags
          ∙ settled c.self.inside.arena c.self.inside.bags.bags c.sift.new.bags.bags c.sift.new.fresh.refs c.sort.new.self.refs c.self.invariant.0.lists c.sift.ensures.sifted
          c.sort.ensures.permutation c.sort.ensures.sorted c.self.inside.epoch
          ∙ ap (λ (m : Memory). limbo_after m.heap m.outside m.epoch m.limbo) c.self.view_is;
      settled = search;
      heap = search;
      outside = search;
      epochs = search;
      ticks =
          let sizes = length_settled c.self.inside.arena c.self.inside.bags.bags c.sift.new.bags.bags c.sift.new.fresh.refs c.sort.new.self.refs c.self.invariant.0.lists c.sift.ensures.sifted
          c.sort.ensures.permutation c.sort.ensures.sorted c.self.inside.epoch in
          omega (
            arith,
            no_more c.self.inside.arena c.self.inside.bags.bags c.sift.new.bags.bags c.sift.new.fresh.refs c.sort.new.self.refs c.self.invariant.0.lists c.sift.ensures.sifted
                c.sort.ensures.permutation c.sort.ensures.sorted,
            sizes.0,
            sizes.1,
            length-limbo_of c.self.inside.epoch c.self.inside.bags.bags,
            length_permutation c.sift.new.fresh.refs c.sort.new.self.refs c.sort.ensures.permutation,
            c.self.invariant.3,
            c.ticks_of-self-inside.ensures,
            c.sift.ensures.ticks,
            c.sort.ensures.ticks,
            c.enter_all.ensures.ticks,
            ap (λ (l : Listed). l.ticks) c.clear.ensures,
            ap (λ (m : Memory). m.ticks) c.self.view_is,
            ap (λ (m : Memory). length m.noted) c.self.view_is,
            ap (λ (m : Memory). length m.limbo) c.self.view_is,
            ap (λ (m : Memory). length (staying m.heap m.outside m.limbo)) c.self.view_is,
            ap (λ (m : Memory). length (newly_zero m.heap m.outside m.limbo)) c.self.view_is,
          );
      rising =
          omega (
            arith,
            no_more c.self.inside.arena c.self.inside.bags.bags c.sift.new.bags.bags c.sift.new.fresh.refs c.sort.new.self.refs c.self.invariant.0.lists c.sift.ensures.sifted
                c.sort.ensures.permutation c.sort.ensures.sorted,
            c.self.invariant.3,
            c.ticks_of-self-inside.ensures,
            c.sift.ensures.ticks,
            c.sort.ensures.ticks,
            c.enter_all.ensures.ticks,
            ap (λ (l : Listed). l.ticks) c.clear.ensures,
            ap (λ (m : Memory). m.ticks) c.self.view_is,
          );
    }
